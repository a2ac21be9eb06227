-- The order of candidates, and that a candidate has one rank.
use Rattle.std.proofs.Common.{◌≡◌, ℕ, true, false, List, sym, ◌∙◌, subst, ap, length}
use Rattle.pd_types.specs.declared.region.Peer.{Peer}
use Rattle.pd_types.specs.declared.region.RegionBeat.{RegionBeat}
use Rattle.pd_types.specs.declared.rule.Rule.{Rule}
use Rattle.store_table.specs.declared.entry.StoreEntry.{StoreEntry}
use Rattle.heartbeat.specs.Counts.{region_count}
use Rattle.rule_fit.specs.Suits.{suits_in, counts_of}
use Rattle.rule_fit.proofs.LawLemmas.{one_number}
use Rattle.rule_checker.specs.declared.class.Class.{Class}
use Rattle.rule_checker.specs.declared.class.Class.TheVariants.{Promote, Transfer, AddVoter, AddLearner, Remove}
use Rattle.rule_checker.specs.declared.class.Ranked.{Ranked}
use Rattle.rule_checker.specs.Candidates.{steps_of, after_all}
use Rattle.rule_checker.specs.Ranks.{comes_first, wins_tie, is_before, score_of}
use Rattle.pd_types.proofs.Numbers.{less_on, less_self, lesser_on, lesser_self}
use Rattle.rule_checker.specs.Measure.{Leaves, Lowers}
use Rattle.rule_checker.proofs.BestLemmas.{IsChoice}

new_on_on : (held : List RegionBeat) (a b c : Ranked) → comes_first held a b ≡ true → comes_first held b c ≡ true → comes_first held a c ≡ true
new_on_on held a b c first second =
    lesser_on c.score b.score a.score _ _ _ (λ later sooner. lesser_on (region_count a.peer.store held) (region_count b.peer.store held) (region_count c.peer.store held) _ _ _ (less_on a.peer.store b.peer.store c.peer.store) sooner later) second first

new_self : (held : List RegionBeat) (a : Ranked) → comes_first held a a ≡ false
new_self held a = lesser_self a.score _ (lesser_self (region_count a.peer.store held) _ (less_self a.peer.store))

ties_on : (class : Class) (held : List RegionBeat) (a b c : Ranked) → wins_tie class held a b ≡ true → wins_tie class held b c ≡ true → wins_tie class held a c ≡ true
ties_on Promote held a b c first second = less_on a.peer.id b.peer.id c.peer.id first second
ties_on Transfer held a b c first second = less_on a.peer.id b.peer.id c.peer.id first second
ties_on AddVoter held a b c first second = new_on_on held a b c first second
ties_on AddLearner held a b c first second = new_on_on held a b c first second
ties_on Remove held a b c first second = lesser_on a.score b.score c.score _ _ _ (less_on a.peer.id b.peer.id c.peer.id) first second

ties_self : (class : Class) (held : List RegionBeat) (a : Ranked) → wins_tie class held a a ≡ false
ties_self Promote held a = less_self a.peer.id
ties_self Transfer held a = less_self a.peer.id
ties_self AddVoter held a = new_self held a
ties_self AddLearner held a = new_self held a
ties_self Remove held a = lesser_self a.score _ (less_self a.peer.id)

ranked : Peer → ℕ → ℕ → Ranked
ranked peer to score = record { peer = peer; to = to; score = score }

same_rank : (one other : Ranked) → one.peer ≡ other.peer → one.to ≡ other.to → one.score ≡ other.score → one ≡ other
unfolding ranked
same_rank one other e f g =
    ap (λ (p : Peer). ranked p one.to one.score) e ∙ ap (λ (n : ℕ). ranked other.peer n one.score) f ∙ ap (λ (n : ℕ). ranked other.peer other.to n) g

pub one_rank : (class : Class) (beat : RegionBeat) (rules : List Rule) (stores : List StoreEntry) (now from : ℕ) (one other : Ranked) → Lowers class beat rules stores now from one → Lowers class beat rules stores now from other → one.peer ≡ other.peer → one ≡ other
one_rank class beat rules stores now from one other first second e =
    let moved = subst (λ (p : Peer). Leaves class beat rules stores now p one.to) e first.leaves in
    let left : RegionBeat = after_all (steps_of class beat stores now other.peer) beat in
    same_rank one other e
    (one_number (suits_in left rules stores now) (length left.region.peers) (counts_of rules) one.to other.to moved second.leaves)
    (first.score ∙ ap (λ (p : Peer). score_of class beat rules stores p) e ∙ sym second.score)

-- the candidates of a class that lower the number, in their order
pub class_choice : (class : Class) (beat : RegionBeat) (rules : List Rule) (stores : List StoreEntry) (held : List RegionBeat) (now from : ℕ) → IsChoice (Lowers class beat rules stores now from) (is_before class held)
class_choice class beat rules stores held now from = record {
  same = one_rank class beat rules stores now from;
  itself = λ one. lesser_self one.to _ (ties_self class held one);
  goes_on = λ a b c first second. lesser_on a.to b.to c.to _ _ _ (ties_on class held a b c) first second;
}
