-- The rules that have room, and what suits one of them.
use Rattle.std.proofs.Common.{◌≡◌, ℕ, zero, suc, Bool, true, false, List, [], ◌∷◌, map, refl, sym, ◌∙◌, ap, ◌||◌, Some}
use Rattle.std.proofs.lemmas.Bool.{false≢true}
use Rattle.std.specs.Borrow.{Bor}
use Rattle.std.specs.List.{slice_get, list_any}
use Rattle.pd_types.specs.declared.region.Peer.{Peer}
use Rattle.pd_types.specs.declared.rule.Rule.{Rule}
use Rattle.store_table.specs.declared.entry.StoreEntry.{StoreEntry}
use Rattle.rule_fit.specs.Question.{Question}
use Rattle.rule_fit.specs.Search.{marked}
use Rattle.rule_fit.specs.Suits.{suits_on}
use Rattle.rule_checker.specs.Arrival.{AreRoomy, with_room}
use Rattle.rule_checker.proofs.ArrivalLemmas.{some_rule, FindsRoom}

later : (leader : ℕ) (entry : StoreEntry) (now : ℕ) (peer : Peer) (rule : Rule) (rules : List Rule) (room : Bool) (rooms : List Bool) → FindsRoom leader entry now peer rules rooms → FindsRoom leader entry now peer (rule ∷ rules) (room ∷ rooms)
later leader entry now peer rule rules room rooms finds = record {
  place = suc finds.place;
  rule = finds.rule;
  at = finds.at;
  room = finds.room;
  suits = finds.suits;
}

first_finds : (leader : ℕ) (entry : StoreEntry) (now : ℕ) (peer : Peer) (rule : Rule) (rules : List Rule) (rooms : List Bool) → (list_any (λ rule. suits_on leader (Some entry) now peer rule) (with_room rules rooms) ≡ true → FindsRoom leader entry now peer rules rooms) → (suits : Bool) → suits_on leader (Some entry) now peer rule ≡ suits → (suits || list_any (λ rule. suits_on leader (Some entry) now peer rule) (with_room rules rooms)) ≡ true → FindsRoom leader entry now peer (rule ∷ rules) (true ∷ rooms)
first_finds leader entry now peer rule rules rooms rest true e h = record {
  place = 0;
  rule = rule;
  at = refl;
  room = refl;
  suits = e;
}
first_finds leader entry now peer rule rules rooms rest false e h = later leader entry now peer rule rules true rooms (rest h)

-- what suits a rule with room suits a marked one
any_finds : (leader : ℕ) (entry : StoreEntry) (now : ℕ) (peer : Peer) (rules : List Rule) (rooms : List Bool) → list_any (λ rule. suits_on leader (Some entry) now peer rule) (with_room rules rooms) ≡ true → FindsRoom leader entry now peer rules rooms
any_finds leader entry now peer [] rooms h = absurd (false≢true h)
any_finds leader entry now peer (rule ∷ rules) [] h = absurd (false≢true h)
any_finds leader entry now peer (rule ∷ rules) (true ∷ rooms) h =
    first_finds leader entry now peer rule rules rooms (any_finds leader entry now peer rules rooms) (suits_on leader (Some entry) now peer rule) refl h
any_finds leader entry now peer (rule ∷ rules) (false ∷ rooms) h =
    later leader entry now peer rule rules false rooms (any_finds leader entry now peer rules rooms h)

or_right : (b c : Bool) → c ≡ true → (b || c) ≡ true
or_right true c h = refl
or_right false c h = h

-- and what suits a marked one suits one with room
finds_at : (suits : Rule → Bool) (rules : List Rule) (rooms : List Bool) (k : ℕ) (rule : Rule) → slice_get rules k ≡ Some rule → marked rooms k ≡ true → suits rule ≡ true → list_any suits (with_room rules rooms) ≡ true
finds_at suits [] rooms k rule at room fits = absurd (cc)
finds_at suits (one ∷ rules) [] k rule at room fits = absurd (false≢true room)
finds_at suits (one ∷ rules) (true ∷ rooms) zero rule at room fits =
    ap (λ (b : Bool). b || list_any suits (with_room rules rooms)) (ap suits (some_rule one rule at) ∙ fits)
finds_at suits (one ∷ rules) (true ∷ rooms) (suc k) rule at room fits =
    or_right (suits one) (list_any suits (with_room rules rooms)) (finds_at suits rules rooms k rule at room fits)
finds_at suits (one ∷ rules) (false ∷ rooms) zero rule at room fits = absurd (false≢true room)
finds_at suits (one ∷ rules) (false ∷ rooms) (suc k) rule at room fits = finds_at suits rules rooms k rule at room fits

any_behind : (suits : Rule → Bool) (roomy : List (Bor Rule)) → list_any (λ rule. suits rule.now) roomy ≡ list_any suits (map (λ rule. rule.now) roomy)
any_behind suits [] = refl
any_behind suits (rule ∷ roomy) = ap (λ (b : Bool). suits rule.now || b) (any_behind suits roomy)

any_roomy : (suits : Rule → Bool) (q : Question) (rules : List Rule) (roomy : List (Bor Rule)) (are : AreRoomy q rules (map (λ rule. rule.now) roomy)) → list_any (λ rule. suits rule.now) roomy ≡ list_any suits (with_room rules are.rooms)
any_roomy suits q rules roomy are = any_behind suits roomy ∙ ap (λ (rules : List Rule). list_any suits rules) are.same

pub roomy_finds : (leader : ℕ) (entry : StoreEntry) (now : ℕ) (peer : Peer) (q : Question) (rules : List Rule) (roomy : List (Bor Rule)) (are : AreRoomy q rules (map (λ rule. rule.now) roomy)) → list_any (λ rule. suits_on leader (Some entry) now peer rule.now) roomy ≡ true → FindsRoom leader entry now peer rules are.rooms
roomy_finds leader entry now peer q rules roomy are h =
    any_finds leader entry now peer rules are.rooms (sym (any_roomy (λ rule. suits_on leader (Some entry) now peer rule) q rules roomy are) ∙ h)

pub finds_roomy : (leader : ℕ) (entry : StoreEntry) (now : ℕ) (peer : Peer) (q : Question) (rules : List Rule) (roomy : List (Bor Rule)) (are : AreRoomy q rules (map (λ rule. rule.now) roomy)) → FindsRoom leader entry now peer rules are.rooms → list_any (λ rule. suits_on leader (Some entry) now peer rule.now) roomy ≡ true
finds_roomy leader entry now peer q rules roomy are finds =
    any_roomy (λ rule. suits_on leader (Some entry) now peer rule) q rules roomy are ∙ finds_at (λ rule. suits_on leader (Some entry) now peer rule) rules are.rooms finds.place finds.rule finds.at finds.room finds.suits
