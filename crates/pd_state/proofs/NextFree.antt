-- The id that a new peer gets is the next free one.
use Rattle.std.proofs.Common.{refl, ◌≡◌, ◌≢◌, ◌⊎◌, inl, inr, ℕ, suc, ◌+◌, ◌<◌, ◌≤◌, Bool, true, false, List, [], ◌∷◌, length, sym, subst, Option, Some, None, arith}
use Rattle.std.proofs.lemmas.Bool.{cases_eq}
use Rattle.std.proofs.lemmas.Bool.Decides.{nat_tests}
use Rattle.std.specs.Prelude.{Result, Ok, Err}
use Rattle.pd_types.specs.declared.region.Peer.{Peer}
use Rattle.pd_types.specs.declared.region.RegionBeat.{RegionBeat}
use Rattle.meta_store.specs.declared.record.MetaVerdict.{MetaVerdict}
use Rattle.meta_store.specs.declared.record.MetaVerdict.TheVariants as verdicts
use Rattle.id_alloc.specs.Windows.{Window, id_call, is_spent, is_used_up}
use Rattle.op_step.specs.Peers.{has_id}
use Rattle.op_control.specs.declared.operator.NewOp.{NewOp}
use Rattle.op_control.specs.declared.adding.AddFault.{AddFault}
use Rattle.op_control.specs.Adding.{refusal_of, with_new_id}
use Rattle.pd_state.specs.Adding.{Around, Drawn, Planning, Work, add_by, add_op, asks_id, draw, draw_saved, drawn, enter, entered, entered_with, free_id, left_out, pass_over, saved_by, with_window}
use Rattle.pd_state.specs.Asking.{Asking, Hearing, Point, ask, done, ended}
use Rattle.pd_state.specs.NewIds.{ArePeers, Comes, Enters, IsNextFree, LacksId}
use Rattle.pd_state.specs.declared.adding.Adding.{Adding}
use Rattle.pd_state.specs.declared.adding.Adding.TheVariants as adding
use Rattle.pd_state.proofs.Ends.{Ends, ends_any, ends_if, ends_map, ends_on}
use Rattle.pd_state.proofs.FewIds.{few_ids}

-- where an asking ended in a value
pub ends_is : (A : Type 0) (P : A → Type 0) (point : Point A) (value : A) (then : Hearing) → point ≡ ended value then → Ends A P point → P value
ends_is A P point value then is h = subst (Ends A P) is h

-- why there is no id
abbrev IsWhy : Adding → Type 0
IsWhy (adding.Added answer) = ⊥
IsWhy (adding.Build fault) = ⊥
IsWhy (adding.Add fault) = ⊥
IsWhy (adding.OldTerm fence) = Unit {0}
IsWhy (adding.Conflict found) = Unit {0}
IsWhy adding.MetaLimit = Unit {0}
IsWhy adding.IdsSpent = Unit {0}

-- one id: the next number; or none, since the window is used up
abbrev DrawsBy : Window → Window → Result ℕ Adding → Type 0
DrawsBy window new (Ok id) = (id ≡ window.taken + 1) × (new.taken ≡ id)
DrawsBy window new (Err why) = (new ≡ window) × (is_used_up window ≡ true) × IsWhy why

abbrev Draws : Window → Drawn → Type 0
Draws window one = DrawsBy window one.window one.id

used_end : (window : Window) → is_used_up window ≡ true → window.end + 1 ≡ window.taken + 1
used_end window used = grind (arith, nat_tests)

saved_draws : (window : Window) (verdict : MetaVerdict) → is_used_up window ≡ true → Draws window (saved_by window verdict)
saved_draws window (verdicts.Accepted revision) used = (used_end window used, refl)
saved_draws window (verdicts.OldTerm fence) used = (refl, used, tt)
saved_draws window (verdicts.Conflict found) used = (refl, used, tt)
saved_draws window verdicts.Limit used = (refl, used, tt)

draw_draws : (term : ℕ) (window : Window) (at : Hearing) → Ends Drawn (Draws window) (draw term window at)
draw_draws term window at =
    ends_if Drawn (Draws window) (is_used_up window) (draw_saved term window) _ at
    (λ used. ends_if Drawn (Draws window) (is_spent window) _ _ at (λ spent. (refl, used, tt))
    (λ room. ends_on MetaVerdict Drawn (λ v. Unit {0}) (Draws window) (λ verdict. done (saved_by window verdict)) (ask (id_call term window) at) (ends_any MetaVerdict _) (λ verdict then u. saved_draws window verdict used)))
    (λ left. (refl, refl))

-- an id above the first one, or none
abbrev TakesBy : RegionBeat → ℕ → Window → Result ℕ Adding → Type 0
TakesBy beat first new (Ok id) = IsNextFree beat first id × (new.taken ≡ id)
TakesBy beat first new (Err why) = (first ≤ new.taken) × ArePeers beat first (new.taken + 1) × (is_used_up new ≡ true) × IsWhy why

abbrev Takes : RegionBeat → ℕ → Drawn → Type 0
Takes beat first one = TakesBy beat first one.window one.id

-- so many ids were passed over, and of the region's peers so many may be left
record IsAt (beat : RegionBeat) (first passed left : ℕ) (window : Window) : Type 0 where
  at : window.taken ≡ first + passed
  few : length beat.region.peers ≤ passed + left
  peers : ArePeers beat first (window.taken + 1)

-- one more
next_peers : (beat : RegionBeat) (first id : ℕ) → ArePeers beat first id → has_id id beat ≡ true → ArePeers beat first (id + 1)
next_peers beat first id h has = λ x low high. by x low high (cases_eq x id)
  where
    by : (x : ℕ) → first < x → x < id + 1 → (x ≡ id) ⊎ (x ≢ id) → has_id x beat ≡ true
    by x low high (inl same) = subst (λ (n : ℕ). has_id n beat ≡ true) (sym same) has
    by x low high (inr apart) = h x low (omega (arith, low, high, apart))

upto : (beat : RegionBeat) (first to : ℕ) → ArePeers beat first (to + 1) → (x : ℕ) → first < x → x ≤ to → has_id x beat ≡ true
upto beat first to h x low high = h x low (omega (arith, high))

none_left : (beat : RegionBeat) (first passed id : ℕ) (window : Window) (b : Bool) → IsAt beat first passed 0 window → id ≡ window.taken + 1 → has_id id beat ≡ b → b ≡ false
none_left beat first passed id window false so next is = refl
none_left beat first passed id window true so next is =
    let peers : ArePeers beat first (first + (passed + 1) + 1) = subst (λ (n : ℕ). ArePeers beat first (n + 1)) (last first passed id window.taken so.at next) (next_peers beat first id (subst (ArePeers beat first) (sym next) so.peers) is) in
    let few = few_ids (passed + 1) first beat.region.peers (upto beat first (first + (passed + 1)) peers) in
    let most = so.few in
    absurd (omega (arith, few, most))
  where
    last : (first passed id taken : ℕ) → taken ≡ first + passed → id ≡ taken + 1 → id ≡ first + (passed + 1)
    last first passed id taken at next = omega (arith, at, next)

found : (beat : RegionBeat) (first passed left id : ℕ) (window : Window) → IsAt beat first passed left window → id ≡ window.taken + 1 → has_id id beat ≡ false → IsNextFree beat first id
found beat first passed left id window so next free = record {
  above = let at = so.at in omega (arith, at, next);
  free = free;
  least = subst (ArePeers beat first) (sym next) so.peers;
}

refused : (beat : RegionBeat) (first passed left : ℕ) (window new : Window) (why : Adding) → IsAt beat first passed left window → DrawsBy window new (Err why) → TakesBy beat first new (Err why)
refused beat first passed left window new why so d =
    subst (λ (w : Window). (first ≤ w.taken) × ArePeers beat first (w.taken + 1) × (is_used_up w ≡ true) × IsWhy why) (sym d.0) (let at = so.at in omega (arith, at), so.peers, d.1, d.2)

last_takes : (beat : RegionBeat) (first passed : ℕ) (window new : Window) (id : Result ℕ Adding) → IsAt beat first passed 0 window → DrawsBy window new id → TakesBy beat first new id
last_takes beat first passed window new (Ok id) so d = (found beat first passed 0 id window so d.0 (none_left beat first passed id window (has_id id beat) so d.0 refl), d.1)
last_takes beat first passed window new (Err why) so d = refused beat first passed 0 window new why so d

further : (beat : RegionBeat) (first passed left id : ℕ) (window new : Window) → IsAt beat first passed (suc left) window → id ≡ window.taken + 1 → new.taken ≡ id → has_id id beat ≡ true → IsAt beat first (passed + 1) left new
further beat first passed left id window new so next taken has = record {
  at = let at = so.at in omega (arith, at, next, taken);
  few = let few = so.few in omega (arith, few);
  peers = subst (λ (n : ℕ). ArePeers beat first (n + 1)) (sym taken) (next_peers beat first id (subst (ArePeers beat first) (sym next) so.peers) has);
}

pass_takes : (beat : RegionBeat) (again : Window → Asking Drawn) (first passed left : ℕ) (window new : Window) (id : Result ℕ Adding) (at : Hearing) → IsAt beat first passed (suc left) window → DrawsBy window new id
    → ((next : Window) (then : Hearing) → IsAt beat first (passed + 1) left next → Ends Drawn (Takes beat first) (again next then)) → Ends Drawn (Takes beat first) (pass_over beat again new id at)
pass_takes beat again first passed left window new (Ok id) at so d more =
    ends_if Drawn (Takes beat first) (has_id id beat) (again new) (done (drawn new (Ok id))) at (λ has. more new at (further beat first passed left id window new so d.0 d.1 has))
    (λ free. (found beat first passed (suc left) id window so d.0 free, d.1))
pass_takes beat again first passed left window new (Err why) at so d more = refused beat first passed (suc left) window new why so d

free_takes : (peers : List Peer) (beat : RegionBeat) (term first passed : ℕ) (window : Window) (at : Hearing) → IsAt beat first passed (length peers) window → Ends Drawn (Takes beat first) (free_id peers beat term window at)
free_takes [] beat term first passed window at so =
    ends_map Drawn (Draws window) (Takes beat first) (draw term window at) (λ one d. last_takes beat first passed window one.window one.id so d) (draw_draws term window at)
free_takes (peer ∷ peers) beat term first passed window at so =
    ends_on Drawn Drawn (Draws window) (Takes beat first) (λ one. pass_over beat (free_id peers beat term) one.window one.id) (draw term window at) (draw_draws term window at)
    (λ one then d. pass_takes beat (free_id peers beat term) first passed (length peers) window one.window one.id then so d (λ next last k. free_takes peers beat term first (passed + 1) next last k))

-- adding an operator
begun : (beat : RegionBeat) (window : Window) → IsAt beat window.taken 0 (length beat.region.peers) window
begun beat window = record { at = omega arith; few = omega arith; peers = λ x low high. absurd (omega (arith, low, high)) }

abbrev Comes_of : Around → NewOp → RegionBeat → Planning → Work → Type 0
Comes_of around op beat old work = Comes work.adding around op beat old work

lacks : (around : Around) (op : NewOp) (beat : RegionBeat) (old : Planning) (window : Window) (why : Adding) → TakesBy beat old.window.taken window (Err why) → LacksId beat old (left_out (with_window old window) why)
lacks around op beat old window why t = record { kept = t.0; passed = t.1; none = t.2; rest = refl }

why_comes : (around : Around) (op : NewOp) (beat : RegionBeat) (old : Planning) (window : Window) (why : Adding) → refusal_of old.operators op (Some beat) old.limits around.now ≡ None → IsWhy why → LacksId beat old (left_out (with_window old window) why)
    → Comes_of around op beat old (left_out (with_window old window) why)
why_comes around op beat old window (adding.Added answer) passed is h = absurd is
why_comes around op beat old window (adding.Build fault) passed is h = absurd is
why_comes around op beat old window (adding.Add fault) passed is h = absurd is
why_comes around op beat old window (adding.OldTerm fence) passed is h = (passed, h)
why_comes around op beat old window (adding.Conflict found) passed is h = (passed, h)
why_comes around op beat old window adding.MetaLimit passed is h = (passed, h)
why_comes around op beat old window adding.IdsSpent passed is h = (passed, h)

with_comes : (around : Around) (op : NewOp) (beat : RegionBeat) (old : Planning) (window : Window) (id : Result ℕ Adding) → refusal_of old.operators op (Some beat) old.limits around.now ≡ None → asks_id op.steps ≡ true → TakesBy beat old.window.taken window id
    → Comes_of around op beat old (entered_with around op beat old window id)
with_comes around op beat old window (Ok id) passed asks t = (passed, subst (λ (b : Bool). Enters b around op beat old (entered around (with_new_id op id) beat (with_window old window))) (sym asks) (record { id = id; next = t.0; taken = t.1; enters = refl }))
with_comes around op beat old window (Err why) passed asks t = why_comes around op beat old window why passed t.3 (lacks around op beat old window why t)

enter_comes : (around : Around) (op : NewOp) (beat : RegionBeat) (old : Planning) (at : Hearing) → refusal_of old.operators op (Some beat) old.limits around.now ≡ None → Ends Work (Comes_of around op beat old) (enter around op beat old at)
enter_comes around op beat old at passed =
    ends_if Work (Comes_of around op beat old) (asks_id op.steps) _ (done (entered around op beat old)) at
    (λ asks. ends_on Drawn Work (Takes beat old.window.taken) (Comes_of around op beat old) (λ one. done (entered_with around op beat old one.window one.id)) (free_id beat.region.peers beat around.term old.window at)
    (free_takes beat.region.peers beat around.term old.window.taken 0 old.window at (begun beat old.window)) (λ one then t. with_comes around op beat old one.window one.id passed asks t))
    (λ none. (passed, subst (λ (b : Bool). Enters b around op beat old (entered around op beat old)) (sym none) refl))

pub add_comes : (around : Around) (op : NewOp) (beat : RegionBeat) (old : Planning) (at : Hearing) → Ends Work (Comes_of around op beat old) (add_op around op beat old at)
add_comes around op beat old at = by (refusal_of old.operators op (Some beat) old.limits around.now) refl
  where
    by : (o : Option AddFault) → refusal_of old.operators op (Some beat) old.limits around.now ≡ o → Ends Work (Comes_of around op beat old) (add_by o around op beat old at)
    by (Some fault) is = (is, refl)
    by None is = enter_comes around op beat old at is

pub comes : (around : Around) (op : NewOp) (beat : RegionBeat) (old : Planning) (at then : Hearing) (work : Work) → add_op around op beat old at ≡ ended work then → Comes work.adding around op beat old work
comes around op beat old at then work is = ends_is Work (Comes_of around op beat old) (add_op around op beat old at) work then is (add_comes around op beat old at)
