-- A fact of each move is a fact of each step, of each row of steps and of each whole call.
use Rattle.std.proofs.Common.{◌≡◌, ◌≢◌, Bool, false, cond, List, [], ◌∷◌, refl, sym, ap, subst, ◌∙◌}
use Rattle.std.specs.Prelude.{Option, None, Some, IsTrue, is_some}
use Rattle.std.specs.List.{AllByRecursion}
use Rattle.pd_types.specs.declared.oracle.Actor.{Actor}
use Rattle.tso_model.proofs.Basics.{by_bool}
use Rattle.tso_core.specs.declared.reply.Due.{Due}
use Rattle.tso_core.specs.declared.reply.Due.TheVariants.{Rest}
use Rattle.tso_core.specs.declared.reply.Kind.{Kind}
use Rattle.tso_core.specs.Due.{same_due, due_for}
use Rattle.tso_core.specs.Whole.{Whole}
use Rattle.tso_core.specs.Steps.{Stepped, out_of_turn, due_of, move_of, moved_or, due_step, step_of}
use Rattle.tso_core.specs.Rows.{gone, goes_on, row, call_of}
use Rattle.tso_core.proofs.Dues.{is_due, is_same}

-- P of what a move makes, where there is one
abbrev pub OnMove : (Stepped → Type 0) → Whole → Option (Whole → Stepped) → Type 0
OnMove P w None = Unit {0}
OnMove P w (Some move) = P (move w)

pub on_weaker : (P Q : Stepped → Type 0) (w : Whole) → ((r : Stepped) → P r → Q r) → (o : Option (Whole → Stepped)) → OnMove P w o → OnMove Q w o
on_weaker P Q w weaker None p = tt
on_weaker P Q w weaker (Some move) p = weaker (move w) p

move_or : (P : Stepped → Type 0) (w : Whole) (due : Due) (o : Option (Whole → Stepped)) → P (out_of_turn w due) → OnMove P w o → P (moved_or due o w)
move_or P w due None out made = out
move_or P w due (Some move) out made = made

-- a kind that the actor makes has a move
pub move_made : (P : Stepped → Type 0) (w : Whole) (due : Due) (o : Option (Whole → Stepped)) → IsTrue (is_some o) → OnMove P w o → P (moved_or due o w)
move_made P w due None makes made = absurd (cc makes)
move_made P w due (Some move) makes made = made

pub no_move : (w : Whole) (due : Due) (o : Option (Whole → Stepped)) → ¬ IsTrue (is_some o) → moved_or due o w ≡ out_of_turn w due
no_move w due None none = refl
no_move w due (Some move) none = absurd (none refl)

pub due_by : (P : Stepped → Type 0) (w : Whole) (actor : Actor) (kind : Kind) → P (out_of_turn w (due_for kind)) → OnMove P w (move_of actor kind) → P (due_step w actor kind)
due_by P w actor kind out made = move_or P w (due_for kind) (move_of actor kind) out made

pub step_by : (P : Stepped → Type 0) (w : Whole) (actor : Actor) (kind : Kind) → P (out_of_turn w (due_of w actor)) → (due_of w actor ≡ due_for kind → OnMove P w (move_of actor kind)) → P (step_of w actor kind)
step_by P w actor kind out made = by_bool (λ b. P (cond b (due_step w actor kind) (out_of_turn w (due_of w actor)))) (same_due (due_for kind) (due_of w actor))
    (λ hit. let due = sym (is_due (due_for kind) (due_of w actor) hit) in due_by P w actor kind (subst (λ (x : Due). P (out_of_turn w x)) due out) (made due)) (λ _. out)

pub goes_by : (P : Stepped → Type 0) (actor : Actor) (r : Stepped) (kind : Kind) → (due_of r.after actor ≡ due_for kind → P (gone actor kind r (due_step r.after actor kind))) → P r → P (goes_on actor r kind)
goes_by P actor r kind made passed = by_bool (λ b. P (cond b (gone actor kind r (due_step r.after actor kind)) r)) (same_due (due_for kind) (due_of r.after actor))
    (λ hit. made (sym (is_due (due_for kind) (due_of r.after actor) hit))) (λ _. passed)

-- what each step of a row keeps
pub row_by : (P : Stepped → Type 0) (Asked : Kind → Type 0) (actor : Actor) → ((r : Stepped) (kind : Kind) → Asked kind → due_of r.after actor ≡ due_for kind → P r → P (gone actor kind r (due_step r.after actor kind)))
    → (kinds : List Kind) → AllByRecursion Asked kinds → (r : Stepped) → P r → P (row actor kinds r)
row_by P Asked actor step [] asked r p = p
row_by P Asked actor step (kind ∷ kinds) asked r p = row_by P Asked actor step kinds asked.1 (goes_on actor r kind) (goes_by P actor r kind (λ due. step r kind asked.0 due p) p)

-- the first kind of a whole call is made where the actor is at rest
pub call_rest : (w : Whole) (actor : Actor) (first : Kind) (kinds : List Kind) → due_for first ≡ Rest → due_of w actor ≡ Rest
    → call_of w actor (first ∷ kinds) ≡ row actor kinds (gone actor first (out_of_turn w (due_of w actor)) (due_step w actor first))
call_rest w actor first kinds is_rest rest =
    let out : Stepped = out_of_turn w (due_of w actor) in
    ap (λ (b : Bool). cond b (row actor (first ∷ kinds) out) out) (is_same (due_of w actor) Rest rest)
    ∙ ap (λ (b : Bool). row actor kinds (cond b (gone actor first out (due_step w actor first)) out)) (is_same (due_for first) (due_of w actor) (is_rest ∙ sym rest))

pub busy_call : (w : Whole) (actor : Actor) (kinds : List Kind) → same_due (due_of w actor) Rest ≡ false → call_of w actor kinds ≡ out_of_turn w (due_of w actor)
busy_call w actor kinds busy = ap (λ (b : Bool). cond b (row actor kinds (out_of_turn w (due_of w actor))) (out_of_turn w (due_of w actor))) busy

pub call_out : (w : Whole) (actor : Actor) (kinds : List Kind) → due_of w actor ≢ Rest → call_of w actor kinds ≡ out_of_turn w (due_of w actor)
call_out w actor kinds busy = by_bool (λ b. cond b (row actor kinds (out_of_turn w (due_of w actor))) (out_of_turn w (due_of w actor)) ≡ out_of_turn w (due_of w actor)) (same_due (due_of w actor) Rest)
    (λ rest. absurd (busy (is_due (due_of w actor) Rest rest))) (λ _. refl)

pub call_by : (P : Stepped → Type 0) (w : Whole) (actor : Actor) (first : Kind) (kinds : List Kind) → due_for first ≡ Rest → P (out_of_turn w (due_of w actor))
    → (due_of w actor ≡ Rest → P (row actor kinds (gone actor first (out_of_turn w (due_of w actor)) (due_step w actor first)))) → P (call_of w actor (first ∷ kinds))
call_by P w actor first kinds is_rest out made = by_bool (λ b. same_due (due_of w actor) Rest ≡ b → P (call_of w actor (first ∷ kinds))) (same_due (due_of w actor) Rest)
    (λ hit _. let rest = is_due (due_of w actor) Rest hit in subst P (sym (call_rest w actor first kinds is_rest rest)) (made rest)) (λ miss _. subst P (sym (busy_call w actor (first ∷ kinds) miss)) out) refl

pub step_else : (w : Whole) (actor : Actor) (kind : Kind) → same_due (due_for kind) (due_of w actor) ≡ false → step_of w actor kind ≡ out_of_turn w (due_of w actor)
step_else w actor kind due = ap (λ (b : Bool). cond b (due_step w actor kind) (out_of_turn w (due_of w actor))) due
