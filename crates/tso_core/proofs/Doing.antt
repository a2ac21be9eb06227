-- What was done decides the lists of the run, as they are said of each step.
use Rattle.std.proofs.Common.{◌≡◌, ℕ, ◌/◌, ◌%◌, Bool, true, false, cond, List, refl}
use Rattle.std.specs.Prelude.{◌==◌, nat_eq, nat_lt}
use Rattle.pd_types.specs.declared.oracle.Batch.{Batch}
use Rattle.pd_types.specs.declared.oracle.Window.{Window}
use Rattle.tso_model.specs.declared.step.WordStep.{WordStep}
use Rattle.tso_model.specs.declared.step.WordStep.TheVariants.{LoadCell, ClaimTerm, SaveEnd, RaiseCursor, StoreLimit, ClearLimit, LoadLimit, ArmCount, AddArmed}
use Rattle.tso_model.specs.declared.view.View.{View}
use Rattle.tso_model.specs.Ledger.{windows_after, batches_after}
use Rattle.tso_model.specs.Steps.{held, hand, new_claim, batch_of}
use Rattle.tso_model.specs.Words.{packed, cell_of, cell_word, passes}
use Rattle.tso_model.proofs.Basics.{by_bool}
use Rattle.tso_core.specs.declared.done.Done.{Done}
use Rattle.tso_core.specs.declared.done.Done.TheVariants.{Claimed, Beaten, Saved, Lost, NoLimit, Stale, Looked, Refused, Armed, Granted}
use Rattle.tso_core.specs.Done.{done_of, windows_kept, batches_kept}

-- what was done by a test
on_cond : {A : Type 0} → (f : Done → A) (b : Bool) (x y : Done) → f (cond b x y) ≡ cond b (f x) (f y)
on_cond f true x y = refl
on_cond f false x y = refl

-- the lists grow by what was done
pub windows_by : (step : WordStep) (n : ℕ) (v : View) (ws : List Window) → windows_kept (done_of step n v) ws ≡ windows_after step n v ws
windows_by LoadCell n v ws = refl
windows_by ClaimTerm n v ws = on_cond (λ d. windows_kept d ws) (n == cell_word v.cell) (Claimed (new_claim v).window) (Beaten (cell_of n))
windows_by (SaveEnd hi) n v ws = on_cond (λ d. windows_kept d ws) (n == packed (held v).hi (held v).term) (Saved hi) (Lost (cell_of n))
windows_by (RaiseCursor at) n v ws = refl
windows_by StoreLimit n v ws = refl
windows_by ClearLimit n v ws = refl
windows_by (LoadLimit d) n v ws = by_bool (λ b. windows_kept (cond b NoLimit (cond (nat_lt (n % 262144) v.seen.term) (Stale v.seen.term) (Looked (n % 262144) (n / 262144)))) ws ≡ ws) (nat_eq n 0) (λ _. refl)
    (λ _. by_bool (λ b. windows_kept (cond b (Stale v.seen.term) (Looked (n % 262144) (n / 262144))) ws ≡ ws) (nat_lt (n % 262144) v.seen.term) (λ _. refl) (λ _. refl))
windows_by (ArmCount k) n v ws = by_bool (λ b. windows_kept (cond b (Refused n (hand v).hi k) (Armed n)) ws ≡ ws) (passes n (hand v).hi k) (λ _. refl) (λ _. refl)
windows_by AddArmed n v ws = by_bool (λ b. windows_kept (cond b (Refused n (hand v).hi v.armed) (Granted (batch_of n v))) ws ≡ ws) (passes n (hand v).hi v.armed) (λ _. refl) (λ _. refl)

pub batches_by : (step : WordStep) (n : ℕ) (v : View) (bs : List Batch) → batches_kept (done_of step n v) bs ≡ batches_after step n v bs
batches_by LoadCell n v bs = refl
batches_by ClaimTerm n v bs = by_bool (λ b. batches_kept (cond b (Claimed (new_claim v).window) (Beaten (cell_of n))) bs ≡ bs) (n == cell_word v.cell) (λ _. refl) (λ _. refl)
batches_by (SaveEnd hi) n v bs = by_bool (λ b. batches_kept (cond b (Saved hi) (Lost (cell_of n))) bs ≡ bs) (n == packed (held v).hi (held v).term) (λ _. refl) (λ _. refl)
batches_by (RaiseCursor at) n v bs = refl
batches_by StoreLimit n v bs = refl
batches_by ClearLimit n v bs = refl
batches_by (LoadLimit d) n v bs = by_bool (λ b. batches_kept (cond b NoLimit (cond (nat_lt (n % 262144) v.seen.term) (Stale v.seen.term) (Looked (n % 262144) (n / 262144)))) bs ≡ bs) (nat_eq n 0) (λ _. refl)
    (λ _. by_bool (λ b. batches_kept (cond b (Stale v.seen.term) (Looked (n % 262144) (n / 262144))) bs ≡ bs) (nat_lt (n % 262144) v.seen.term) (λ _. refl) (λ _. refl))
batches_by (ArmCount k) n v bs = by_bool (λ b. batches_kept (cond b (Refused n (hand v).hi k) (Armed n)) bs ≡ bs) (passes n (hand v).hi k) (λ _. refl) (λ _. refl)
batches_by AddArmed n v bs = on_cond (λ d. batches_kept d bs) (passes n (hand v).hi v.armed) (Refused n (hand v).hi v.armed) (Granted (batch_of n v))
