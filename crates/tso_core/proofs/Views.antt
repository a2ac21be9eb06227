-- What no step changes of a view: its numbers, its quota, and of a client the cell that it knows.
use Rattle.std.proofs.Common.{◌≡◌, ℕ, true, false, cond, eqb, refl, ◌∙◌, arith}
use Rattle.std.specs.Prelude.{Option, None, Some, Bool}
use Rattle.tso_model.specs.declared.entries.Claim.{Claim}
use Rattle.tso_model.specs.declared.view.View.{View}
use Rattle.tso_model.specs.declared.view.Setup.{Setup}
use Rattle.tso_model.specs.declared.step.WordStep.{WordStep}
use Rattle.tso_model.specs.declared.step.WordStep.TheVariants.{ClaimTerm, SaveEnd, LoadLimit, ArmCount, AddArmed}
use Rattle.tso_model.specs.Words.{packed, cell_of, cell_word, passes}
use Rattle.tso_model.specs.Steps.{view_after, knows, claimed, saves, held, hand, refused, granted, adds}
use Rattle.tso_core.specs.Sound.{IsDriver, IsClient}

-- the parts that stay
abbrev pub SameActor : View → View → Type 0
SameActor v u = (u.spent ≡ v.spent) × (u.driver ≡ v.driver) × (u.client ≡ v.client) × (u.quota ≡ v.quota)

saved_same : (hi : ℕ) (v : View) (o : Option Claim) → SameActor v (saves hi v o)
saved_same hi v None = (refl, refl, refl, refl)
saved_same hi v (Some c) = (refl, refl, refl, refl)

cond_same : (v u t : View) (b : Bool) → SameActor v u → SameActor v t → SameActor v (cond b u t)
cond_same v u t true hit miss = hit
cond_same v u t false hit miss = miss

pub same_actor : (step : WordStep) (n : ℕ) (v : View) → SameActor v (view_after step n v)
same_actor ClaimTerm n v = cond_same v (claimed v) (knows (cell_of n) v) (eqb n (cell_word v.cell)) (refl, refl, refl, refl) (refl, refl, refl, refl)
same_actor (SaveEnd hi) n v = cond_same v (saves hi v v.latest) (knows (cell_of n) v) (eqb n (packed (held v).hi (held v).term)) (saved_same hi v v.latest) (refl, refl, refl, refl)
same_actor (ArmCount m) n v = cond_same v (refused n m v) (record v { armed = m }) (passes n (hand v).hi m) (refl, refl, refl, refl) (refl, refl, refl, refl)
same_actor AddArmed n v = cond_same v (record (refused n v.armed v) { added = (adds v).added }) (granted n v) (passes n (hand v).hi v.armed) (refl, refl, refl, refl) (refl, refl, refl, refl)
same_actor step n v = (refl, refl, refl, refl)

pub same_driver : (d : ℕ) (step : WordStep) (n : ℕ) (v : View) → IsDriver d v → IsDriver d (view_after step n v)
same_driver d step n v own = let same = same_actor step n v in record { live = same.0 ∙ own.live; driver = same.1 ∙ own.driver; quota = omega (arith, same.3, own.quota) }

cond_cell : (v u t : View) (b : Bool) → u.cell ≡ v.cell → t.cell ≡ v.cell → (cond b u t).cell ≡ v.cell
cond_cell v u t true hit miss = hit
cond_cell v u t false hit miss = miss

from_cell : (k : Setup) (c : ℕ) (step : WordStep) (n : ℕ) (v : View) → (view_after step n v).cell ≡ v.cell → IsClient k c v → IsClient k c (view_after step n v)
from_cell k c step n v cell own = let same = same_actor step n v in record { live = same.0 ∙ own.live; driver = same.1 ∙ own.driver; client = same.2 ∙ own.client; quota = same.3 ∙ own.quota; cell = cell ∙ own.cell }

pub same_looking : (k : Setup) (c d n : ℕ) (v : View) → IsClient k c v → IsClient k c (view_after (LoadLimit d) n v)
same_looking k c d n v own = from_cell k c (LoadLimit d) n v refl own

pub same_arming : (k : Setup) (c m n : ℕ) (v : View) → IsClient k c v → IsClient k c (view_after (ArmCount m) n v)
same_arming k c m n v own = from_cell k c (ArmCount m) n v (cond_cell v (refused n m v) (record v { armed = m }) (passes n (hand v).hi m) refl refl) own

pub same_drawing : (k : Setup) (c n : ℕ) (v : View) → IsClient k c v → IsClient k c (view_after AddArmed n v)
same_drawing k c n v own = from_cell k c AddArmed n v (cond_cell v (record (refused n v.armed v) { added = (adds v).added }) (granted n v) (passes n (hand v).hi v.armed) refl refl) own
