-- The rule as a whole, from its parts.
use Rattle.std.proofs.Common.{◌≡◌, ◌≢◌, ℕ, List, [], ◌∷◌, ◌++◌, false, set, ◌≤◌}
use mathlib.Core.Option.{some}
use lib.ListN.{get_elem?}
use Rattle.tso_model.specs.declared.view.View.{View}
use Rattle.tso_model.specs.declared.view.Setup.{Setup}
use Rattle.tso_model.specs.declared.step.WordStep.{WordStep}
use Rattle.tso_model.specs.History.{History}
use Rattle.tso_model.specs.Steps.{May, AtRest}
use Rattle.tso_model.specs.Moves.{spent_view, first_view, first_words, gave_driver, new_driver, gave_client, new_client, new_note, joined}
use Rattle.tso_model.specs.Sound.{Sound, KeepsEach, Keeps, IsSetup}
use Rattle.tso_model.proofs.Records.{keeps_parts}
use Rattle.tso_model.proofs.Moves
use Rattle.tso_model.proofs.Joins

-- what keeps each part keeps the rule
sound_by : (k : Setup) (words : List ℕ) (views : List View) (more : List ℕ) (others : List View) (g : History) → (s : Sound k words views) → KeepsEach k words views s.history more others g → Sound k more others
sound_by k words views more others g s p = record { history = g; a = p.a s.a; b = p.b s.a s.b; c = p.c s.a s.b s.c }

pub keeps : (k : Setup) (id : ℕ) (kind : WordStep) (v : View) → May k kind v → Keeps k id kind v
keeps k id kind v may words views s at = let p = keeps_parts k id kind v may words views s.history at in sound_by k words views _ _ p.0 s p.1

pub starts : (k : Setup) → IsSetup k → Sound k (first_words k) (first_view k ∷ [])
starts k ok = let r = Moves.starts k ok in record { history = r.history; a = r.a; b = r.b; c = r.c }

pub splits_driver : (k : Setup) (words : List ℕ) (views : List View) (id d : ℕ) (ds : List ℕ) (v : View) → Sound k words views → get_elem? views id ≡ some v → v.spent ≡ false → v.give_drivers ≡ d ∷ ds → Sound k words (set views id (gave_driver v) ++ new_driver v ∷ [])
splits_driver k words views id d ds v s at live has = sound_by k words views words (set views id (gave_driver v) ++ new_driver v ∷ []) s.history s (Moves.driver_parts k words views s.history id d ds v at live has)

pub splits_client : (k : Setup) (words : List ℕ) (views : List View) (id d : ℕ) (ds : List ℕ) (v : View) → Sound k words views → get_elem? views id ≡ some v → v.spent ≡ false → v.give_clients ≡ d ∷ ds → 262144 ≤ v.quota → v.armed ≡ 0 → Sound k words (set views id (gave_client v) ++ new_client v ∷ [])
splits_client k words views id d ds v s at live has enough rest = sound_by k words views words (set views id (gave_client v) ++ new_client v ∷ []) s.history s (Moves.client_parts k words views s.history id d ds v at live has enough rest)

pub splits_note : (k : Setup) (words : List ℕ) (views : List View) (id : ℕ) (v : View) → Sound k words views → get_elem? views id ≡ some v → v.spent ≡ false → Sound k words (set views id v ++ new_note v ∷ [])
splits_note k words views id v s at live = sound_by k words views words (set views id v ++ new_note v ∷ []) s.history s (Moves.note_parts k words views s.history id v at live)

pub joins : (k : Setup) (words : List ℕ) (views : List View) (id other : ℕ) (v w : View) → Sound k words views → v.spent ≡ false → w.spent ≡ false → AtRest v → get_elem? views id ≡ some v → other ≢ id → get_elem? (set views id (joined v w)) other ≡ some w
    → Sound k words (set (set views id (joined v w)) other spent_view)
joins k words views id other v w s live live' rest at apart there = sound_by k words views words (set (set views id (joined v w)) other spent_view) s.history s (Joins.join_parts k words views s.history id other v w live live' rest at apart there)
