-- What a heartbeat's answer sends is a safe step.
use Rattle.std.proofs.Common.{◌≡◌, ◌*◌, ℕ, Bool, true, false, cond, not, List, [], ◌∷◌, drop, refl, ap, Option, Some, None, Result, Ok, Err, is_ok}
use Rattle.std.proofs.lemmas.Bool.{false≢true, ltb-true}
use Rattle.pd_types.specs.declared.region.RegionBeat.{RegionBeat}
use Rattle.pd_types.specs.declared.step.Step.{Step}
use Rattle.store_table.specs.declared.entry.StoreEntry.{StoreEntry}
use Rattle.op_step.specs.declared.safety.Held.{Held}
use Rattle.op_step.specs.After.{after}
use Rattle.op_step.specs.Safe.{gate_of, has_majority, is_right, IsSafe}
use Rattle.op_step.specs.Votes.{live_of, voters_of}
use Rattle.op_control.specs.declared.operator.Operator.{Operator}
use Rattle.op_control.specs.declared.operator.OpState.{OpState}
use Rattle.op_control.specs.declared.turn.Dispatch.{Dispatch}
use Rattle.op_control.specs.declared.turn.Dispatch.TheVariants as dispatch
use Rattle.op_control.specs.Changes.{SendsSafe}
use Rattle.op_control.specs.Turn.{answer_of, is_astray, late_in, passed_by, sent_by, unless_late, with_left}

record Three (a b c : Bool) : Type 0 where
  first : a ≡ true
  second : b ≡ true
  third : c ≡ true

all-three : (a b c : Bool) (x y z : Held) (u : Unit {0}) → cond (not a) (Err x) (cond (not b) (Err y) (cond (not c) (Err z) (Ok tt))) ≡ Ok u → Three a b c
all-three false b c x y z u e = absurd (false≢true (ap is_ok e))
all-three true false c x y z u e = absurd (false≢true (ap is_ok e))
all-three true true false x y z u e = absurd (false≢true (ap is_ok e))
all-three true true true x y z u e = record { first = refl; second = refl; third = refl }

pub let-through : (step : Step) (beat : RegionBeat) (stores : List StoreEntry) (now : ℕ) (u : Unit {0}) → gate_of step beat stores now ≡ Ok u → IsSafe step beat stores now
let-through step beat stores now u e =
    let tests = all-three (has_majority beat stores now) (has_majority (after step beat) stores now) (is_right step beat stores now) _ _ _ u e in
    record {
      before = ltb-true (voters_of beat) (2 * live_of beat stores now) tests.first;
      after_it = ltb-true (voters_of (after step beat)) (2 * live_of (after step beat) stores now) tests.second;
      target = tests.third;
    }

sent-safe : (step : Step) (beat : RegionBeat) (stores : List StoreEntry) (now : ℕ) (gate : Result (Unit {0}) Held) → gate_of step beat stores now ≡ gate → SendsSafe (sent_by step gate) beat stores now
sent-safe step beat stores now (Ok u) e = let-through step beat stores now u e
sent-safe step beat stores now (Err held) e = tt

late-safe : (late : Option OpState) (answer : Dispatch) (beat : RegionBeat) (stores : List StoreEntry) (now : ℕ) → SendsSafe answer beat stores now → SendsSafe (unless_late late answer) beat stores now
late-safe (Some state) answer beat stores now safe = tt
late-safe None answer beat stores now safe = safe

left-safe : (steps : List Step) (op : Operator) (beat : RegionBeat) (stores : List StoreEntry) (now : ℕ) → SendsSafe (with_left steps op beat stores now) beat stores now
left-safe [] op beat stores now = tt
left-safe (step ∷ more) op beat stores now =
    late-safe (late_in op.state op now) _ beat stores now (sent-safe step beat stores now (gate_of step beat stores now) refl)

astray-safe : (astray : Bool) (state : OpState) (answer : Dispatch) (beat : RegionBeat) (stores : List StoreEntry) (now : ℕ) → SendsSafe answer beat stores now → SendsSafe (cond astray (dispatch.Ended state) answer) beat stores now
astray-safe true state answer beat stores now safe = tt
astray-safe false state answer beat stores now safe = safe

-- what the answer sends is a safe step
pub answer-safe : (op : Operator) (beat : RegionBeat) (stores : List StoreEntry) (now : ℕ) → SendsSafe (answer_of op beat stores now) beat stores now
answer-safe op beat stores now =
    astray-safe (is_astray (passed_by op beat) op beat) _ _ beat stores now (left-safe (drop (passed_by op beat) op.steps) op beat stores now)
