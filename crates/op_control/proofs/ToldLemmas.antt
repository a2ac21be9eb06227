-- What each answer tells.
use Rattle.std.proofs.Common.{◌≡◌, ℕ, ◌+◌, ◌-◌, Bool, true, false, cond, nat_lt, List, [], ◌∷◌, drop, suc, refl, sym, ap, ◌∙◌, subst, arith, IsTrue, All, Option, Some, None, Result, Ok, Err}
use Rattle.std.proofs.lemmas.Bool.{ltb-true, ltb-false}
use Rattle.std.proofs.lemmas.List.{drop-drop}
use Rattle.std.proofs.lemmas.List.Elements.{All-nil, All-cons}
use Rattle.pd_types.specs.declared.region.RegionBeat.{RegionBeat}
use Rattle.pd_types.specs.declared.step.Step.{Step}
use Rattle.store_table.specs.declared.entry.StoreEntry.{StoreEntry}
use Rattle.op_step.specs.declared.safety.Held.{Held}
use Rattle.op_step.specs.Finished.{is_finished}
use Rattle.op_step.specs.Safe.{gate_of}
use Rattle.op_control.specs.declared.operator.TheConstants.{EXPIRED_MS, TIMEOUT_MS}
use Rattle.op_control.specs.declared.operator.Operator.{Operator}
use Rattle.op_control.specs.declared.operator.OpState.{OpState}
use Rattle.op_control.specs.declared.operator.OpState.TheVariants.{Created, Started, Success, Canceled, Replaced, Expired, Timeout}
use Rattle.op_control.specs.declared.turn.Dispatch.{Dispatch}
use Rattle.op_control.specs.declared.turn.Dispatch.TheVariants as dispatch
use Rattle.op_control.specs.Turn.{answer_of, finished_count, is_astray, late_in, passed_by, sent_by, unless_late, with_left}
use Rattle.op_control.specs.Told.{LeavesSome, IsInTime, IsNextStep, Kept, Told}
use Rattle.op_control.specs.Table.{active_by}
use Rattle.op_control.proofs.SendLemmas.{let-through}

abbrev Finished : RegionBeat → Step → Type 0
Finished beat step = IsTrue (is_finished step beat)

drop-one : (n : ℕ) (one : Step) (more : List Step) → drop (n + 1) (one ∷ more) ≡ drop n more
drop-one n one more = let next : n + 1 ≡ suc n = omega arith in ap (λ k. drop k (one ∷ more)) next

-- where nothing is left behind the finished steps, all are finished
none-step : (beat : RegionBeat) (one : Step) (more : List Step) (b : Bool) → is_finished one beat ≡ b → (drop (finished_count beat more) more ≡ [] → All (Finished beat) more) → drop (cond b (finished_count beat more + 1) 0) (one ∷ more) ≡ [] → All (Finished beat) (one ∷ more)
none-step beat one more true is rest e = All-cons (Finished beat) one more is (rest (sym (drop-one _ one more) ∙ e))
none-step beat one more false is rest e = cc

none-left : (beat : RegionBeat) (steps : List Step) → drop (finished_count beat steps) steps ≡ [] → All (Finished beat) steps
none-left beat [] e = All-nil (Finished beat)
none-left beat (one ∷ more) e = none-step beat one more (is_finished one beat) refl (none-left beat more) e

-- the step behind the finished ones is unfinished
next-step : (beat : RegionBeat) (one : Step) (more : List Step) (b : Bool) (step : Step) (rest : List Step) → is_finished one beat ≡ b → (drop (finished_count beat more) more ≡ step ∷ rest → is_finished step beat ≡ false) → drop (cond b (finished_count beat more + 1) 0) (one ∷ more) ≡ step ∷ rest → is_finished step beat ≡ false
next-step beat one more true step rest is later e = later (sym (drop-one _ one more) ∙ e)
next-step beat one more false step rest is later e = let same : one ≡ step = cc in subst (λ s. is_finished s beat ≡ false) same is

next-left : (beat : RegionBeat) (steps : List Step) (step : Step) (rest : List Step) → drop (finished_count beat steps) steps ≡ step ∷ rest → is_finished step beat ≡ false
next-left beat [] step rest e = cc
next-left beat (one ∷ more) step rest e = next-step beat one more (is_finished one beat) step rest refl (next-left beat more step rest) e

-- the steps that the heartbeat leaves
left-behind : (op : Operator) (beat : RegionBeat) → drop (passed_by op beat) op.steps ≡ drop (finished_count beat (drop op.passed op.steps)) (drop op.passed op.steps)
left-behind op beat = sym (drop-drop (finished_count beat (drop op.passed op.steps)) op.passed op.steps)

pub is-next : (op : Operator) (beat : RegionBeat) (step : Step) (more : List Step) → drop (passed_by op beat) op.steps ≡ step ∷ more → IsNextStep step (drop (passed_by op beat) op.steps) beat
is-next op beat step more here =
    subst (λ left. IsNextStep step left beat) (sym here) (refl, next-left beat (drop op.passed op.steps) step more (sym (left-behind op beat) ∙ here))

told-sent : (op : Operator) (beat : RegionBeat) (stores : List StoreEntry) (now : ℕ) (step : Step) (more : List Step) → Kept op beat → drop (passed_by op beat) op.steps ≡ step ∷ more → (gate : Result (Unit {0}) Held) → gate_of step beat stores now ≡ gate → IsInTime op now → Told op beat stores now (sent_by step gate)
told-sent op beat stores now step more kept here (Ok u) e in_time =
    (kept, in_time, is-next op beat step more here, let-through step beat stores now u e)
told-sent op beat stores now step more kept here (Err held) e in_time =
    (kept, in_time, record { step = step; next = is-next op beat step more here; gate = e })

told-expired : (op : Operator) (beat : RegionBeat) (stores : List StoreEntry) (now : ℕ) (answer : Dispatch) → Kept op beat → LeavesSome op beat → op.state ≡ Created → (b : Bool) → nat_lt EXPIRED_MS (now - op.created) ≡ b → (IsInTime op now → Told op beat stores now answer) → Told op beat stores now (unless_late (cond b (Some Expired) None) answer)
told-expired op beat stores now answer kept some is true late told = (kept, some, is, ltb-true EXPIRED_MS (now - op.created) late)
told-expired op beat stores now answer kept some is false late told =
    told (record { created = λ _. ltb-false EXPIRED_MS (now - op.created) late; started = λ other. absurd cc })

told-timeout : (op : Operator) (beat : RegionBeat) (stores : List StoreEntry) (now : ℕ) (answer : Dispatch) → Kept op beat → LeavesSome op beat → op.state ≡ Started → (b : Bool) → nat_lt TIMEOUT_MS (now - op.started) ≡ b → (IsInTime op now → Told op beat stores now answer) → Told op beat stores now (unless_late (cond b (Some Timeout) None) answer)
told-timeout op beat stores now answer kept some is true late told = (kept, some, is, ltb-true TIMEOUT_MS (now - op.started) late)
told-timeout op beat stores now answer kept some is false late told =
    told (record { created = λ other. absurd cc; started = λ _. ltb-false TIMEOUT_MS (now - op.started) late })

told-late : (op : Operator) (beat : RegionBeat) (stores : List StoreEntry) (now : ℕ) (answer : Dispatch) → Kept op beat → LeavesSome op beat → (state : OpState) → op.state ≡ state → (IsInTime op now → Told op beat stores now answer) → Told op beat stores now (unless_late (late_in state op now) answer)
told-late op beat stores now answer kept some Created is told = told-expired op beat stores now answer kept some is _ refl told
told-late op beat stores now answer kept some Started is told = told-timeout op beat stores now answer kept some is _ refl told
told-late op beat stores now answer kept some Success is told = told (record { created = λ other. absurd cc; started = λ other. absurd cc })
told-late op beat stores now answer kept some Canceled is told = told (record { created = λ other. absurd cc; started = λ other. absurd cc })
told-late op beat stores now answer kept some Replaced is told = told (record { created = λ other. absurd cc; started = λ other. absurd cc })
told-late op beat stores now answer kept some Expired is told = told (record { created = λ other. absurd cc; started = λ other. absurd cc })
told-late op beat stores now answer kept some Timeout is told = told (record { created = λ other. absurd cc; started = λ other. absurd cc })

cons_not_nil : (step : Step) (more : List Step) → step ∷ more ≡ [] → ⊥
cons_not_nil step more h = absurd cc

told-left : (op : Operator) (beat : RegionBeat) (stores : List StoreEntry) (now : ℕ) → Kept op beat → (left : List Step) → drop (passed_by op beat) op.steps ≡ left → Told op beat stores now (with_left left op beat stores now)
told-left op beat stores now kept [] here = (kept, none-left beat (drop op.passed op.steps) (sym (left-behind op beat) ∙ here))
told-left op beat stores now kept (step ∷ more) here =
    told-late op beat stores now _ kept (λ none. absurd (cons_not_nil step more (sym here ∙ none))) op.state refl (told-sent op beat stores now step more kept here (gate_of step beat stores now) refl)

told-astray : (op : Operator) (beat : RegionBeat) (stores : List StoreEntry) (now : ℕ) (b : Bool) → is_astray (passed_by op beat) op beat ≡ b → Told op beat stores now (cond b (dispatch.Ended Canceled) (with_left (drop (passed_by op beat) op.steps) op beat stores now))
told-astray op beat stores now true astray = ltb-true _ _ astray
told-astray op beat stores now false astray = told-left op beat stores now (ltb-false _ _ astray) (drop (passed_by op beat) op.steps) refl

-- the answer to a heartbeat tells what the table of a life says beside it
pub answer-told : (op : Operator) (beat : RegionBeat) (stores : List StoreEntry) (now : ℕ) → Told op beat stores now (answer_of op beat stores now)
answer-told op beat stores now = told-astray op beat stores now (is_astray (passed_by op beat) op beat) refl

-- of an operator that hasn't ended
pub told-of : (last : Option Operator) (held : Operator) (beat : RegionBeat) (stores : List StoreEntry) (now : ℕ) (answer : Dispatch) → active_by last ≡ Some held → answer ≡ answer_of held beat stores now → (op : Operator) → active_by last ≡ Some op → Told op beat stores now answer
told-of last held beat stores now answer active is op found =
    let both : Some held ≡ Some op = sym active ∙ found in
    let same : held ≡ op = cc in
    subst (λ (o : Operator). Told o beat stores now answer) same (subst (Told held beat stores now) (sym is) (answer-told held beat stores now))
