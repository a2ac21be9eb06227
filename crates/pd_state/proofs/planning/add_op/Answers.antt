use Rattle.std.proofs.Common.{◌≡◌, List, None, Some, ap, sym, subst}
use Rattle.std.specs.Prelude.{Result, Ok, ℕ, true, false}
use Rattle.meta_store.specs.declared.record.Cell.{Cell}
use Rattle.op_control.specs.declared.operator.NewOp.{NewOp}
use Rattle.op_control.specs.Adding.{refusal_of, with_new_id}
use Rattle.pd_state.specs.Adding.{Adds, Drawn, around_of, asks_id, drawn, entered, free_id, planning_of}
use Rattle.pd_state.specs.Asking.{Ear, Talks, ear}
use Rattle.pd_state.specs.declared.adding.Adding.{Adding}
use Rattle.pd_state.specs.declared.part.Part.{Part}
use Rattle.pd_state.proofs.Entering.{Entered, adds_none, adds_plain, adds_with, adds_without, entered_ok, entered_still, passed_still}
use Rattle.pd_state.proofs.planning.add_op.Goals as goal

pub returns-in-Err-clause-adds : goal.returns-in-Err-clause-adds
returns-in-Err-clause-adds g c =
    let part = c.args.part.now in
    adds_none (around_of part) c.args.op c.args.beat.now (planning_of part) c.args.log.now.sents c.in-Err.fault c.args.driver (ear c.args.log.now.answers part.known (g.M.Door.said c.args.door.now) (g.M.Door.told c.args.door.now)) c.in-Err.ensures.refused

pub returns-then-not-asks_id-clause-adds : goal.returns-then-not-asks_id-clause-adds
returns-then-not-asks_id-clause-adds g c =
    let part = c.args.part.now in
    let new = c.enter.new.part in
    let at : List Cell → Ear = λ k. ear c.args.log.now.answers k (g.M.Door.said c.args.door.now) (g.M.Door.told c.args.door.now) in
    let plain : asks_id c.args.op.steps ≡ false = cc (c.if-not-asks_id.true, c.asks_id.ensures, c.as_slice.ensures.value) in
    let known : part.known ≡ new.known = sym (ap (λ (p : Part). p.known) c.enter.ensures.rest) in
    entered_ok c.enter.result (entered (around_of part) c.args.op c.args.beat.now (planning_of part)) (planning_of new) c.args.log.now.sents c.enter.new.sents _
    (λ came h. subst (λ (k : List Cell). Adds (around_of part) c.args.op c.args.beat.now (planning_of part) (planning_of new) c.args.log.now.sents c.enter.new.sents came c.args.driver (at part.known) (at k)) known
    (adds_plain (around_of part) c.args.op c.args.beat.now (planning_of part) (planning_of new) c.args.log.now.sents c.enter.new.sents came c.args.driver (at part.known) c.in_default.ensures.ok plain h))
    c.enter.ensures.adding c.enter.ensures.planning c.enter.ensures.sents

pub enter-requires-in-Ok-clause-passed : goal.enter-requires-in-Ok-clause-passed
enter-requires-in-Ok-clause-passed g c =
    let new = c.free_id.new.part in
    subst (λ (o : NewOp). refusal_of new.operators o (Some c.args.beat.now) new.limits new.clock ≡ None) (sym c.with_new_id.ensures.value)
    (passed_still c.args.part.now new c.args.op c.in-Ok.id c.args.beat.now c.in_ok-id.ensures.rest c.in_default.ensures.ok)

pub returns-in-Ok-clause-adds : goal.returns-in-Ok-clause-adds
returns-in-Ok-clause-adds g c =
    let part = c.args.part.now in
    let mid = c.free_id.new.part in
    let new = c.enter-in-Ok.new.part in
    let one : Ear = ear c.args.log.now.answers part.known (g.M.Door.said c.args.door.now) (g.M.Door.told c.args.door.now) in
    let two : List Cell → Ear = λ k. ear c.free_id.new.answers k (g.M.Door.said c.free_id.new.door) (g.M.Door.told c.free_id.new.door) in
    let asks : asks_id c.args.op.steps ≡ true = cc (c.if-not-asks_id.false, c.asks_id.ensures, c.as_slice.ensures.value) in
    let known : mid.known ≡ new.known = sym (ap (λ (p : Part). p.known) c.enter-in-Ok.ensures.rest) in
    let t : Talks Drawn (free_id c.args.beat.now.region.peers c.args.beat.now part.term part.window) (drawn mid.window (Ok c.in-Ok.id)) c.args.driver one (two mid.known) =
    subst (λ (r : Result ℕ Adding). Talks Drawn (free_id c.args.beat.now.region.peers c.args.beat.now part.term part.window) (drawn mid.window r) c.args.driver one (two mid.known)) c.in-Ok.is c.in_ok-id.ensures.talks in
    entered_ok c.enter-in-Ok.result (entered (around_of mid) c.with_new_id.result c.args.beat.now (planning_of mid)) (planning_of new) c.args.log.now.sents c.enter-in-Ok.new.sents _
    (λ came h. subst (λ (k : List Cell). Adds (around_of part) c.args.op c.args.beat.now (planning_of part) (planning_of new) c.args.log.now.sents c.enter-in-Ok.new.sents came c.args.driver one (two k)) known
    (adds_with (around_of part) c.args.op c.args.beat.now (planning_of part) (planning_of new) mid.window c.in-Ok.id c.args.log.now.sents c.enter-in-Ok.new.sents came c.args.driver one (two mid.known) c.in_default.ensures.ok asks t
    (entered_still part mid (with_new_id c.args.op c.in-Ok.id) c.args.beat.now (planning_of new) c.args.log.now.sents c.enter-in-Ok.new.sents came c.in_ok-id.ensures.rest
    (subst (λ (o : NewOp). Entered (entered (around_of mid) o c.args.beat.now (planning_of mid)) (planning_of new) c.args.log.now.sents c.enter-in-Ok.new.sents came) c.with_new_id.ensures.value h))))
    c.enter-in-Ok.ensures.adding c.enter-in-Ok.ensures.planning c.enter-in-Ok.ensures.sents

pub returns-in-Err-2-clause-adds : goal.returns-in-Err-2-clause-adds
returns-in-Err-2-clause-adds g c =
    let part = c.args.part.now in
    let mid = c.free_id.new.part in
    let one : Ear = ear c.args.log.now.answers part.known (g.M.Door.said c.args.door.now) (g.M.Door.told c.args.door.now) in
    let two : Ear = ear c.free_id.new.answers mid.known (g.M.Door.said c.free_id.new.door) (g.M.Door.told c.free_id.new.door) in
    let asks : asks_id c.args.op.steps ≡ true = cc (c.if-not-asks_id.false, c.asks_id.ensures, c.as_slice.ensures.value) in
    adds_without (around_of part) c.args.op c.args.beat.now (planning_of part) (planning_of mid) mid.window c.in-Err-2.why c.args.log.now.sents c.args.driver one two c.in_default.ensures.ok asks
    (subst (λ (r : Result ℕ Adding). Talks Drawn (free_id c.args.beat.now.region.peers c.args.beat.now part.term part.window) (drawn mid.window r) c.args.driver one two) c.in-Err-2.is c.in_ok-id.ensures.talks)
    (ap planning_of c.in_ok-id.ensures.rest)
