use Rattle.std.proofs.Common.{sym, subst, ap, ◌∙◌, arith}
use Rattle.pd_types.specs.declared.oracle.Window.{Window}
use Rattle.tso_model.specs.declared.view.View.{View}
use Rattle.tso_model.specs.Steps.{held}
use Rattle.tso_core.specs.declared.turn.Decided.{Decided}
use Rattle.tso_core.specs.declared.turn.Turn.{Turn}
use Rattle.tso_core.specs.Driving.{IsInTime, decides_by}
use Rattle.tso_core.specs.Machine.{whole_of}
use Rattle.tso_core.specs.Steps.{Stepped}
use Rattle.tso_core.specs.Whole.{turned}
use Rattle.tso_core.proofs.Driven.{turn_clock}
use Rattle.tso_core.proofs.Driving.{driver_seat, driven}
use Rattle.tso_core.proofs.machine.Machine.drive.Goals as goal

pub step-requires : goal.step-requires
step-requires c =
    let at = c.requires.at in
    record { clock = omega (arith, turn_clock (whole_of c.args.self.now) at.sound c.args.driver at.driver.pos at.driver.low, ap (λ (t : Turn). t.next) c.turn-turn.ensures.value) }

pub make-made-requires-clause-may : goal.make-made-requires-clause-may
make-made-requires-clause-may c =
    let is = driven c.args.self.now c.args.driver c.args.kind c.requires.at c.index.result.now c.index.ensures (sym c.has_term_for.ensures.value ∙ c.if-not-has_term_for.false)
    c.turn-turn.result c.turn-turn.ensures.value c.in-Some.step (sym c.step.ensures.value ∙ c.in-Some.is) in
    is.may

pub decide-decided-requires : goal.decide-decided-requires
decide-decided-requires c =
    let is = driven c.args.self.now c.args.driver c.args.kind c.requires.at c.index.result.now c.index.ensures (sym c.has_term_for.ensures.value ∙ c.if-not-has_term_for.false)
    c.turn-turn.result c.turn-turn.ensures.value c.in-Some.step (sym c.step.ensures.value ∙ c.in-Some.is) in
    record { found = subst (IsInTime c.args.kind) (sym c.make-made.ensures.found) is.in_time }

pub returns : goal.returns
returns c =
    let is = driven c.args.self.now c.args.driver c.args.kind c.requires.at c.index.result.now c.index.ensures (sym c.has_term_for.ensures.value ∙ c.if-not-has_term_for.false)
    c.turn-turn.result c.turn-turn.ensures.value c.in-Some.step (sym c.step.ensures.value ∙ c.in-Some.is) in
    let d = c.args.driver in
    let hi = ap (λ (x : Window). x.hi) c.held-hi.ensures.value ∙ ap (λ (v : View). (held v).hi) (driver_seat c.args.self.now d c.args.kind c.requires.at c.index-2.result.now c.index-2.ensures) in
    let decides = c.decide-decided.ensures.value ∙ (λ i. decides_by c.args.kind (c.turn-turn.ensures.value i) (hi i) (c.make-made.ensures.found i) (c.make-made.ensures.done i)) in
    record {
      goes = record {
        answers = record {
          reply = ap (λ (r : Decided). r.reply) decides ∙ sym (ap (λ (r : Stepped). r.reply) is.is);
          after = (λ i. turned (c.make-made.ensures.after i) d (decides i).turn) ∙ sym (ap (λ (r : Stepped). r.after) is.is);
        };
        room = omega (arith, c.make-made.ensures.room);
      };
    }
