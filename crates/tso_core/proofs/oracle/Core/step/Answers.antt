use Rattle.std.proofs.Common.{refl, ap, subst, sym, ◌∙◌}
use Rattle.tso_core.specs.Asked.{HasActor, IsAsked}
use Rattle.tso_core.specs.Due.{same_due, due_for}
use Rattle.tso_core.specs.Machine.{whole_of}
use Rattle.tso_core.specs.Sound.{IsSound}
use Rattle.tso_core.specs.Steps.{Stepped, due_of}
use Rattle.tso_core.specs.Whole.{Whole}
use Rattle.tso_core.specs.declared.reply.Due.{Due}
use Rattle.tso_core.specs.declared.reply.Reply.TheVariants.{OutOfTurn}
use Rattle.tso_core.proofs.Keeping.{due_sound, due_setup}
use Rattle.tso_core.proofs.Dues.{is_due}
use Rattle.tso_core.proofs.Stepping.{step_else}
use Rattle.tso_core.proofs.oracle.Core.step.Goals as goal

pub returns-then-not-is-clause-reply : goal.returns-then-not-is-clause-reply
returns-then-not-is-clause-reply c =
    let due = c.due-due.ensures.value ∙ ap (λ (w : Whole). due_of w c.args.actor) c.self.view_is in
    ap (λ (e : Due). OutOfTurn e) due
    ∙ ap (λ (r : Stepped). r.reply) (sym (step_else c.args.self.now c.args.actor c.args.kind (ap (λ (e : Due). same_due (due_for c.args.kind) e) (sym due) ∙ ap (λ (e : Due). same_due e c.due-due.result) (sym c.due.ensures.value) ∙ sym c.is.ensures.value ∙ c.if-not-is.true)))

pub invariant_of-self-2 : goal.invariant_of-self-2
invariant_of-self-2 c =
    let m = whole_of c.reserve.new.self in
    let same = c.reserve.ensures.whole ∙ c.self.view_is in
    let sound : IsSound m = subst IsSound (sym c.reserve.ensures.whole) c.self.invariant in
    let has : HasActor m.setup c.args.actor = subst (λ (w : Whole). HasActor w.setup c.args.actor) (sym same) c.requires.actor in
    let asked : IsAsked m.setup c.args.kind = subst (λ (w : Whole). IsAsked w.setup c.args.kind) (sym same) c.requires.kind in
    let due = ap (λ (w : Whole). due_of w c.args.actor) c.reserve.ensures.whole ∙ sym c.due-due.ensures.value ∙ sym (is_due c.due.result c.due-due.result (sym c.is.ensures.value ∙ c.if-not-is.false)) ∙ c.due.ensures.value in
    due_sound m sound c.args.actor c.args.kind has asked due c.args.actor refl (whole_of c.step.new.self) c.step.ensures.goes.answers.after

pub returns-clause-sound : goal.returns-clause-sound
returns-clause-sound c = invariant_of-self-2 c

pub returns-clause-setup : goal.returns-clause-setup
returns-clause-setup c =
    let m = whole_of c.reserve.new.self in
    let same = c.reserve.ensures.whole ∙ c.self.view_is in
    let sound : IsSound m = subst IsSound (sym c.reserve.ensures.whole) c.self.invariant in
    let has : HasActor m.setup c.args.actor = subst (λ (w : Whole). HasActor w.setup c.args.actor) (sym same) c.requires.actor in
    let asked : IsAsked m.setup c.args.kind = subst (λ (w : Whole). IsAsked w.setup c.args.kind) (sym same) c.requires.kind in
    let due = ap (λ (w : Whole). due_of w c.args.actor) c.reserve.ensures.whole ∙ sym c.due-due.ensures.value ∙ sym (is_due c.due.result c.due-due.result (sym c.is.ensures.value ∙ c.if-not-is.false)) ∙ c.due.ensures.value in
    due_setup m sound c.args.actor c.args.kind has asked due c.args.actor refl (whole_of c.step.new.self) c.step.ensures.goes.answers.after ∙ ap (λ (w : Whole). w.setup) same
