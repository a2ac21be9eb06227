use Rattle.std.proofs.Common.{refl, sym, ◌∙◌}
use Rattle.tso_core.specs.Machine.{whole_of}
use Rattle.tso_core.proofs.Keeping.{due_sound, due_setup}
use Rattle.tso_core.proofs.Dues.{is_due}
use Rattle.tso_core.proofs.machine.Machine.go.Goals as goal

pub returns-clause-sound : goal.returns-clause-sound
returns-clause-sound c =
    let due = sym c.due-2.ensures.value ∙ sym (is_due c.due.result c.due-2.result (sym c.is.ensures.value ∙ c.if-not-is.false)) ∙ c.due.ensures.value in
    due_sound (whole_of c.args.self.now) c.requires.sound c.args.actor c.args.kind c.requires.actor c.requires.kind due c.args.actor refl (whole_of c.step-reply.new.self) c.step-reply.ensures.goes.answers.after

pub returns-clause-setup : goal.returns-clause-setup
returns-clause-setup c =
    let due = sym c.due-2.ensures.value ∙ sym (is_due c.due.result c.due-2.result (sym c.is.ensures.value ∙ c.if-not-is.false)) ∙ c.due.ensures.value in
    due_setup (whole_of c.args.self.now) c.requires.sound c.args.actor c.args.kind c.requires.actor c.requires.kind due c.args.actor refl (whole_of c.step-reply.new.self) c.step-reply.ensures.goes.answers.after
