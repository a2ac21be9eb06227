use Rattle.std.proofs.Common.{ℕ, sym, subst, ap, ◌∙◌, arith}
use Rattle.tso_model.specs.declared.step.WordStep.TheVariants.{LoadLimit, ArmCount, AddArmed}
use Rattle.tso_core.specs.Asked.{HasActor, IsAsked}
use Rattle.tso_core.specs.Due.{due_for}
use Rattle.tso_core.specs.Machine.{whole_of, place_of}
use Rattle.tso_core.specs.Sound.{MayMake, HasClient}
use Rattle.tso_core.specs.Steps.{due_of}
use Rattle.tso_core.specs.declared.reply.Kind.TheVariants.{Look, Arm}
use Rattle.tso_core.proofs.Drawn.{may_look, may_arm, may_draw}
use Rattle.tso_core.proofs.machine.Machine.step.Goals as goal

pub make-requires-clause-may : goal.make-requires-clause-may
make-requires-clause-may c =
    let w = whole_of c.args.self.now in
    let has : HasClient w.setup c.in-Client.field-0 = subst (HasActor w.setup) c.in-Client.is c.requires.at.has in
    let asked : IsAsked w.setup (Look c.in-Look.driver) = subst (IsAsked w.setup) c.in-Look.is c.requires.kind in
    subst (λ (id : ℕ). MayMake w id (LoadLimit c.in-Look.driver)) (sym (c.place-id.ensures.value ∙ ap (place_of w.setup) c.in-Client.is))
    (may_look w c.requires.at.sound c.in-Client.field-0 has.pos has.low c.in-Look.driver asked.pos asked.low (sym (ap (due_of w) c.in-Client.is) ∙ c.requires.at.due ∙ ap due_for c.in-Look.is))

pub make-requires-in-Arm-clause-may : goal.make-requires-in-Arm-clause-may
make-requires-in-Arm-clause-may c =
    let w = whole_of c.args.self.now in
    let has : HasClient w.setup c.in-Client.field-0 = subst (HasActor w.setup) c.in-Client.is c.requires.at.has in
    let asked : IsAsked w.setup (Arm c.in-Arm.n) = subst (IsAsked w.setup) c.in-Arm.is c.requires.kind in
    subst (λ (id : ℕ). MayMake w id (ArmCount c.in-Arm.n)) (sym (c.place-id.ensures.value ∙ ap (place_of w.setup) c.in-Client.is))
    (may_arm w c.requires.at.sound c.in-Client.field-0 has.pos has.low c.in-Arm.n asked.some (omega (arith, asked.most)) (sym (ap (due_of w) c.in-Client.is) ∙ c.requires.at.due ∙ ap due_for c.in-Arm.is))

pub make-requires-in-Draw-clause-may : goal.make-requires-in-Draw-clause-may
make-requires-in-Draw-clause-may c =
    let w = whole_of c.args.self.now in
    let has : HasClient w.setup c.in-Client.field-0 = subst (HasActor w.setup) c.in-Client.is c.requires.at.has in
    subst (λ (id : ℕ). MayMake w id AddArmed) (sym (c.place-id.ensures.value ∙ ap (place_of w.setup) c.in-Client.is))
    (may_draw w c.requires.at.sound c.in-Client.field-0 has.pos has.low (sym (ap (due_of w) c.in-Client.is) ∙ c.requires.at.due ∙ ap due_for c.in-Draw.is))
