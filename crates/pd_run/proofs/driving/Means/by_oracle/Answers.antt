use Rattle.std.proofs.Common.{◌∙◌, refl, sym, subst}
use Rattle.pd_run.specs.Works.{LineDone}
use Rattle.pd_run.specs.declared.answer.DriverSays.TheVariants as says
use Rattle.pd_run.specs.declared.driving.Means.{Means}
use Rattle.pd_run.specs.declared.line.DriverTask.TheVariants as tasks
use Rattle.pd_run.proofs.Answering.{quiet, told}
use Rattle.pd_run.proofs.driving.Means.by_oracle.Goals as goal
use Rattle.pd_run.proofs.driving.Means.by_oracle.Goals.{in-Some+in_ok-tell, in_default}

pub returns-clause-ok : goal.returns-clause-ok
returns-clause-ok g c =
    let Done : Means g.row.N.Denot g.row.B.Denot → Type 0 = λ m. LineDone {N = g.row.N.Denot} {B = g.row.B.Denot} g.B.Seated.seats c.args.number (tasks.Oracle c.args.ask) (says.Oracle c.in_ok-said.said) c.args.self.now m in
    elim c.match-asked_besides.branch [
      | in-Some+in_ok-tell w ↦ subst Done (sym w.self-is) (told {N = g.row.N.Denot} {B = g.row.B.Denot} g.B.Seated.seats c.args.number c.args.ask c.in_ok-said.said c.args.self.now
          (record { driver = c.answer.new.driver; share = w.tell.new.share; bench = w.tell.new.bench }) c.in_ok-said.ensures.asked c.in_ok-said.ensures.did w.in-Some.request
          (sym c.asked_besides.ensures.value ∙ w.in-Some.is) w.in_ok-tell.ensures.ok.0 w.in_ok-tell.ensures.ok.1)
      | in_default w ↦ subst Done (sym w.self-is) (quiet {N = g.row.N.Denot} {B = g.row.B.Denot} g.B.Seated.seats c.args.number c.args.ask c.in_ok-said.said c.args.self.now
          (record { driver = c.answer.new.driver; share = c.args.self.now.share; bench = c.args.self.now.bench }) c.in_ok-said.ensures.asked c.in_ok-said.ensures.did
          (sym c.asked_besides.ensures.value ∙ w.in_default.is) refl refl)
    ]
