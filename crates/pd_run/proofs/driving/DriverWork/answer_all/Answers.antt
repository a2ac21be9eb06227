use Rattle.std.proofs.Common.{◌≡◌, ◌∙◌, ◌∷◌, ◌++◌, [], List, sym, ap, subst}
use Rattle.std.proofs.lemmas.List.{append_assoc}
use Rattle.std.specs.Vec.Iter.{into_iter_items}
use Rattle.tso_driver.specs.Drivers.{view_of}
use Rattle.tso_outcome.specs.Drives.{Drove}
use Rattle.pd_state.specs.declared.entry.Entry.{Entry}
use Rattle.pd_run.specs.Answers.{by_oracle, oracle_answers}
use Rattle.pd_run.specs.Heard.{HeardAll, seats_of}
use Rattle.pd_run.specs.Turns.{DriverAnswered}
use Rattle.pd_run.specs.declared.answer.DriverAnswer.{DriverAnswer}
use Rattle.pd_run.proofs.Turning.{drove_more, driver_more, heard_more, oracle_more}
use Rattle.pd_run.proofs.driving.DriverWork.answer_all.Goals as goal

pub loop-line-preserved : goal.loop-line-preserved
loop-line-preserved g c =
    let l = c.loop-line.invariant in
    let before = c.loop-line.self in
    let after = c.answer_line.new.self in
    let one = c.in-Ok.ensures.ok in
    let done = one.done in
    let line = c.in-Some.line in
    let rest = into_iter_items c.next.new.self in
    let seats = g.B.Seated.seats in
    let lines = l.answered.0 in
    let told : oracle_answers after.answers.items ≡ oracle_answers before.answers.items ++ by_oracle line.number one.says = ap oracle_answers one.answers ∙ oracle_more before.answers.items line.number one.says in
    record {
      at_work = record { board_is = c.in-Ok.ensures.stays.board_is; cluster_is = c.in-Ok.ensures.stays.cluster_is ∙ l.at_work.cluster_is };
      stays = record {
        board_is = c.in-Ok.ensures.stays.board_is;
        cluster_is = c.in-Ok.ensures.stays.cluster_is ∙ l.stays.cluster_is;
        actor_is = c.in-Ok.ensures.stays.actor_is ∙ l.stays.actor_is;
        bench = c.in-Ok.ensures.stays.bench ∙ l.stays.bench;
      };
      number = c.in-Ok.ensures.number ∙ l.number;
      fine = c.in-Ok.ensures.failed ∙ l.fine;
      drove = subst (λ told_so. Drove (view_of c.args.self.now.means.driver) told_so (view_of after.means.driver)) (sym told)
          (drove_more (view_of c.args.self.now.means.driver) (view_of before.means.driver) (view_of after.means.driver) (oracle_answers before.answers.items) (by_oracle line.number one.says) l.drove done.drove);
      heard = subst (λ (es : List Entry). HeardAll es (seats_of seats c.args.self.now.means.bench) (seats_of seats after.means.bench)) (sym done.list)
          (heard_more before.means.share.list done.own (seats_of seats c.args.self.now.means.bench) (seats_of seats before.means.bench) (seats_of seats after.means.bench) l.heard done.heard);
      answered = (
        lines ++ line ∷ [],
        append_assoc lines (line ∷ []) rest ∙ ap (λ x. lines ++ x) (sym c.in-Some.ensures.steps.0) ∙ l.answered.1,
        subst (λ (y : List DriverAnswer × List Entry). DriverAnswered (lines ++ line ∷ []) y.0 y.1) (λ i. (sym one.answers i, sym done.list i))
            (driver_more lines before.answers.items before.means.share.list l.answered.2 line one.says done.own done.did),
      );
    }
