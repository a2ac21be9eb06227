use Rattle.std.proofs.Common.{◌∙◌, ◌∷◌, ◌++◌, [], List, All, length, refl, sym, ap, subst}
use Rattle.std.proofs.lemmas.List.{append_assoc}
use Rattle.std.proofs.lemmas.List.Elements.{All-rest}
use Rattle.std.specs.Vec.Iter.{into_iter_items}
use Rattle.pd_run.specs.Tasks.{GoesTo}
use Rattle.pd_run.specs.Turns.{StoreAnswered}
use Rattle.pd_run.specs.Works.{ArePorts, made_at, popped_at}
use Rattle.pd_run.specs.declared.answer.StoreAnswer.{StoreAnswer}
use Rattle.pd_run.proofs.Turning.{store_more, store_none}
use Rattle.pd_run.proofs.storing.StoreWork.answer_all.Goals as goal

pub loop-line-preserved : goal.loop-line-preserved
loop-line-preserved g c =
    let l = c.loop-line.invariant in
    let before = c.loop-line.self in
    let after = c.answer_line.new.self in
    let one = c.in-Ok.ensures.ok in
    let line = c.in-Some.line in
    let rest = into_iter_items c.next.new.self in
    let lines = l.answered.0 in
    record {
      ports = subst (λ s. ArePorts {N = g.row.N.Denot} s c.args.clusters.now after.ports.items) l.store c.in-Ok.ensures.ports;
      store = c.in-Ok.ensures.store ∙ l.store;
      fine = c.in-Ok.ensures.failed ∙ l.fine;
      lines = All-rest (GoesTo (length c.args.clusters.now)) _ _ _ c.in-Some.ensures.steps.0 l.lines;
      streams = c.in-Ok.ensures.streams ∙ l.streams;
      answered = (
        lines ++ line ∷ [],
        append_assoc lines (line ∷ []) rest ∙ ap (λ x. lines ++ x) (sym c.in-Some.ensures.steps.0) ∙ l.answered.1,
        subst (λ (y : List StoreAnswer). StoreAnswered (lines ++ line ∷ []) y (made_at {N = g.row.N.Denot} after.ports.items) (popped_at {N = g.row.N.Denot} after.ports.items)) (sym one.answers)
            (store_more lines before.answers.items (made_at {N = g.row.N.Denot} before.ports.items) (made_at {N = g.row.N.Denot} after.ports.items) (popped_at {N = g.row.N.Denot} before.ports.items) (popped_at {N = g.row.N.Denot} after.ports.items)
            l.answered.2 line one.says one.own one.did one.made one.popped),
      );
    }

pub loop-line-init : goal.loop-line-init
loop-line-init g c = record {
  ports = c.requires.ports;
  store = refl;
  fine = c.requires.fine;
  lines = subst (All (GoesTo (length c.args.clusters.now))) (sym c.into_iter-line-iterator.ensures.into_iter_gives.0) c.requires.lines;
  streams = refl;
  answered = (
    [],
    refl,
    subst (λ (y : List StoreAnswer). StoreAnswered [] y (made_at {N = g.row.N.Denot} c.args.self.now.ports.items) (popped_at {N = g.row.N.Denot} c.args.self.now.ports.items)) (sym c.requires.first)
        (store_none (made_at {N = g.row.N.Denot} c.args.self.now.ports.items) (popped_at {N = g.row.N.Denot} c.args.self.now.ports.items) c.requires.none.made c.requires.none.popped),
  );
}
