use Rattle.std.proofs.Common.{◌≡◌, ◌++◌, false}
use Rattle.std.specs.Prelude.{map, All}
use Rattle.tso_run.specs.declared.caller.ClientWork.{ClientWork}
use Rattle.tso_run.specs.Runs.{client_answers}
use Rattle.tso_run.proofs.end.client_parts.Given as goal

abbrev pub invariant-loop-work : goal.invariant-loop-work
invariant-loop-work g l =
    (goal.iterator-loop-work g).can_next l.work-iterator × (goal.iterator-loop-work g).is_finite l.work-iterator
    × (l.parts.passes.items ++ map (λ (w : ClientWork g.row.N.Denot). w.pass) l.work-iterator.rest.items ≡ map (λ (w : ClientWork g.row.N.Denot). w.pass) l.fn.works.items)
    × (l.parts.slips.items ++ map (λ (w : ClientWork g.row.N.Denot). w.slip) l.work-iterator.rest.items ≡ map (λ (w : ClientWork g.row.N.Denot). w.slip) l.fn.works.items)
    × (l.parts.answers.items ++ map client_answers l.work-iterator.rest.items ≡ map client_answers l.fn.works.items)
    × (All (λ (w : ClientWork g.row.N.Denot). w.failed ≡ false) l.work-iterator.rest.items → All (λ (w : ClientWork g.row.N.Denot). w.failed ≡ false) l.fn.works.items)
