use Rattle.std.proofs.Common.{rules, ◌≡◌, ◌∙◌, false, length, map, refl, sym, ap}
use Rattle.std.proofs.lemmas.List.{map-append}
use Rattle.std.specs.Vec.Iter.{into_iter_items, into_iter_len}
use Rattle.pd_run.specs.Ends.{part_of}
use Rattle.pd_run.specs.Runs.{store_part}
use Rattle.pd_run.specs.declared.storing.StoreWork.{StoreWork}
use Rattle.pd_run.proofs.Lists.{made_all, moved_more, none_of}
use Rattle.tso_run.proofs.Moving.{one_more}
use Rattle.pd_run.proofs.end.store_answers.Goals as goal

pub loop-work-preserved : goal.loop-work-preserved
loop-work-preserved g c =
    let left = into_iter_items c.loop-work.work-iterator in
    let rest = into_iter_items c.next.new.self in (
      moved_more (part_of {N = g.row.N.Denot}) c.in-Some.work left rest (map store_part c.loop-work.answers.items) (map store_part c.push.new.self.items) _ (part_of c.in-Some.work) c.in-Some.ensures.steps.0
          (ap (map store_part) c.in_ok-push.ensures.items ∙ map-append store_part c.loop-work.answers.items _) refl c.loop-work.invariant.0,
      λ all. c.loop-work.invariant.1 (one_more (λ (w : StoreWork g.row.N.Denot). w.failed ≡ false) left rest c.in-Some.work c.in-Some.ensures.steps.0 c.if-work.false all),
    )

pub returns-clause-answers : goal.returns-clause-answers
returns-clause-answers g c =
    let left = into_iter_items c.loop-work.work-iterator in
    let long : into_iter_len c.loop-work.work-iterator ≡ length left = search rules in
    made_all (part_of {N = g.row.N.Denot}) (map store_part c.loop-work.answers.items) _ left (none_of left (sym long ∙ c.in-None.ensures.steps.0)) c.loop-work.invariant.0 ∙ ap (map (part_of {N = g.row.N.Denot})) c.into_iter-work-iterator.ensures.into_iter_gives.0
