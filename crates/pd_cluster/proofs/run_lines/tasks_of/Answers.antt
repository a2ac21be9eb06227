use Rattle.std.proofs.Common.{◌∙◌, sym, subst}
use Rattle.std.proofs.lemmas.List.{nil_from_length}
use Rattle.std.specs.Vec.Iter.{into_iter_items}
use Rattle.pd_cluster.specs.Dealing.{Deals, HasPlace}
use Rattle.pd_cluster.specs.declared.run_lines.Own.{Own}
use Rattle.pd_cluster.proofs.RunLines.{Walks, walk_begins, walk_ends, walk_more, walk_place, walk_tasks}
use Rattle.pd_cluster.proofs.run_lines.tasks_of.Goals as goal

pub loop-line-init : goal.loop-line-init
loop-line-init c =
    walk_begins c.args.script c.in_ok-ids.ids.items c.in_ok-dealt.dealt c.as_slice.result.now _ c.as_slice.ensures.value (c.into_iter-line-iterator.ensures.into_iter_gives.0 ∙ c.into_vec-line-items.ensures.value)
    c.in_ok-ids.ensures.acting c.in_ok-dealt.ensures.ids c.in_ok-dealt.ensures.none

pub deal-requires : goal.deal-requires
deal-requires c = record {
  place = subst (HasPlace c.loop-line.dealt) (sym c.own_of.ensures.value)
      (walk_place c.args.script c.requires.lawful c.loop-line.dealt c.in-Some.line (into_iter_items c.next.new.self) (subst (Walks c.args.script c.loop-line.dealt) c.in-Some.ensures.steps.0 c.loop-line.invariant));
}

pub loop-line-preserved : goal.loop-line-preserved
loop-line-preserved c =
    walk_more c.args.script c.requires.lawful c.loop-line.dealt c.deal.new.self c.in-Some.line (into_iter_items c.next.new.self) (subst (Walks c.args.script c.loop-line.dealt) c.in-Some.ensures.steps.0 c.loop-line.invariant)
    (subst (λ (own : Own). Deals own c.loop-line.dealt c.deal.new.self) c.own_of.ensures.value c.in_ok-deal.ensures.ok)

pub returns : goal.returns
returns c =
    let over = nil_from_length (into_iter_items c.loop-line.line-iterator) (sym c.loop-line.line-iterator.rest.ok.0 ∙ c.in-None.ensures.steps.0) in
    record {
      value = walk_ends c.args.script c.loop-line.dealt (into_iter_items c.loop-line.line-iterator) over c.loop-line.invariant;
      tasks = walk_tasks c.args.script c.requires.lawful c.loop-line.dealt (into_iter_items c.loop-line.line-iterator) over c.loop-line.invariant;
    }
