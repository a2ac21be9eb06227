use Rattle.std.proofs.Common.{◌≡◌, subst, true, false, get_or, arith}
use Rattle.pd_types.specs.Keys.{is_before_end}
use Rattle.region_tree.proofs.Runs.{run_is}
use Rattle.region_tree.proofs.places.run_of.Goals as goal

pub returns : goal.returns
returns c = record {
  run = run_is c.args.beat.now c.args.held.now c.ended-from.result c.begun.result c.max-upto.result
      c.ended-from.ensures.bound c.begun.ensures.bound (omega (arith, c.ended-from.ensures.bound, c.begun.ensures.bound)) (omega arith) (omega arith) (λ k high low. omega arith)
      (λ k d low. subst (λ s. is_before_end s (get_or c.args.held.now k d).region.end ≡ false) c.as_slice.ensures.value (c.ended-from.ensures.before k d low))
      (λ k d low high. subst (λ s. is_before_end s (get_or c.args.held.now k d).region.end ≡ true) c.as_slice.ensures.value (c.ended-from.ensures.after k d low high))
      (λ k d low. subst (λ s. is_before_end (get_or c.args.held.now k d).region.start s ≡ true) c.as_slice-2.ensures.value (c.begun.ensures.before k d low))
      (λ k d low high. subst (λ s. is_before_end (get_or c.args.held.now k d).region.start s ≡ false) c.as_slice-2.ensures.value (c.begun.ensures.after k d low high));
}
