use Rattle.std.proofs.Common.{◌∷◌, Bool, cond, None, List, ap, option_map, refl}
use Rattle.pd_types.specs.declared.request.Request.TheVariants as ask
use Rattle.pd_state.specs.declared.entry.Entry.{Entry}
use Rattle.pd_state.proofs.Moments.{counts_by}
use Rattle.pd_state.proofs.laws.a_request_counts_in_its_term.Goals as goal

pub returns : goal.returns
returns c = record {
  hello = λ past entries entry store moment address labels. counts_by (ask.Hello store moment address labels) past entries entry (λ part. refl);
  alive = λ past entries entry store moment. counts_by (ask.Alive store moment) past entries entry (λ part. refl);
  beat = λ past entries entry store moment beat. counts_by (ask.Beat store moment beat) past entries entry (λ part. refl);
  rule = λ past entries entry moment json. counts_by (ask.Rule moment json) past entries entry (λ part. refl);
  unrule = λ past entries entry moment group id. counts_by (ask.Unrule moment group id) past entries entry (λ part. refl);
  check = λ past entries entry moment region. counts_by (ask.Check moment region) past entries entry (λ part. refl);
  patrol = λ past entries entry moment workers. counts_by (ask.Patrol moment workers) past entries entry (λ part. refl);
  schedule = λ past entries entry moment. counts_by (ask.Schedule moment) past entries entry (λ part. refl);
  ctl = λ past entries entry moment words stays. counts_by (ask.Ctl moment words) past entries entry (λ part. ap (λ (t : Bool). cond t None (option_map (λ (es : List Entry). entry ∷ es) part)) stays);
}
