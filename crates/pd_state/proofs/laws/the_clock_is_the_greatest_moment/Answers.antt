use Rattle.std.proofs.Common.{refl}
use Rattle.pd_state.proofs.Moments.{clock_most, clock_one}
use Rattle.pd_state.proofs.laws.the_clock_is_the_greatest_moment.Goals as goal

pub returns : goal.returns
returns c = record {
  most = clock_most;
  one = clock_one;
  term = λ term moment. refl;
  hello = λ store moment address labels. refl;
  alive = λ store moment. refl;
  beat = λ store moment beat. refl;
  rule = λ moment json. refl;
  unrule = λ moment group id. refl;
  check = λ moment region. refl;
  patrol = λ moment workers. refl;
  schedule = λ moment. refl;
  ctl = λ moment words. refl;
}
