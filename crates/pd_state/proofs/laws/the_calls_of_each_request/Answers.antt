use Rattle.pd_state.proofs.CallLemmas.{alive_calls, beat_calls, known_calls, new_calls, no_calls, refused_calls, retire_calls, term_calls}
use Rattle.pd_state.proofs.laws.the_calls_of_each_request.Goals as goal

pub returns : goal.returns
returns c = record {
  term = term_calls;
  hello = new_calls;
  again = known_calls;
  refused = refused_calls;
  alive = alive_calls;
  beat = beat_calls;
  retire = retire_calls;
  without = λ store moment address labels answers asked. no_calls answers asked;
  rule = λ moment json answers asked. no_calls answers asked;
  unrule = λ moment group id answers asked. no_calls answers asked;
  check = λ moment region answers asked. no_calls answers asked;
  patrol = λ moment workers answers asked. no_calls answers asked;
  schedule = λ moment said answers asked. no_calls answers asked;
  ctl = λ moment words answers asked. no_calls answers asked;
}
