use Rattle.std.proofs.Common.{refl}
use Rattle.pd_types.specs.declared.request.Request.TheVariants as ask
use Rattle.pd_state.proofs.RulesLeft.{kept_left, other_left, put_left, removed_left, unput_left}
use Rattle.pd_state.proofs.rule_laws.what_is_left_of_the_rules.Goals as goal

pub returns : goal.returns
returns c = record {
  put = put_left;
  unput = unput_left;
  removed = removed_left;
  kept = kept_left;
  hello = λ entries entry store moment address labels. other_left (ask.Hello store moment address labels) entries entry (λ reply. refl);
  alive = λ entries entry store moment. other_left (ask.Alive store moment) entries entry (λ reply. refl);
  beat = λ entries entry store moment beat. other_left (ask.Beat store moment beat) entries entry (λ reply. refl);
}
