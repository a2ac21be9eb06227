use Rattle.meta_store.specs.declared.record.MetaVerdict.TheVariants as verdicts
use Rattle.pd_state.proofs.RuleReplies.{bad_reply, limit_from, limit_to, put_reply, refused_reply}
use Rattle.pd_state.proofs.rule_laws.how_a_rule_is_answered.Goals as goal

pub returns : goal.returns
returns c = record {
  bad = bad_reply;
  limit = λ driver part moment json rule heard means. (limit_from driver part moment json rule heard means, limit_to driver part moment json rule heard means);
  put = put_reply;
  outdated = λ driver part moment fence. refused_reply (verdicts.OldTerm fence) driver part moment;
  conflict = λ driver part moment found. refused_reply (verdicts.Conflict found) driver part moment;
  full = refused_reply verdicts.Limit;
}
