use Rattle.std.proofs.Common.{◌∷◌, [], Some, None}
use Rattle.meta_store.specs.declared.record.MetaVerdict.TheVariants as verdicts
use Rattle.meta_store.specs.Doors.{answer_of}
use Rattle.rule_set.specs.declared.fault.RemoveFault.TheVariants.{Absent, LastRule}
use Rattle.pd_state.specs.Heard.{hears}
use Rattle.pd_state.proofs.RuleReplies.{absent_rule, free_rule, last_rule, removal_reply, removed_reply}
use Rattle.pd_state.proofs.rule_laws.how_a_removal_is_answered.Goals as goal

pub returns : goal.returns
returns c = record {
  absent = λ driver part moment group id heard unknown. removal_reply driver part moment group id heard (Some Absent) (absent_rule group id part.rules unknown);
  last = λ driver part moment group id heard known one. removal_reply driver part moment group id heard (Some LastRule) (last_rule group id part.rules known one);
  removed = removed_reply;
  outdated = λ driver part moment fence group id call known more.
      removal_reply driver part moment group id (hears (answer_of call (verdicts.OldTerm fence) [] ∷ [])) None (free_rule group id part.rules known more);
  conflict = λ driver part moment found group id call known more.
      removal_reply driver part moment group id (hears (answer_of call (verdicts.Conflict found) [] ∷ [])) None (free_rule group id part.rules known more);
  full = λ driver part moment group id call known more. removal_reply driver part moment group id (hears (answer_of call verdicts.Limit [] ∷ [])) None (free_rule group id part.rules known more);
}
