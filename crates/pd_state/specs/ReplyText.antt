-- The text of each answer of a cluster (own choice; the text of an accepted region heartbeat ends in what was dispatched).
use Rattle.std.specs.Prelude.{ℕ, List, ◌++◌, codes}
use Rattle.std.specs.Fmt.{decimal}
use Rattle.hex.specs.Hex.{encode_lower}
use Rattle.pd_types.specs.BeatCheck.{fault_number}
use Rattle.pd_types.specs.ProposalText.{proposal_text}
use Rattle.rule_text.specs.declared.fault.RuleFault.{RuleFault}
use Rattle.rule_text.specs.declared.fault.RuleFault.TheVariants as faults
use Rattle.pd_state.specs.AddingText.{adding_text, class_text, dispatch_text}
use Rattle.pd_state.specs.declared.reply.Reply.{Reply}
use Rattle.pd_state.specs.declared.reply.Reply.TheVariants as replies

-- the number of the test that a rule's text fails, from 1 on; want of memory is no answer
abbrev pub rule_fault_number : RuleFault → ℕ
rule_fault_number faults.NotJson = 1
rule_fault_number faults.NotObject = 2
rule_fault_number faults.Missing = 3
rule_fault_number faults.WrongKind = 4
rule_fault_number faults.BadHex = 5
rule_fault_number faults.BadRole = 6
rule_fault_number faults.BadOp = 7
rule_fault_number faults.BadCount = 8
rule_fault_number faults.EmptyRange = 9
rule_fault_number faults.IsolationLevel = 10
rule_fault_number faults.NoMemory = 0

-- the words of the answer, and its numbers in decimal; a report is its own text
abbrev pub reply_text : Reply → List ℕ
reply_text replies.NotLeading = codes "not-leading"
reply_text (replies.Term term stores rules) = codes "term " ++ decimal term ++ codes " stores " ++ decimal stores ++ codes " rules " ++ decimal rules
reply_text replies.Retired = codes "retired"
reply_text (replies.OldTerm fence) = codes "old-term " ++ decimal fence
reply_text (replies.Conflict found) = codes "conflict " ++ decimal found
reply_text replies.MetaLimit = codes "meta-limit"
reply_text replies.Tombstone = codes "tombstone"
reply_text replies.Limit = codes "limit"
reply_text replies.StorePut = codes "store put"
reply_text replies.UnknownStore = codes "unknown-store"
reply_text replies.Alive = codes "alive"
reply_text (replies.Bad fault) = codes "bad " ++ decimal (fault_number fault)
reply_text (replies.Stale kept) = codes "stale conf " ++ decimal kept.conf_ver ++ codes " version " ++ decimal kept.version
reply_text replies.Full = codes "full"
reply_text (replies.BadRule fault) = codes "bad-rule " ++ decimal (rule_fault_number fault)
reply_text replies.RuleLimit = codes "rule-limit"
reply_text replies.RulePut = codes "rule set"
reply_text replies.Absent = codes "absent"
reply_text replies.LastRule = codes "last-rule"
reply_text replies.RuleRemoved = codes "rule removed"
reply_text (replies.Accepted removed answer) = codes "accepted removed " ++ decimal removed ++ codes " " ++ dispatch_text answer
reply_text replies.NoRegion = codes "no-region"
reply_text (replies.NeedsSplit key) = codes "needs-split " ++ encode_lower key
reply_text replies.NoFault = codes "no-fault"
reply_text (replies.Plan class from to came) = codes "plan " ++ class_text class ++ codes " from " ++ decimal from ++ codes " to " ++ decimal to ++ codes " " ++ adding_text came
reply_text (replies.NoPlan from) = codes "no-plan from " ++ decimal from
reply_text (replies.Patrolled regions ok split plan no_plan added buried) =
    codes "patrol regions " ++ decimal regions ++ codes " ok " ++ decimal ok ++ codes " split " ++ decimal split ++ codes " plan " ++ decimal plan
    ++ codes " no-plan " ++ decimal no_plan ++ codes " added " ++ decimal added ++ codes " buried " ++ decimal buried
reply_text replies.NoScheduler = codes "no-scheduler"
reply_text (replies.Silent name) = codes "scheduler " ++ name ++ codes " none"
reply_text (replies.Proposed name proposal came) = codes "scheduler " ++ name ++ codes " " ++ proposal_text proposal ++ codes " " ++ adding_text came
reply_text (replies.Report json) = json
