-- The reports of faults and of pd-ctl's commands that change a cluster (pd-ctl's output; which fields stand there is our own choice).
use Rattle.std.specs.Prelude.{ℕ, List, codes, if◌then◌else◌, Result}
use Rattle.serde_json.specs.Data.{Data, object, member, no_members, string}
use Rattle.serde_json.specs.Written.{compact_text}
use Rattle.op_control.specs.declared.turn.Dispatch.{Dispatch}
use Rattle.rule_fit.specs.Suits.{is_among}
use Rattle.pd_ctl.specs.Commands.{command_of}
use Rattle.pd_ctl.specs.Trees.{count, fault_tree, single}
use Rattle.pd_ctl.specs.declared.command.Command.{Command}
use Rattle.pd_ctl.specs.declared.fault.CtlFault.{CtlFault}
use Rattle.pd_ctl.specs.declared.fault.CtlFault.TheVariants as faults
use Rattle.pd_state.specs.AddingText.{adding_text, dispatch_text}
use Rattle.pd_state.specs.declared.adding.Adding.{Adding}
use Rattle.pd_state.specs.declared.adding.Adding.TheVariants as adding
use Rattle.pd_state.specs.declared.reply.Reply.{Reply}
use Rattle.pd_state.specs.declared.reply.Reply.TheVariants as replies

-- the command that these words are, or the first fault
unfoldable pub command_told : List ℕ → Result Command CtlFault
command_told words = command_of words

-- the text of a fault of words; want of memory is no answer
abbrev pub ctl_fault_text : CtlFault → List ℕ
ctl_fault_text faults.Unknown = codes "unknown"
ctl_fault_text faults.BadNumber = codes "bad-number"
ctl_fault_text faults.MissingWord = codes "missing-word"
ctl_fault_text faults.ExtraWord = codes "extra-word"
ctl_fault_text faults.NoMemory = codes "no-memory"

-- the reply that is this tree's text
abbrev pub reported : Data → Reply
reported tree = replies.Report (compact_text tree)

-- what was done, by its name
abbrev pub done_tree : List ℕ → Data
done_tree name = single (codes "done") (string name)

-- how many steps an operator has that was added, and what its dispatch answered
abbrev pub added_tree : ℕ → Dispatch → Data
added_tree steps answer = object (member (codes "added") (count steps) (member (codes "now") (string (dispatch_text answer)) no_members))

-- what came of adding an operator of so many steps
abbrev pub adding_tree : ℕ → Adding → Data
adding_tree steps (adding.Added answer) = added_tree steps answer
adding_tree steps (adding.Build fault) = fault_tree (adding_text (adding.Build fault))
adding_tree steps (adding.Add fault) = fault_tree (adding_text (adding.Add fault))
adding_tree steps (adding.OldTerm fence) = fault_tree (adding_text (adding.OldTerm fence))
adding_tree steps (adding.Conflict found) = fault_tree (adding_text (adding.Conflict found))
adding_tree steps adding.MetaLimit = fault_tree (adding_text adding.MetaLimit)
adding_tree steps adding.IdsSpent = fault_tree (adding_text adding.IdsSpent)

-- whether the scheduler of this name goes
abbrev pub removal_tree : List ℕ → List (List ℕ) → Data
removal_tree name names = if is_among name names then done_tree (codes "Removed") else fault_tree (codes "absent")
