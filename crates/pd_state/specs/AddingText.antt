-- The texts of what a dispatch and adding an operator come to, and of a plan's class (own choice, after pd-ctl's words).
use Rattle.std.specs.Prelude.{ℕ, List, ◌++◌, codes}
use Rattle.std.specs.Fmt.{decimal}
use Rattle.pd_types.specs.StepText.{step_text}
use Rattle.op_step.specs.declared.wishes.BuildFault.{BuildFault}
use Rattle.op_step.specs.declared.wishes.BuildFault.TheVariants as builds
use Rattle.op_step.specs.declared.safety.Why.{Why}
use Rattle.op_step.specs.declared.safety.Why.TheVariants as why
use Rattle.op_control.specs.StateText.{op_state_text}
use Rattle.op_control.specs.declared.adding.AddFault.{AddFault}
use Rattle.op_control.specs.declared.adding.AddFault.TheVariants as faults
use Rattle.op_control.specs.declared.turn.Dispatch.{Dispatch}
use Rattle.op_control.specs.declared.turn.Dispatch.TheVariants as dispatch
use Rattle.rule_checker.specs.declared.class.Class.{Class}
use Rattle.rule_checker.specs.declared.class.Class.TheVariants as classes
use Rattle.pd_state.specs.declared.adding.Adding.{Adding}
use Rattle.pd_state.specs.declared.adding.Adding.TheVariants as adding

-- the name of the test that holds a step
abbrev pub why_text : Why → List ℕ
why_text why.Before = codes "before"
why_text why.After = codes "after"
why_text why.Target = codes "target"

-- the answer of a dispatch
abbrev pub dispatch_text : Dispatch → List ℕ
dispatch_text dispatch.NoOperator = codes "none"
dispatch_text (dispatch.Send step) = codes "send " ++ step_text step
dispatch_text (dispatch.Wait held) = codes "held " ++ why_text held.why ++ codes " live " ++ decimal held.live ++ codes " of " ++ decimal held.voters
dispatch_text dispatch.Done = codes "done"
dispatch_text (dispatch.Ended state) = codes "ended " ++ op_state_text state

-- the test of an operator that fails; want of memory is no answer
abbrev pub fault_text : AddFault → List ℕ
fault_text faults.NoRegion = codes "no-region"
fault_text (faults.EpochMoved kept) = codes "epoch-moved conf " ++ decimal kept.conf_ver ++ codes " version " ++ decimal kept.version
fault_text (faults.Busy priority) = codes "busy " ++ decimal priority
fault_text (faults.Limited available needed) = codes "limited available " ++ decimal available ++ codes " needed " ++ decimal needed
fault_text faults.Limit = codes "limit"
fault_text faults.NoMemory = codes "no-memory"

-- why a wish can't be built; want of memory is no answer
abbrev pub build_text : BuildFault → List ℕ
build_text builds.UnknownStore = codes "unknown-store"
build_text builds.NotUsable = codes "not-usable"
build_text builds.HasPeer = codes "has-peer"
build_text builds.NoPeer = codes "no-peer"
build_text builds.IsLeader = codes "is-leader"
build_text builds.NotVoter = codes "not-voter"
build_text builds.NoTarget = codes "no-target"
build_text builds.NoMemory = codes "no-memory"

-- what came of adding an operator
abbrev pub adding_text : Adding → List ℕ
adding_text (adding.Added answer) = dispatch_text answer
adding_text (adding.Build fault) = build_text fault
adding_text (adding.Add fault) = fault_text fault
adding_text (adding.OldTerm fence) = codes "old-term " ++ decimal fence
adding_text (adding.Conflict found) = codes "conflict " ++ decimal found
adding_text adding.MetaLimit = codes "meta-limit"
adding_text adding.IdsSpent = codes "ids-spent"

-- the name of a plan's class
abbrev pub class_text : Class → List ℕ
class_text classes.Promote = codes "promote"
class_text classes.Transfer = codes "transfer"
class_text classes.AddVoter = codes "add-voter"
class_text classes.AddLearner = codes "add-learner"
class_text classes.Remove = codes "remove"
