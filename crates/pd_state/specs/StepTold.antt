-- Which step an answer prints as sent (own choice, after pd-ctl's words).
use Rattle.std.specs.Prelude.{◌≡◌, ℕ, List, Option, Some, None}
use Rattle.serde_json.specs.Written.{compact_text}
use Rattle.pd_types.specs.declared.step.Step.{Step}
use Rattle.op_control.specs.declared.turn.Dispatch.{Dispatch}
use Rattle.op_control.specs.declared.turn.Dispatch.TheVariants as dispatch
use Rattle.pd_state.specs.Reports.{added_tree}
use Rattle.pd_state.specs.declared.adding.Adding.{Adding}
use Rattle.pd_state.specs.declared.adding.Adding.TheVariants as adding
use Rattle.pd_state.specs.declared.reply.Reply.{Reply}
use Rattle.pd_state.specs.declared.reply.Reply.TheVariants as replies

-- the step that a dispatch sends, where it sends one
abbrev pub step_of : Dispatch → Option Step
step_of (dispatch.Send step) = Some step
step_of dispatch.NoOperator = None
step_of (dispatch.Wait held) = None
step_of dispatch.Done = None
step_of (dispatch.Ended state) = None

-- the step that is sent where an operator is added
abbrev pub step_added : Adding → Option Step
step_added (adding.Added answer) = step_of answer
step_added _ = None

-- the text of the report that an operator of so many steps was added and this step of it sent
abbrev pub sent_report : ℕ → Step → List ℕ
sent_report steps step = compact_text (added_tree steps (dispatch.Send step))

-- an answer tells that this step was sent
abbrev pub TellsStep : Reply → Step → Type 0
TellsStep (replies.Accepted removed answer) step = step_of answer ≡ Some step
TellsStep (replies.Plan class from to came) step = step_added came ≡ Some step
TellsStep (replies.Proposed name proposal came) step = step_added came ≡ Some step
TellsStep (replies.Report json) step = (steps : ℕ) × (json ≡ sent_report steps step)
TellsStep _ step = ⊥
