-- The answers to whatever text is a script are a safe history.
use Rattle.std.proofs.Common.{◌≡◌, ℕ, List, refl}
use Rattle.std.specs.Prelude.{Result, Ok, Err}
use Rattle.pd_script.specs.Scripts.{script_of}
use Rattle.pd_script.specs.declared.refusal.ScriptRefusal.{ScriptRefusal}
use Rattle.pd_script.specs.declared.script.Mode.TheVariants.{Replay as ByLine}
use Rattle.pd_script.specs.declared.script.Script.{Script}
use Rattle.pd_script.proofs.Lawful.{lawful}
use Rattle.pd_cluster.proofs.Histories.{history}
use Rattle.pd_cluster.specs.Outcome.{SafeOutcome, SafeScript}
use Rattle.pd_cluster.specs.declared.command.Command.{Command}
use Rattle.pd_cluster.specs.declared.command.Command.TheVariants.{Replay, Run, Tso}

safe_result : (text : List ℕ) (r : Result Script ScriptRefusal) → script_of ByLine text ≡ r → SafeScript r
safe_result text (Ok script) is = λ talks. history talks ByLine script (lawful ByLine text script is)
safe_result text (Err refusal) is = tt

pub safe_outcome : (command : Command) (text : List ℕ) → SafeOutcome command text
safe_outcome Replay text = safe_result text (script_of ByLine text) refl
safe_outcome Run text = tt
safe_outcome (Tso timestamp) text = tt
