-- When a text is refused.
use Rattle.std.specs.Prelude.{◌≡◌, ℕ, List, [], ◌∷◌, Option, Some, None, Result, Err}
use Rattle.pd_script.specs.Grammar.{AtFault}
use Rattle.pd_script.specs.declared.refusal.LineRefusal.{LineRefusal}
use Rattle.pd_script.specs.declared.refusal.LineRefusal.TheVariants.{Fault as AtReason, NoMemory as NoRoom}
use Rattle.pd_script.specs.declared.refusal.Reason.{Reason}
use Rattle.pd_script.specs.declared.refusal.ScriptRefusal.{ScriptRefusal}
use Rattle.pd_script.specs.declared.refusal.ScriptRefusal.TheVariants.{Fault, Limit, NoMemory}
use Rattle.pd_script.specs.declared.script.Script.{Script}
use Rattle.pd_script.specs.declared.event.Event.{Event}
use Rattle.pd_script.specs.declared.event.Numbered.{Numbered}

-- the refusal is the text's own, but for want of memory
abbrev pub IsRefusal : Result Script ScriptRefusal → ScriptRefusal → Type 0
IsRefusal script (Fault line reason) = script ≡ Err (Fault line reason)
IsRefusal script (Limit what count) = script ≡ Err (Limit what count)
IsRefusal script NoMemory = Unit {0}

-- the refusal is the first line at fault, but for want of memory
abbrev pub IsFault : Result (List Numbered) AtFault → ScriptRefusal → Type 0
IsFault events (Fault line reason) = events ≡ Err (record { line = line; reason = reason })
IsFault events (Limit what count) = ⊥
IsFault events NoMemory = Unit {0}

-- the events that a line adds
abbrev pub kept : ℕ → Option Event → List Numbered
kept number None = []
kept number (Some event) = record { number = number; event = event } ∷ []

-- the refusal is that of what was read, but for want of memory
abbrev pub IsLineRefusal : {A : Type 0} → Result A Reason → LineRefusal → Type 0
IsLineRefusal read (AtReason reason) = read ≡ Err reason
IsLineRefusal read NoRoom = Unit {0}

-- the refusal of a text whose line of this number is refused so
abbrev pub at_line : ℕ → LineRefusal → ScriptRefusal
at_line line (AtReason reason) = Fault line reason
at_line line NoRoom = NoMemory
