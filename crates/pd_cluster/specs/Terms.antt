-- When a driver's term begins and ends, by the answers of the oracle (PD documentation: a leader serves from its campaign until it
-- resigns or finds that another campaigned).
use Rattle.std.specs.Prelude.{◌≡◌, ◌⊎◌, ◌<◌, ℕ, Option, Some}
use Rattle.pd_types.specs.declared.oracle.CellWord.{CellWord}
use Rattle.pd_types.specs.declared.request.Request.{Request}
use Rattle.pd_types.specs.declared.request.Request.TheVariants.{Term}
use Rattle.pd_script.specs.declared.act.Act.{Act}
use Rattle.pd_script.specs.declared.act.Act.TheVariants.{Lead, Read}
use Rattle.tso_core.specs.declared.reply.Reply.{Reply}
use Rattle.tso_core.specs.declared.reply.Reply.TheVariants.{Won, Lost, Resigned, CellRead, Published}
use Rattle.pd_cluster.specs.Replay.{moment_of}
use Rattle.pd_cluster.specs.declared.lead.BegunLead.{BegunLead}

-- the term is lost or given up
abbrev pub EndsTerm : Reply → Type 0
EndsTerm reply = ((found : CellWord) × (reply ≡ Lost found)) ⊎ (reply ≡ Resigned)

-- A term begins at a moment: a whole lead is won at its own moment, or a publish of an end, which isn't 0, ends a lead by single
-- steps that began at that moment and claimed that term
abbrev pub BeginsTerm : Act → Reply → Option BegunLead → ℕ → ℕ → Type 0
BeginsTerm act reply lead term moment =
    ((lo hi : ℕ) × (reply ≡ Won term lo hi) × (moment ≡ moment_of act))
    ⊎ ((hi : ℕ) × (reply ≡ Published hi) × (0 < hi) × (lead ≡ Some (record { moment = moment; term = term })))

-- a `read` line that goes on begins a lead at the line's moment
abbrev pub ReadBegins : Act → Reply → Option BegunLead → Type 0
ReadBegins act reply result = (driver now : ℕ) (cell : CellWord) → act ≡ Read driver now → reply ≡ CellRead cell → result ≡ Some (record { moment = now; term = 0 })

-- a `lead` line that is won asks for its term at the line's moment
abbrev pub WinAsks : Act → Reply → Option Request → Type 0
WinAsks act reply result = (driver now term lo hi : ℕ) → act ≡ Lead driver now → reply ≡ Won term lo hi → result ≡ Some (Term term now)
