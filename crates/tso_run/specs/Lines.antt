-- What a driver and a client are asked on a line, and which lines a client answers.
use Rattle.std.specs.Prelude.{ℕ, ◌<◌, ◌≤◌, ◌==◌, List, filter}
use Rattle.pd_types.specs.declared.stamp.TheConstants.{LOGICAL}
use Rattle.tso_model.specs.declared.view.Setup.{Setup}
use Rattle.tso_driver.specs.declared.said.DriverSaid.{DriverSaid}
use Rattle.tso_driver.specs.declared.said.DriverSaid.TheVariants.{Led, Ticked, Resigned}
use Rattle.tso_outcome.specs.declared.said.ClientAnswer.{ClientAnswer}
use Rattle.tso_outcome.specs.declared.said.ClientSaid.{ClientSaid}
use Rattle.tso_outcome.specs.declared.said.ClientSaid.TheVariants.{Took, Told, Heard}
use Rattle.tso_run.specs.declared.line.ClientAsk.{ClientAsk}
use Rattle.tso_run.specs.declared.line.ClientAsk.TheVariants.{Take, Tell, Hear}
use Rattle.tso_run.specs.declared.line.ClientLine.{ClientLine}
use Rattle.tso_run.specs.declared.line.DriverAsk.{DriverAsk}
use Rattle.tso_run.specs.declared.line.DriverAsk.TheVariants.{Lead, Tick, Resign}

-- what was asked where a driver answered this
abbrev pub driver_ask : DriverSaid → DriverAsk
driver_ask (Led now reply) = Lead now
driver_ask (Ticked now reply) = Tick now
driver_ask (Resigned held) = Resign

-- what was asked where a client answered this
abbrev pub client_ask : ClientSaid → ClientAsk
client_ask (Took d n answer) = Take d n
client_ask (Told to) = Tell to
client_ask (Heard heard) = Hear

-- the line that an answer of the client c answers
abbrev pub client_line : ℕ → ClientAnswer → ClientLine
client_line c a = record { number = a.line; client = c; ask = client_ask a.said }

-- the lines of the client c, in their order
abbrev pub lines_of_client : ℕ → List ClientLine → List ClientLine
lines_of_client c lines = filter (λ (l : ClientLine). l.client == c) lines

-- a draw is of 1 to 262,143 timestamps, at one of the drivers; a note is for one of the clients
abbrev pub IsCall : Setup → ClientAsk → Type 0
IsCall k (Take d n) = (0 < d) × (d ≤ k.drivers) × (0 < n) × (n < LOGICAL)
IsCall k (Tell to) = (0 < to) × (to ≤ k.clients)
IsCall k Hear = Unit {0}
