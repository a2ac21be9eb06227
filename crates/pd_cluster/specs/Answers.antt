-- The answers to the lines of a script, as they are printed.
use Rattle.std.specs.Prelude.{ℕ, List, [], ◌∷◌, ◌++◌, codes, Option, Some, None}
use Rattle.std.specs.Fmt.{decimal}
use Rattle.pd_types.specs.declared.oracle.Actor.{Actor}
use Rattle.pd_types.specs.declared.oracle.Actor.TheVariants.{Driver, Client, Store}
use Rattle.pd_types.specs.declared.oracle.CellWord.{CellWord}
use Rattle.pd_types.specs.StepText.{step_text}
use Rattle.pd_types.specs.declared.step.StepMsg.{StepMsg}
use Rattle.pd_script.specs.declared.act.Act.{Act}
use Rattle.pd_script.specs.declared.act.Act.TheVariants.{Cell}
use Rattle.pd_script.specs.declared.act.Line.{Line}
use Rattle.pd_state.specs.ReplyText.{reply_text as told_text}
use Rattle.tso_core.specs.Text.{reply_text}
use Rattle.tso_core.specs.declared.reply.Reply.{Reply}
use Rattle.tso_core.specs.declared.reply.Reply.TheVariants.{Nothing}
use Rattle.pd_cluster.specs.declared.said.Said.{Said}
use Rattle.pd_cluster.specs.declared.said.Said.TheVariants.{ByOracle, ByCluster, Popped}

-- a line with its answer
pub record Answer : Type 0 where
  pub line : Line
  pub said : Said

-- the text of what a store took: the term and the entry that sent it, its region, and the step
abbrev pub popped_text : Option StepMsg → List ℕ
popped_text None = codes "empty"
popped_text (Some message) =
    codes "popped term " ++ decimal message.term ++ codes " entry " ++ decimal message.entry ++ codes " region " ++ decimal message.region ++ codes " " ++ step_text message.step

-- the text of an answer
abbrev pub said_text : Said → List ℕ
said_text (ByOracle reply) = reply_text reply
said_text (ByCluster reply) = told_text reply
said_text (Popped message) = popped_text message

-- a line's number, its answer, a line feed
abbrev pub answer_text : Answer → List ℕ
answer_text answer = decimal answer.line.number ++ codes " " ++ said_text answer.said ++ codes "\n"

-- the lines of all answers
abbrev pub answers_text : List Answer → List ℕ
answers_text [] = []
answers_text (answer ∷ answers) = answer_text answer ++ answers_text answers

-- what the oracle answered; the other answers say nothing of it
abbrev pub oracle_reply : Said → Reply
oracle_reply (ByOracle reply) = reply
oracle_reply (ByCluster reply) = Nothing
oracle_reply (Popped message) = Nothing

-- the driver that acts in a line, by the line's actor; 0 where none does
abbrev pub driver_in : Option Actor → ℕ
driver_in None = 0
driver_in (Some (Driver driver)) = driver
driver_in (Some (Client client)) = 0
driver_in (Some (Store store)) = 0

-- the client that acts in a line; 0 where none does
abbrev pub client_in : Option Actor → ℕ
client_in None = 0
client_in (Some (Driver driver)) = 0
client_in (Some (Client client)) = client
client_in (Some (Store store)) = 0

-- the cell of a `cell` line; of any other, the empty cell
abbrev pub named_cell : Act → CellWord
named_cell (Cell saved term) = record { saved = saved; term = term }
named_cell _ = record { saved = 0; term = 0 }

-- the opening cell of a script: that of its first line
abbrev pub opening_cell : List Line → CellWord
opening_cell [] = record { saved = 0; term = 0 }
opening_cell (line ∷ lines) = named_cell line.act
