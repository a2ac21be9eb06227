-- What a client's worker leaves.
use Rattle.tso_outcome.specs.Runs.{ClientPart}
use Rattle.tso_run.specs.declared.caller.ClientWork.{ClientWork}
use Rattle.tso_run.specs.declared.end.ClientAnswers.{ClientAnswers}

-- a client's part of the run
abbrev pub client_part : ClientAnswers → ClientPart
client_part a = record { number = a.number; answers = a.answers.items }

-- the answers of a client's worker
abbrev pub client_answers : {N : Type 0} → ClientWork N → ClientAnswers
client_answers w = record { number = w.number; answers = w.answers }
