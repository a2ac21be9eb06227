-- What the answers of drivers and stores say, each for itself.
use Rattle.std.specs.Prelude.{ℕ, List, [], ◌∷◌, Bool, true, false, codes, Option, Some, None, flat_map}
use Rattle.std.specs.Str.{bytes_eq}
use Rattle.pd_types.specs.declared.request.Request.{Request}
use Rattle.pd_types.specs.declared.request.Request.TheVariants.{Term, Retire}
use Rattle.pd_types.specs.declared.step.StepMsg.{StepMsg}
use Rattle.tso_driver.specs.declared.reply.LeadReply.TheVariants.{Won, Beaten, Lost as LeadLost, TermsSpent, ClockRange as LeadPast}
use Rattle.tso_driver.specs.declared.reply.TickReply.TheVariants.{Moved, Idle, Lost as TickLost, ClockRange as TickPast, NotLeading}
use Rattle.tso_driver.specs.declared.said.DriverSaid.{DriverSaid}
use Rattle.tso_driver.specs.declared.said.DriverSaid.TheVariants.{Led, Ticked, Resigned as OwnResign}
use Rattle.tso_outcome.specs.declared.said.DriverAnswer.{DriverAnswer as OracleAnswer}
use Rattle.pd_state.specs.declared.reply.Reply.{Reply}
use Rattle.pd_state.specs.declared.reply.Reply.TheVariants.{Report}
use Rattle.pd_run.specs.declared.answer.DriverAnswer.{DriverAnswer}
use Rattle.pd_run.specs.declared.answer.DriverSays.{DriverSays}
use Rattle.pd_run.specs.declared.answer.DriverSays.TheVariants.{Oracle, Cluster, Resigned}
use Rattle.pd_run.specs.declared.answer.StoreSays.{StoreSays}
use Rattle.pd_run.specs.declared.answer.StoreSays.TheVariants.{Cluster as Replied, Popped}

-- What a driver's cluster is asked besides, once the oracle answered this to the driver: the term that was won begins at the line's moment, and a term that was
-- lost or given up ends (PD: the leader's cluster starts with its campaign and stops with its term)
abbrev pub asked_besides : DriverSaid → Option Request
asked_besides (Led now (Won term lo hi)) = Some (Term term now)
asked_besides (Led now (Beaten found)) = None
asked_besides (Led now (LeadLost found)) = Some Retire
asked_besides (Led now TermsSpent) = None
asked_besides (Led now LeadPast) = None
asked_besides (Ticked now (Moved next hi)) = None
asked_besides (Ticked now Idle) = None
asked_besides (Ticked now (TickLost found)) = Some Retire
asked_besides (Ticked now TickPast) = None
asked_besides (Ticked now NotLeading) = None
asked_besides (OwnResign true) = Some Retire
asked_besides (OwnResign false) = None

-- the reply says that a command gave the term up (pd-ctl: `member leader resign`)
abbrev pub gave_up : Reply → Bool
gave_up (Report json) = bytes_eq json (codes "{\"done\":\"Resigned\"}")
gave_up _ = false

-- what the oracle answered on a driver's line: its answer, or, where a command gave the term up, that the driver resigned
abbrev pub by_oracle : ℕ → DriverSays → List OracleAnswer
by_oracle line (Oracle said) = record { line = line; said = said } ∷ []
by_oracle line (Cluster reply) = []
by_oracle line (Resigned reply held) = record { line = line; said = OwnResign held } ∷ []

-- what the oracle answered on a driver's lines, in their order
abbrev pub oracle_answers : List DriverAnswer → List OracleAnswer
oracle_answers answers = flat_map (λ (a : DriverAnswer). by_oracle a.line a.says) answers

-- the step that a store took, where it took one
abbrev pub taken : StoreSays → List StepMsg
taken (Replied reply) = []
taken (Popped None) = []
taken (Popped (Some message)) = message ∷ []
