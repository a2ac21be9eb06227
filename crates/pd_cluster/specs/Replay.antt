-- The answers of a script, a line after the other over the state that the lines before leave: the oracle's, a cluster for each driver,
-- whose journal is all that is known of it, the metadata that the clusters share, whose calls are all that is known of it, the benches of
-- schedulers, of which what they say is all that is known, and the messages that wait for the stores that act.
use Rattle.std.specs.FinMap as map
use Rattle.std.specs.Prelude.{◌≡◌, ℕ, ◌+◌, List, [], ◌∷◌, get_or, length, slice_set, replicate, take, nat_eq, Bool, true, false, Option, Some, None, if◌then◌else◌}
use Rattle.pd_types.specs.declared.oracle.Actor.TheVariants.{Driver, Client}
use Rattle.pd_types.specs.declared.request.Request.{Request}
use Rattle.pd_types.specs.declared.request.Request.TheVariants.{Term, Retire, Ctl as ToCtl}
use Rattle.pd_script.specs.declared.act.Act.{Act}
use Rattle.pd_script.specs.declared.act.Act.TheVariants.{Cell, Lead, Tick, Resign, Take, Tell, Hear, Read, Campaign, Save, Raise, Publish, Probe, Look, Arm, Draw, Ask, Pop}
use Rattle.pd_script.specs.declared.act.Line.{Line}
use Rattle.pd_script.specs.declared.script.Script.{Script}
use Rattle.tso_model.specs.declared.view.Setup.{Setup}
use Rattle.tso_core.specs.Whole.{Whole}
use Rattle.tso_core.specs.Opened.{opened}
use Rattle.tso_core.specs.Steps.{Stepped, step_of}
use Rattle.tso_core.specs.Rows.{lead_of, tick_of, resigned_of, take_of}
use Rattle.tso_core.specs.Notes.{tell_of, hear_of}
use Rattle.tso_core.specs.declared.reply.Kind.TheVariants.{Read as ToRead, Campaign as ToCampaign, Save as ToSave, Raise as ToRaise, Publish as ToPublish, Probe as ToProbe, Look as ToLook, Arm as ToArm, Draw as ToDraw}
use Rattle.tso_core.specs.declared.reply.Reply.{Reply}
use Rattle.tso_core.specs.declared.reply.Reply.TheVariants.{Won, Lost, Resigned, Nothing, CellRead, Claimed, Probed, Published}
use Rattle.meta_store.specs.declared.record.MetaAnswer.{MetaAnswer}
use Rattle.meta_store.specs.declared.record.MetaEntry.{MetaEntry}
use Rattle.pd_state.specs.declared.entry.Entry.{Entry}
use Rattle.sched_api.specs.declared.scheduler.Said.{Said as Heeded}
use Rattle.pd_state.specs.BenchHeard.{dropped, names_heard, turns_of}
use Rattle.pd_state.specs.Calls.{most_calls, next_call}
use Rattle.pd_state.specs.Ctl.{resigns}
use Rattle.pd_state.specs.declared.heard.Heard.{Heard}
use Rattle.pd_state.specs.declared.part.Part.{Part}
use Rattle.pd_state.specs.Legal.{first_reply, sends_by}
use Rattle.pd_state.specs.State.{part_after}
use Rattle.pd_state.specs.declared.reply.Reply.{Reply as Told}
use Rattle.pd_cluster.specs.Metadata.{answers_to, with_answers}
use Rattle.pd_script.specs.Scripts.{asker}
use Rattle.pd_cluster.specs.Answers.{Answer, driver_in, opening_cell}
use Rattle.pd_cluster.specs.Talks.{Talk, talk_at, talk_left}
use Rattle.pd_cluster.specs.Streams.{Waiting, left_by, oldest_in, waiting_for, with_messages}
use Rattle.pd_cluster.specs.declared.lead.BegunLead.{BegunLead}
use Rattle.pd_cluster.specs.declared.said.Said.{Said}
use Rattle.pd_cluster.specs.declared.said.Said.TheVariants.{ByOracle, ByCluster, Popped}

-- what a line does to the oracle; a `cell` line, which named the opening cell, answers that cell, and what is asked of a cluster,
-- or taken of what it sent, does nothing to the oracle
abbrev pub act_step : Whole → Act → Stepped
act_step w (Cell saved term) = record { reply = CellRead (record { saved = saved; term = term }); after = w }
act_step w (Lead driver now) = lead_of w driver now
act_step w (Tick driver now) = tick_of w driver now
act_step w (Resign driver) = resigned_of w driver
act_step w (Take client driver n) = take_of w client driver n
act_step w (Tell client to) = tell_of w client to
act_step w (Hear client) = hear_of w client
act_step w (Read driver now) = step_of w (Driver driver) (ToRead now)
act_step w (Campaign driver) = step_of w (Driver driver) ToCampaign
act_step w (Save driver) = step_of w (Driver driver) ToSave
act_step w (Raise driver) = step_of w (Driver driver) ToRaise
act_step w (Publish driver) = step_of w (Driver driver) ToPublish
act_step w (Probe driver now) = step_of w (Driver driver) (ToProbe now)
act_step w (Look client driver) = step_of w (Client client) (ToLook driver)
act_step w (Arm client n) = step_of w (Client client) (ToArm n)
act_step w (Draw client) = step_of w (Client client) ToDraw
act_step w (Ask driver request) = record { reply = Nothing; after = w }
act_step w (Pop store driver) = record { reply = Nothing; after = w }

-- what the clusters keep: by the driver's number what each was asked and replied, and the calls of all of them to the metadata,
-- all with the latest first; and by the driver's number what its bench goes on to say
pub record Kept : Type 0 where
  pub journals : List (List Entry)
  pub metadata : List MetaEntry
  pub talks : List Talk

-- the state: the oracle; how far each driver's lead by single steps is; what the clusters keep; and what waits of the messages that they
-- sent. The leads, the journals and the streams go by the driver's number, and their first places are nobody's.
pub record State : Type 0 where
  pub oracle : Whole
  pub leads : List (Option BegunLead)
  pub kept : Kept
  pub streams : List Waiting

-- the moment of a line that begins a lead or is one, else 0
abbrev pub moment_of : Act → ℕ
moment_of (Lead driver now) = now
moment_of (Read driver now) = now
moment_of _ = 0

-- the lead with the term that it claimed
abbrev pub with_term : ℕ → Option BegunLead → Option BegunLead
with_term term None = None
with_term term (Some lead) = Some (record lead { term = term })

-- How far a driver's lead by single steps is after an answer: it begins with a `read` that goes on, and claims a term; a `probe`
-- begins a tick, and a `publish` ends both
abbrev pub lead_after : Act → Reply → Option BegunLead → Option BegunLead
lead_after act (CellRead cell) lead = Some (record { moment = moment_of act; term = 0 })
lead_after act (Claimed term) lead = with_term term lead
lead_after act (Probed cursor) lead = None
lead_after act (Published hi) lead = None
lead_after act _ lead = lead

-- the Term of a lead that a `publish` ends; none of a tick's, or of 0
abbrev pub published_term : ℕ → Option BegunLead → Option Request
published_term hi None = None
published_term hi (Some lead) = if nat_eq hi 0 then None else Some (Term lead.term lead.moment)

-- What the driver's cluster is asked besides: Term where a lead is won, at the moment at which it began, and Retire where the
-- term is lost or given up
abbrev pub asked_besides : Act → Reply → Option BegunLead → Option Request
asked_besides act (Won term lo hi) lead = Some (Term term (moment_of act))
asked_besides act (Published hi) lead = published_term hi lead
asked_besides act (Lost found) lead = Some Retire
asked_besides act Resigned lead = Some Retire
asked_besides act _ lead = None

-- what the driver's cluster was asked and replied, the latest first
abbrev pub past_at : List (List Entry) → ℕ → List Entry
past_at journals driver = get_or journals driver []

-- the tables of a driver's cluster; none without a term
abbrev pub part_at : Kept → ℕ → Option Part
part_at kept driver = part_after (past_at kept.journals driver)

-- the names of the driver's schedulers, where the request asks for them
abbrev pub names_at : Kept → ℕ → Request → List (List ℕ)
names_at kept driver request = names_heard request (talk_at kept.talks driver).names

-- what the driver's bench says in the turns that the request lets its schedulers take
abbrev pub said_at : Kept → ℕ → Request → List Heeded
said_at kept driver request = take (turns_of (part_at kept driver) request (names_at kept driver request)) (talk_at kept.talks driver).said

-- the bench says as much as the request lets its schedulers take turns
abbrev pub SaysEnough : Kept → ℕ → Request → Type 0
SaysEnough kept driver request = length (said_at kept driver request) ≡ turns_of (part_at kept driver) request (names_at kept driver request)

-- what the metadata answers to the calls of a request to a driver's cluster
abbrev pub answers_at : Kept → ℕ → Request → List MetaAnswer
answers_at kept driver request =
    answers_to (most_calls (part_at kept driver) request) (next_call (part_at kept driver) request (said_at kept driver request)) kept.metadata driver

-- what a request to a driver's cluster hears
abbrev pub heard_at : Kept → ℕ → Request → Heard
heard_at kept driver request = record { answers = answers_at kept driver request; bench = said_at kept driver request; names = names_at kept driver request }

-- the reply to a request to a driver's cluster: the first that applies over the entries before it and what it hears
abbrev pub replied : Kept → ℕ → Request → Told
replied kept driver request = first_reply driver (part_at kept driver) request (heard_at kept driver request)

-- the entry of a request to a driver's cluster, with the steps that it sends
abbrev pub served : Kept → ℕ → ℕ → Request → Entry
served kept driver number request = record {
  actor = asker driver request;
  line = number;
  request = request;
  answers = answers_at kept driver request;
  bench = said_at kept driver request;
  names = names_at kept driver request;
  reply = replied kept driver request;
  sends = sends_by driver (past_at kept.journals driver) request (replied kept driver request) (heard_at kept driver request);
}

-- the bench of a driver after a request
abbrev pub talk_after : Kept → ℕ → Request → Talk
talk_after kept driver request =
    talk_left (talk_at kept.talks driver) (said_at kept driver request) (dropped (part_at kept driver) request (names_at kept driver request))

-- what the clusters keep with that entry, with the calls that were answered, and with what the bench said
abbrev pub with_served : Kept → ℕ → ℕ → Request → Kept
with_served kept driver number request = record {
  journals = slice_set kept.journals driver (served kept driver number request ∷ past_at kept.journals driver);
  metadata = with_answers kept.metadata driver (answers_at kept driver request);
  talks = slice_set kept.talks driver (talk_after kept driver request);
}

-- the same with the entry of a request, where there is one
abbrev pub with_besides : Kept → ℕ → ℕ → Option Request → Kept
with_besides kept driver number None = kept
with_besides kept driver number (Some request) = with_served kept driver number request

-- an answer and the state after it
pub record Turned : Type 0 where
  pub said : Said
  pub after : State

-- what is asked of a cluster, and of whose
abbrev pub request_of : Act → Option (ℕ × Request)
request_of (Ask driver request) = Some (driver, request)
request_of _ = None

-- whose message a line takes, and of which driver
abbrev pub pop_of : Act → Option (ℕ × ℕ)
pop_of (Pop store driver) = Some (store, driver)
pop_of _ = None

-- what waits of the messages of a driver's cluster
abbrev pub waiting_at : State → ℕ → Waiting
waiting_at state driver = get_or state.streams driver map.empty

-- the lead of a driver
abbrev pub lead_at : State → ℕ → Option BegunLead
lead_at state driver = get_or state.leads driver None

-- what an answer of the oracle to a line of this driver leaves: the oracle after it, how far the driver's lead is, and what its
-- cluster is asked besides
abbrev pub oracle_turn : State → Line → ℕ → Stepped → Turned
oracle_turn state line driver stepped = record {
  said = ByOracle stepped.reply;
  after = record state {
    oracle = stepped.after;
    leads = slice_set state.leads driver (lead_after line.act stepped.reply (lead_at state driver));
    kept = with_besides state.kept driver line.number (asked_besides line.act stepped.reply (lead_at state driver));
  };
}

-- a line of the oracle
abbrev pub oracle_line : State → Line → Turned
oracle_line state line = oracle_turn state line (driver_in line.actor) (act_step state.oracle line.act)

-- a command of pd-ctl's
abbrev pub is_command : Request → Bool
is_command (ToCtl moment words) = true
is_command request = false

-- the request gives up the term of a driver's cluster that has one
abbrev pub gives_up : Option Part → Request → Bool
gives_up (Some part) (ToCtl moment words) = resigns words
gives_up part request = false

-- the oracle once a request to a driver's cluster is served: a driver that resigns by pd-ctl does so as by its own line, but for one in the middle of its
-- single steps, which goes on
abbrev pub oracle_left : State → ℕ → Request → Whole
oracle_left state driver request = if gives_up (part_at state.kept driver) request then (resigned_of state.oracle driver).after else state.oracle

-- a line that asks something of a cluster: the reply, and the steps of its entry are sent
abbrev pub asked_line : State → ℕ → ℕ → Request → Turned
asked_line state number driver request = record {
  said = ByCluster (served state.kept driver number request).reply;
  after = record state {
    oracle = oracle_left state driver request;
    kept = with_served state.kept driver number request;
    streams = slice_set state.streams driver (with_messages (waiting_at state driver) (served state.kept driver number request).sends);
  };
}

-- a line in which a store takes a message: the oldest that waits for it of this driver's
abbrev pub pop_line : State → ℕ → ℕ → Turned
pop_line state store driver = record {
  said = Popped (oldest_in (waiting_at state driver) store);
  after = record state { streams = slice_set state.streams driver (left_by (waiting_at state driver) store) };
}

-- a line that asks something of a cluster, one in which a store takes a message, or one of the oracle
abbrev pub line_by : State → Line → Option (ℕ × Request) → Option (ℕ × ℕ) → Turned
line_by state line (Some asked) taken = asked_line state line.number asked.0 asked.1
line_by state line None (Some taken) = pop_line state taken.0 taken.1
line_by state line None None = oracle_line state line

-- what a line does
abbrev pub line_step : State → Line → Turned
line_step state line = line_by state line (request_of line.act) (pop_of line.act)

-- the answers to lines, each over the state that the lines before it leave
abbrev pub answers_from : State → List Line → List Answer
answers_from state [] = []
answers_from state (line ∷ lines) = record { line = line; said = (line_step state line).said } ∷ answers_from (line_step state line).after lines

-- the state after the lines
abbrev pub state_after : State → List Line → State
state_after state [] = state
state_after state (line ∷ lines) = state_after (line_step state line).after lines

-- the bench of the driver that a line asks says enough for it
abbrev pub SaysEnoughFor : State → Option (ℕ × Request) → Type 0
SaysEnoughFor state None = Unit {0}
SaysEnoughFor state (Some asked) = SaysEnough state.kept asked.0 asked.1

-- each turn that these lines let schedulers take was taken
abbrev pub TakeTurns : State → List Line → Type 0
TakeTurns state [] = Unit {0}
TakeTurns state (line ∷ lines) = SaysEnoughFor state (request_of line.act) × TakeTurns (line_step state line).after lines

-- the oracle's setup for a script
abbrev pub setup_of : Script → Setup
setup_of script = record { drivers = script.drivers; clients = script.clients; cell = opening_cell script.lines }

-- so many drivers and clients before the first of these lines, where the benches will say this
abbrev pub begun : List Talk → ℕ → ℕ → List Line → State
begun talks drivers clients lines = record {
  oracle = opened (record { drivers = drivers; clients = clients; cell = opening_cell lines });
  leads = replicate (drivers + 1) None;
  kept = record { journals = replicate (drivers + 1) []; metadata = []; talks = talks };
  streams = replicate (drivers + 1) (waiting_for lines);
}

-- the state before the first line of a script
abbrev pub start : List Talk → Script → State
start talks script = begun talks script.drivers script.clients script.lines

-- the answers to a script
abbrev pub answers_of : List Talk → Script → List Answer
answers_of talks script = answers_from (start talks script) script.lines
