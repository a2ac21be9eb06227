-- The script of a text: its lines, and the limits that it keeps (own choice).
use Rattle.std.specs.Prelude.{ℕ, List, [], ◌∷◌, length, map, max, Bool, true, false, nat_lt, Option, Some, None, Result, Ok, Err, if◌then◌else◌}
use Rattle.std.specs.List.{count_by}
use Rattle.std.specs.BTreeSet.{insert_key}
use Rattle.std.specs.Ordering.{nat_cmp}
use Rattle.pd_types.specs.declared.oracle.Actor.{Actor}
use Rattle.pd_types.specs.declared.oracle.Actor.TheVariants.{Driver as ByDriver, Client as ByClient, Store as ByStore}
use Rattle.pd_types.specs.declared.request.Request.{Request}
use Rattle.pd_types.specs.declared.request.Request.TheVariants.{Hello, Alive, Beat, Patrol, Ctl}
use Rattle.pd_script.specs.Grammar.{AtFault, events_of}
use Rattle.pd_script.specs.Table.{row}
use Rattle.pd_script.specs.declared.act.Act.{Act}
use Rattle.pd_script.specs.declared.act.Act.TheVariants.{Cell as CellAct, Lead as LeadAct, Tick as TickAct, Resign as ResignAct, Take as TakeAct, Tell as TellAct, Hear as HearAct, Read as ReadAct, Campaign as CampaignAct, Save as SaveAct, Raise as RaiseAct, Publish as PublishAct, Probe as ProbeAct, Look as LookAct, Arm as ArmAct, Draw as DrawAct, Ask as AskAct, Pop as PopAct}
use Rattle.pd_script.specs.declared.act.Line.{Line}
use Rattle.pd_script.specs.declared.limits.Broken.{Broken}
use Rattle.pd_types.specs.declared.oracle.TheConstants.{MAX_CLIENTS, MAX_DRIVERS}
use Rattle.pd_script.specs.declared.limits.TheConstants.{MAX_EVENTS, MAX_LEADS, MAX_REPORTS, MAX_STORES}
use Rattle.pd_script.specs.declared.place.Place.{Place}
use Rattle.pd_script.specs.declared.place.Place.TheVariants.{Driver, Client, Id}
use Rattle.pd_script.specs.declared.refusal.Limited.TheVariants.{Events, Drivers, Clients, Stores, Reports, Leads}
use Rattle.pd_script.specs.declared.refusal.ScriptRefusal.{ScriptRefusal}
use Rattle.pd_script.specs.declared.refusal.ScriptRefusal.TheVariants.{Fault, Limit}
use Rattle.pd_script.specs.declared.script.Mode.{Mode}
use Rattle.pd_script.specs.declared.script.Script.{Script}
use Rattle.pd_script.specs.declared.event.Event.{Event}
use Rattle.pd_script.specs.declared.event.Event.TheVariants.{Step, Ask}
use Rattle.pd_script.specs.declared.event.Numbered.{Numbered}
use Rattle.pd_script.specs.declared.numbers.Numbers.{Numbers}
use Rattle.pd_script.specs.declared.verb.Places.{Places}
use Rattle.pd_script.specs.declared.verb.Places.TheVariants.{One, Two, Three}
use Rattle.pd_script.specs.declared.verb.Verb.{Verb}
use Rattle.pd_script.specs.declared.verb.Verb.TheVariants.{Cell, Lead, Tick, Resign, Take, Tell, Hear, Read, Campaign, Save, Raise, Publish, Probe, Look, Arm, Draw, Pop}

-- what a line does, by its first word and its numbers
abbrev pub act_by : Verb → Numbers → Act
act_by Cell n = CellAct n.first n.second
act_by Lead n = LeadAct n.first n.second
act_by Tick n = TickAct n.first n.second
act_by Resign n = ResignAct n.first
act_by Take n = TakeAct n.first n.second n.third
act_by Tell n = TellAct n.first n.second
act_by Hear n = HearAct n.first
act_by Read n = ReadAct n.first n.second
act_by Campaign n = CampaignAct n.first
act_by Save n = SaveAct n.first
act_by Raise n = RaiseAct n.first
act_by Publish n = PublishAct n.first
act_by Probe n = ProbeAct n.first n.second
act_by Look n = LookAct n.first n.second
act_by Arm n = ArmAct n.first n.second
act_by Draw n = DrawAct n.first
act_by Pop n = PopAct n.first n.second

-- the actor of a place; an id that stands first is a store's
abbrev pub acting : Place → ℕ → Option Actor
acting Driver n = Some (ByDriver n)
acting Client n = Some (ByClient n)
acting Id n = Some (ByStore n)
acting _ n = None

-- who acts: the driver, the client or the store that stands first
abbrev pub actor_by : Places → Numbers → Option Actor
actor_by (One p) n = acting p n.first
actor_by (Two p q) n = acting p n.first
actor_by (Three p q r) n = acting p n.first

-- the number, where the place is a driver's, else 0
abbrev pub if_driver : Place → ℕ → ℕ
if_driver Driver n = n
if_driver _ n = 0

-- the number, where the place is a client's, else 0
abbrev pub if_client : Place → ℕ → ℕ
if_client Client n = n
if_client _ n = 0

-- the greatest number that stands in the places of one kind
abbrev pub greatest_in : (Place → ℕ → ℕ) → Places → Numbers → ℕ
greatest_in at (One p) n = at p n.first
greatest_in at (Two p q) n = max (at p n.first) (at q n.second)
greatest_in at (Three p q r) n = max (max (at p n.first) (at q n.second)) (at r n.third)

-- Who asks a request of this driver's cluster: the store that says it, or the driver itself
abbrev pub asker : ℕ → Request → Actor
asker driver (Hello store moment address labels) = ByStore store
asker driver (Alive store moment) = ByStore store
asker driver (Beat store moment beat) = ByStore store
asker driver _ = ByDriver driver

-- the store that the actor is, where it is one
abbrev pub store_in : Actor → List ℕ
store_in (ByDriver driver) = []
store_in (ByClient client) = []
store_in (ByStore store) = store ∷ []

-- the greatest driver that an event names
abbrev pub driver_of : Event → ℕ
driver_of (Step verb numbers) = greatest_in if_driver (row verb).places numbers
driver_of (Ask driver request) = driver

-- the greatest client that an event names
abbrev pub client_of : Event → ℕ
client_of (Step verb numbers) = greatest_in if_client (row verb).places numbers
client_of (Ask driver request) = 0

-- who acts in an event
abbrev pub actor_of : Event → Option Actor
actor_of (Step verb numbers) = actor_by (row verb).places numbers
actor_of (Ask driver request) = Some (asker driver request)

-- the store that acts, where one does
abbrev pub store_by : Option Actor → List ℕ
store_by None = []
store_by (Some actor) = store_in actor

-- the store that acts in an event, where one does
abbrev pub store_of : Event → List ℕ
store_of e = store_by (actor_of e)

-- what an event does
abbrev pub act_of : Event → Act
act_of (Step verb numbers) = act_by verb numbers
act_of (Ask driver request) = AskAct driver request

-- the greatest of such numbers, at least 1
abbrev pub greatest : (Event → ℕ) → List Numbered → ℕ
greatest of [] = 1
greatest of (e ∷ es) = max (of e.event) (greatest of es)

-- the set of stores with those that speak in an event, as a rising list
abbrev pub with_stores : List ℕ → List ℕ → List ℕ
with_stores known [] = known
with_stores known (store ∷ stores) = insert_key nat_cmp known store

-- the set of stores with all that speak in these events
abbrev pub stores_from : List ℕ → List Numbered → List ℕ
stores_from known [] = known
stores_from known (e ∷ es) = stores_from (with_stores known (store_of e.event)) es

-- how many stores speak
abbrev pub stores_in : List Numbered → ℕ
stores_in events = length (stores_from [] events)

-- the request asks for a report: `ctl`, and `patrol`, which tells of all regions
abbrev pub asks_report : Request → Bool
asks_report (Patrol moment workers) = true
asks_report (Ctl moment words) = true
asks_report _ = false

-- the act is such a request
abbrev pub is_report : Act → Bool
is_report (AskAct driver request) = asks_report request
is_report _ = false

-- how many lines ask for a report
abbrev pub reports_in : List Numbered → ℕ
reports_in events = count_by (λ e. is_report (act_of e.event)) events

-- the act begins a lead or ends one: `lead`, or `publish`, the last of its single steps
abbrev pub is_lead : Act → Bool
is_lead (LeadAct driver now) = true
is_lead (PublishAct driver) = true
is_lead _ = false

-- how many lines do so
abbrev pub leads_in : List Numbered → ℕ
leads_in events = count_by (λ e. is_lead (act_of e.event)) events

-- the first limit that the events break
abbrev pub broken_by : List Numbered → Option Broken
broken_by events =
    if nat_lt MAX_EVENTS (length events) then Some (record { what = Events; count = length events })
    else if nat_lt MAX_DRIVERS (greatest driver_of events) then Some (record { what = Drivers; count = greatest driver_of events })
    else if nat_lt MAX_CLIENTS (greatest client_of events) then Some (record { what = Clients; count = greatest client_of events })
    else if nat_lt MAX_STORES (stores_in events) then Some (record { what = Stores; count = stores_in events })
    else if nat_lt MAX_REPORTS (reports_in events) then Some (record { what = Reports; count = reports_in events })
    else if nat_lt MAX_LEADS (leads_in events) then Some (record { what = Leads; count = leads_in events })
    else None

-- the line of an event
abbrev pub line_of : Numbered → Line
line_of e = record { number = e.number; actor = actor_of e.event; act = act_of e.event }

-- the script of these events, where no limit is broken
abbrev pub unless_broken : List Numbered → Option Broken → Result Script ScriptRefusal
unless_broken events (Some broken) = Err (Limit broken.what broken.count)
unless_broken events None = Ok (record { drivers = greatest driver_of events; clients = greatest client_of events; lines = map line_of events })

-- the script of the events, or the first line at fault
abbrev pub script_by : Result (List Numbered) AtFault → Result Script ScriptRefusal
script_by (Err fault) = Err (Fault fault.line fault.reason)
script_by (Ok events) = unless_broken events (broken_by events)

-- the script of a text, or the first line at fault and why, or else the first limit that is broken
abbrev pub script_of : Mode → List ℕ → Result Script ScriptRefusal
script_of mode text = script_by (events_of mode text)
