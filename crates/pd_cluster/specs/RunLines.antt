-- Whose line is whose in `run`, and what it asks: a line is its actor's, the driver, the client or the store that it names first, and a request is asked by the
-- store that says it, or else by the driver itself (own choice).
use Rattle.std.specs.Prelude.{◌≡◌, ◌↔◌, ℕ, ◌<◌, ◌≤◌, ◌==◌, Bool, false, List, map, filter, flat_map, Option, Some, None, All, Contains, if◌then◌else◌}
use Rattle.std.specs.List.{filter_map}
use Rattle.std.specs.List.Sorted.{IsStrictlyIncreasing}
use Rattle.std.specs.Vec.{vec_items}
use Rattle.pd_types.specs.declared.oracle.Actor.{Actor}
use Rattle.pd_types.specs.declared.oracle.Actor.TheVariants.{Driver as ByDriver, Client as ByClient, Store as ByStore}
use Rattle.pd_types.specs.declared.request.Request.{Request}
use Rattle.pd_script.specs.Scripts.{asker, store_by}
use Rattle.pd_script.specs.declared.act.Act.{Act}
use Rattle.pd_script.specs.declared.act.Act.TheVariants.{Cell, Lead, Tick, Resign, Take, Tell, Hear, Read, Campaign, Save, Raise, Publish, Probe, Look, Arm, Draw, Ask, Pop}
use Rattle.pd_script.specs.declared.act.Line.{Line}
use Rattle.pd_script.specs.declared.script.Script.{Script}
use Rattle.tso_model.specs.Moves.{numbers_from}
use Rattle.tso_run.specs.declared.line.ClientAsk.{ClientAsk}
use Rattle.tso_run.specs.declared.line.ClientAsk.TheVariants.{Take as ToTake, Tell as ToTell, Hear as ToHear}
use Rattle.tso_run.specs.declared.line.ClientLine.{ClientLine}
use Rattle.tso_run.specs.declared.line.DriverAsk.TheVariants.{Lead as ToLead, Tick as ToTick, Resign as ToResign}
use Rattle.pd_run.specs.declared.line.DriverLine.{DriverLine}
use Rattle.pd_run.specs.declared.line.DriverTask.{DriverTask}
use Rattle.pd_run.specs.declared.line.DriverTask.TheVariants as tasks
use Rattle.pd_run.specs.declared.line.StoreLine.{StoreLine}
use Rattle.pd_run.specs.declared.line.StoreLines.{StoreLines}
use Rattle.pd_run.specs.declared.line.StoreTask.{StoreTask}
use Rattle.pd_run.specs.declared.line.StoreTask.TheVariants as asks
use Rattle.pd_run.specs.declared.line.Tasks.{Tasks}
use Rattle.pd_run.specs.Runs.{AnswersTasks, Run, lines_of}
use Rattle.pd_cluster.specs.Replay.{setup_of}
use Rattle.pd_cluster.specs.declared.run_lines.Own.{Own}
use Rattle.pd_cluster.specs.declared.run_lines.Own.TheVariants.{Driver as OfDriver, Client as OfClient, Store as OfStore, Nobody}

-- WHOSE A LINE IS

-- a request to a driver's cluster, by who asks it
abbrev pub asked_by : ℕ → ℕ → Request → Actor → Own
asked_by number driver request (ByDriver d) = OfDriver driver (record { number = number; task = tasks.Cluster request })
asked_by number driver request (ByClient c) = OfDriver driver (record { number = number; task = tasks.Cluster request })
asked_by number driver request (ByStore s) = OfStore s (record { number = number; driver = driver; task = asks.Ask request })

-- Whose the line with this number is, and what it asks: of a driver something of the oracle, or what it asks its own cluster; of a client; of a store what it
-- asks a driver's cluster, or to take what that sent. A `cell` line is nobody's, and no single step stands in `run`
abbrev pub own_of : ℕ → Act → Own
own_of number (Cell saved term) = Nobody
own_of number (Lead driver now) = OfDriver driver (record { number = number; task = tasks.Oracle (ToLead now) })
own_of number (Tick driver now) = OfDriver driver (record { number = number; task = tasks.Oracle (ToTick now) })
own_of number (Resign driver) = OfDriver driver (record { number = number; task = tasks.Oracle ToResign })
own_of number (Take client driver n) = OfClient (record { number = number; client = client; ask = ToTake driver n })
own_of number (Tell client to) = OfClient (record { number = number; client = client; ask = ToTell to })
own_of number (Hear client) = OfClient (record { number = number; client = client; ask = ToHear })
own_of number (Read driver now) = Nobody
own_of number (Campaign driver) = Nobody
own_of number (Save driver) = Nobody
own_of number (Raise driver) = Nobody
own_of number (Publish driver) = Nobody
own_of number (Probe driver now) = Nobody
own_of number (Look client driver) = Nobody
own_of number (Arm client n) = Nobody
own_of number (Draw client) = Nobody
own_of number (Ask driver request) = asked_by number driver request (asker driver request)
own_of number (Pop store driver) = OfStore store (record { number = number; driver = driver; task = asks.Pop })

-- the line, where it is this driver's
abbrev pub of_driver : ℕ → Own → Option DriverLine
of_driver d (OfDriver driver line) = if driver == d then Some line else None
of_driver d (OfClient line) = None
of_driver d (OfStore store line) = None
of_driver d Nobody = None

-- the line, where it is a client's
abbrev pub of_client : Own → Option ClientLine
of_client (OfDriver driver line) = None
of_client (OfClient line) = Some line
of_client (OfStore store line) = None
of_client Nobody = None

-- the line, where it is this store's
abbrev pub of_store : ℕ → Own → Option StoreLine
of_store s (OfDriver driver line) = None
of_store s (OfClient line) = None
of_store s (OfStore store line) = if store == s then Some line else None
of_store s Nobody = None

-- ALL LINES OF AN ACTOR

-- the lines of the driver d, in their order
abbrev pub lines_of_driver : ℕ → List Line → List DriverLine
lines_of_driver d lines = filter_map (λ (line : Line). of_driver d (own_of line.number line.act)) lines

-- the lines of all clients, in their order
abbrev pub lines_of_clients : List Line → List ClientLine
lines_of_clients lines = filter_map (λ (line : Line). of_client (own_of line.number line.act)) lines

-- the lines of the store s, in their order
abbrev pub lines_of_store : ℕ → List Line → List StoreLine
lines_of_store s lines = filter_map (λ (line : Line). of_store s (own_of line.number line.act)) lines

-- the lines of each driver of the script, from the first driver on
abbrev pub lines_of_drivers : Script → List (List DriverLine)
lines_of_drivers script = map (λ (d : ℕ). lines_of_driver d script.lines) (numbers_from 1 script.drivers)

-- each of these stores with its lines
abbrev pub lines_of_stores : List ℕ → Script → List (ℕ × List StoreLine)
lines_of_stores stores script = map (λ (s : ℕ). (s, lines_of_store s script.lines)) stores

-- these are the stores that act in the lines, by rising ids
pub record AreActing (lines : List Line) (stores : List ℕ) : Type 0 where
  pub rise : IsStrictlyIncreasing stores
  pub exactly : (store : ℕ) → Contains stores store ↔ Contains (flat_map (λ (line : Line). store_by line.actor) lines) store

-- The run is one of this script: over its setup all drivers, all clients and the stores that act each answered its own lines, one answer for each, in their order
pub record AnswersScript (script : Script) (run : Run) : Type 0 where
  pub setup : run.oracle.setup ≡ setup_of script
  pub stores : List ℕ
  pub acting : AreActing script.lines stores
  pub answered : AnswersTasks (lines_of_drivers script) (lines_of_clients script.lines) (lines_of_stores stores script) run

-- WHAT THE RUNNER IS HANDED

-- the ids of the stores with their lines
abbrev pub ids_of : Tasks → List ℕ
ids_of tasks = map (λ (s : StoreLines). s.store) tasks.stores.items

-- the lines of all actors of the script
pub record AreOf (script : Script) (tasks : Tasks) : Type 0 where
  pub drivers : map vec_items tasks.drivers.items ≡ lines_of_drivers script
  pub clients : tasks.clients.items ≡ lines_of_clients script.lines
  pub acting : AreActing script.lines (ids_of tasks)
  pub stores : map lines_of tasks.stores.items ≡ lines_of_stores (ids_of tasks) script

-- THE LINE OF THE SCRIPT, BACK

-- the act of what a driver is asked
abbrev pub driver_act : ℕ → DriverTask → Act
driver_act d (tasks.Oracle (ToLead now)) = Lead d now
driver_act d (tasks.Oracle (ToTick now)) = Tick d now
driver_act d (tasks.Oracle ToResign) = Resign d
driver_act d (tasks.Cluster request) = Ask d request

-- the act of what a client is asked
abbrev pub client_act : ℕ → ClientAsk → Act
client_act c (ToTake d n) = Take c d n
client_act c (ToTell to) = Tell c to
client_act c ToHear = Hear c

-- the act of what the store s is asked, at the driver d
abbrev pub store_act : ℕ → ℕ → StoreTask → Act
store_act s d (asks.Ask request) = Ask d request
store_act s d asks.Pop = Pop s d

-- the script's line for a line of the driver d
abbrev pub script_line_of_driver : ℕ → DriverLine → Line
script_line_of_driver d l = record { number = l.number; actor = Some (ByDriver d); act = driver_act d l.task }

-- the script's line for a client's line
abbrev pub script_line_of_client : ClientLine → Line
script_line_of_client l = record { number = l.number; actor = Some (ByClient l.client); act = client_act l.client l.ask }

-- the script's line for a line of the store s
abbrev pub script_line_of_store : ℕ → StoreLine → Line
script_line_of_store s l = record { number = l.number; actor = Some (ByStore s); act = store_act s l.driver l.task }

-- these are one actor
abbrev pub is_actor : Actor → Option Actor → Bool
is_actor who None = false
is_actor (ByDriver d) (Some (ByDriver e)) = e == d
is_actor (ByDriver d) (Some (ByClient c)) = false
is_actor (ByDriver d) (Some (ByStore s)) = false
is_actor (ByClient c) (Some (ByDriver d)) = false
is_actor (ByClient c) (Some (ByClient e)) = e == c
is_actor (ByClient c) (Some (ByStore s)) = false
is_actor (ByStore s) (Some (ByDriver d)) = false
is_actor (ByStore s) (Some (ByClient c)) = false
is_actor (ByStore s) (Some (ByStore t)) = t == s

-- the lines of the script in which the actor acts, in their order
abbrev pub lines_by : Actor → List Line → List Line
lines_by who lines = filter (λ (line : Line). is_actor who line.actor) lines

-- one of so many drivers or clients, or of these stores
abbrev pub IsAmong : ℕ → ℕ → List ℕ → Actor → Type 0
IsAmong drivers clients stores (ByDriver d) = (0 < d) × (d ≤ drivers)
IsAmong drivers clients stores (ByClient c) = (0 < c) × (c ≤ clients)
IsAmong drivers clients stores (ByStore s) = Contains stores s

-- in the line one of these acts; where nobody does, it is a `cell` line
abbrev pub IsActed : ℕ → ℕ → List ℕ → Act → Option Actor → Type 0
IsActed drivers clients stores act None = (saved term : ℕ) × (act ≡ Cell saved term)
IsActed drivers clients stores act (Some actor) = IsAmong drivers clients stores actor

-- Each line of a script but a `cell` line is exactly one actor's, and nothing else is anybody's: the lines of each actor are, in their order, those of the script
-- in which it acts, and in each of these one of the drivers, the clients or the stores acts that run
pub record AreShared (script : Script) (stores : List ℕ) : Type 0 where
  pub drivers : (d : ℕ) → map (script_line_of_driver d) (lines_of_driver d script.lines) ≡ lines_by (ByDriver d) script.lines
  pub clients : (c : ℕ) → map script_line_of_client (filter (λ (l : ClientLine). l.client == c) (lines_of_clients script.lines)) ≡ lines_by (ByClient c) script.lines
  pub stores_are : (s : ℕ) → map (script_line_of_store s) (lines_of_store s script.lines) ≡ lines_by (ByStore s) script.lines
  pub acted : All (λ (line : Line). IsActed script.drivers script.clients stores line.act line.actor) script.lines
