-- What comes of adding an operator (PD, the operator controller and the id allocator): its tests, an id for its new peer, the charges of its steps, and its
-- dispatch at once by the held heartbeat.
use Rattle.std.specs.Prelude.{◌≡◌, ℕ, ◌+◌, nat_eq, max, Bool, false, List, [], ◌∷◌, ◌++◌, if◌then◌else◌, Option, Some, None, Result, Ok, Err}
use Rattle.std.specs.List.{list_any}
use Rattle.pd_types.specs.declared.region.Peer.{Peer}
use Rattle.pd_types.specs.declared.region.RegionBeat.{RegionBeat}
use Rattle.pd_types.specs.declared.rule.Rule.{Rule}
use Rattle.pd_types.specs.declared.step.Step.{Step}
use Rattle.pd_types.specs.declared.step.Step.TheVariants as steps
use Rattle.store_table.specs.declared.entry.StoreEntry.{StoreEntry}
use Rattle.meta_store.specs.declared.record.MetaVerdict.{MetaVerdict}
use Rattle.meta_store.specs.declared.record.MetaVerdict.TheVariants as verdicts
use Rattle.id_alloc.specs.Windows.{Window, id_call, is_spent, is_used_up, with_next, with_saved}
use Rattle.store_limit.specs.Limits.{StoreLimits}
use Rattle.op_step.specs.Peers.{has_id}
use Rattle.op_control.specs.declared.operator.NewOp.{NewOp}
use Rattle.op_control.specs.declared.adding.AddFault.{AddFault}
use Rattle.op_control.specs.Adding.{added, refusal_of, with_new_id}
use Rattle.op_control.specs.Charging.{after_charges}
use Rattle.op_control.specs.Table.{Table, dispatch_answer, dispatched}
use Rattle.meta_store.specs.declared.record.Cell.{Cell}
use Rattle.pd_state.specs.Asking.{Asking, Ear, Talks, and_then, ask, done}
use Rattle.pd_state.specs.Sends.{sent_by}
use Rattle.pd_state.specs.declared.adding.Adding.{Adding}
use Rattle.pd_state.specs.declared.adding.Adding.TheVariants as adding
use Rattle.pd_state.specs.declared.part.Part.{Part}
use Rattle.pd_state.specs.declared.sent.Sent.{Sent}

-- what changes while operators are added: the operators, the stores' limits, and the window of ids
pub record Planning : Type 0 where
  pub operators : Table
  pub limits : StoreLimits
  pub window : Window

-- that of a term
abbrev pub planning_of : Part → Planning
planning_of part = record { operators = part.operators; limits = part.limits; window = part.window }

-- what a request finds that adds operators: the term, the clock with the request's own moment, the stores, the rules and the regions
pub record Around : Type 0 where
  pub term : ℕ
  pub now : ℕ
  pub stores : List StoreEntry
  pub rules : List Rule
  pub held : List RegionBeat

-- what a request finds, once the clock has its moment
abbrev pub around_of : Part → Around
around_of part = record { term = part.term; now = part.clock; stores = part.stores; rules = part.rules; held = part.standing }

-- what a request of this moment finds
abbrev pub around_at : Part → ℕ → Around
around_at part moment = record { term = part.term; now = max part.clock moment; stores = part.stores; rules = part.rules; held = part.standing }

-- a window, and the id that was taken of it, or why none was
pub record Drawn : Type 0 where
  pub window : Window
  pub id : Result ℕ Adding

-- these, put together
abbrev pub drawn : Window → Result ℕ Adding → Drawn
drawn window id = record { window = window; id = id }

-- once the write of the next window has this verdict
abbrev pub saved_by : Window → MetaVerdict → Drawn
saved_by window (verdicts.Accepted revision) = drawn (with_saved window revision) (Ok (window.end + 1))
saved_by window (verdicts.OldTerm fence) = drawn window (Err (adding.OldTerm fence))
saved_by window (verdicts.Conflict found) = drawn window (Err (adding.Conflict found))
saved_by window verdicts.Limit = drawn window (Err adding.MetaLimit)

-- the first id of the window after one that is used up, unless there is none
abbrev pub draw_saved : ℕ → Window → Asking Drawn
draw_saved term window = if is_spent window then done (drawn window (Err adding.IdsSpent)) else and_then (ask (id_call term window)) (λ verdict. done (saved_by window verdict))

-- the next id: one that is left, else the first of the next window, which is saved first
abbrev pub draw : ℕ → Window → Asking Drawn
draw term window = if is_used_up window then draw_saved term window else done (drawn (with_next window) (Ok (window.taken + 1)))

-- an id that is in the region is passed over
abbrev pub pass_over : RegionBeat → (Window → Asking Drawn) → Window → Result ℕ Adding → Asking Drawn
pass_over beat again window (Ok id) = if has_id id beat then again window else done (drawn window (Ok id))
pass_over beat again window (Err why) = done (drawn window (Err why))

-- the first id that isn't in the region. One that is passed over counts as taken, also where a refusal follows; as many as the region has peers are passed over
-- at most, since ids rise
abbrev pub free_id : List Peer → RegionBeat → ℕ → Window → Asking Drawn
free_id [] beat term window = draw term window
free_id (peer ∷ more) beat term window = and_then (draw term window) (λ one. pass_over beat (free_id more beat term) one.window one.id)

-- the step adds a peer that has no id yet
abbrev pub is_new : Step → Bool
is_new (steps.AddLearner peer store) = nat_eq peer 0
is_new (steps.PromoteLearner peer store) = false
is_new (steps.TransferLeader peer store) = false
is_new (steps.RemovePeer peer store) = false

-- one of the steps does
abbrev pub asks_id : List Step → Bool
asks_id list = list_any is_new list

-- what adding one operator came to: what is planned after it, what was sent, and the answer
pub record Work : Type 0 where
  pub planning : Planning
  pub sents : List Sent
  pub adding : Adding

-- these, put together
abbrev pub work : Planning → List Sent → Adding → Work
work planning sents came = record { planning = planning; sents = sents; adding = came }

-- nothing was added
abbrev pub left_out : Planning → Adding → Work
left_out planning why = record { planning = planning; sents = []; adding = why }

-- the operator stands among these, and is dispatched
abbrev pub started_among : Around → NewOp → RegionBeat → Planning → Table → Work
started_among around op beat planning operators = record {
  planning = record { operators = dispatched operators beat around.stores around.now; limits = after_charges op.steps planning.limits around.now; window = planning.window };
  sents = sent_by beat (dispatch_answer operators beat around.stores around.now);
  adding = adding.Added (dispatch_answer operators beat around.stores around.now);
}

-- an operator that passed its tests is added, its steps are charged, and it is dispatched
abbrev pub entered : Around → NewOp → RegionBeat → Planning → Work
entered around op beat planning = started_among around op beat planning (added planning.operators op around.now)

-- what is planned, with another window
abbrev pub with_window : Planning → Window → Planning
with_window planning window = record { operators = planning.operators; limits = planning.limits; window = window }

-- the same, with the id that was taken for its new peer
abbrev pub entered_with : Around → NewOp → RegionBeat → Planning → Window → Result ℕ Adding → Work
entered_with around op beat planning window (Ok id) = entered around (with_new_id op id) beat (with_window planning window)
entered_with around op beat planning window (Err why) = left_out (with_window planning window) why

-- an operator that passed its tests: a new peer gets an id first
abbrev pub enter : Around → NewOp → RegionBeat → Planning → Asking Work
enter around op beat planning =
    if asks_id op.steps
    then and_then (free_id beat.region.peers beat around.term planning.window) (λ one. done (entered_with around op beat planning one.window one.id))
    else done (entered around op beat planning)

-- the first test that fails, else what comes of it
abbrev pub add_by : Option AddFault → Around → NewOp → RegionBeat → Planning → Asking Work
add_by (Some fault) around op beat planning = done (left_out planning (adding.Add fault))
add_by None around op beat planning = enter around op beat planning

-- an operator of a region that is held with this heartbeat
abbrev pub add_op : Around → NewOp → RegionBeat → Planning → Asking Work
add_op around op beat planning = add_by (refusal_of planning.operators op (Some beat) planning.limits around.now) around op beat planning

-- the tables of a term where this is planned and known, and all else is as it was
abbrev pub replanned : Part → Planning → List Cell → Part
replanned part planning known = record part { operators = planning.operators; limits = planning.limits; window = planning.window; known = known }

-- an operator was tried over a door: what is planned then, what was sent besides, and what came of it
pub record Adds (around : Around) (op : NewOp) (beat : RegionBeat) (old new : Planning) (sents_old sents_new : List Sent) (came : Adding) (driver : ℕ) (ear_old ear_new : Ear) : Type 0 where
  pub sents : List Sent
  pub sent : sents_new ≡ sents_old ++ sents
  pub talks : Talks Work (add_op around op beat old) (work new sents came) driver ear_old ear_new
