-- How views come to be and end: making the oracle, splitting a driver, a client or a note off, and joining one view into another. None of them touches a word.
use Rattle.std.specs.Prelude.{ℕ, zero, suc, ◌+◌, ◌-◌, ◌*◌, true, false, List, [], ◌∷◌, ◌++◌, None, replicate, max, cond, ◌==◌, nat_lt}
use Rattle.pd_types.specs.declared.oracle.Batch.{Batch}
use Rattle.pd_types.specs.declared.oracle.CellWord.{CellWord}
use Rattle.pd_types.specs.declared.oracle.Seen.{Seen}
use Rattle.pd_types.specs.declared.stamp.TheConstants.{LOGICAL}
use Rattle.tso_model.specs.declared.view.View.{View}
use Rattle.tso_model.specs.declared.view.Setup.{Setup}
use Rattle.tso_model.specs.Words.{packed}
use Rattle.tso_model.specs.History.{claims}

-- what a caller has seen before its first batch or note
abbrev pub nothing_seen : Seen
nothing_seen = record { term = 0; last = 0 }

-- a view that knows the opening cell and did nothing
abbrev pub blank : CellWord → View
blank c = record {
  spent = false;
  opening = c;
  driver = 0;
  client = 0;
  give_drivers = [];
  give_clients = [];
  took_drivers = [];
  took_clients = [];
  cell = c;
  holds = false;
  marked = false;
  latest = None;
  older = [];
  founds = [];
  starts = [];
  published = [];
  seen = nothing_seen;
  hand = None;
  armed = 0;
  quota = 0;
  grants = [];
  looks = [];
  refusals = [];
  added = [];
}

-- what is left of a view that was joined into another
abbrev pub spent_view : View
spent_view = record (blank (record { saved = 0; term = 0 })) { spent = true }

-- n numbers, from the first on
abbrev pub numbers_from : ℕ → ℕ → List ℕ
numbers_from first zero = []
numbers_from first (suc n) = first ∷ numbers_from (first + 1) n

-- the view that a new oracle has: all numbers to give, and the whole quota
abbrev pub first_view : Setup → View
first_view k = record (blank k.cell) { give_drivers = numbers_from 1 k.drivers; give_clients = numbers_from 1 k.clients; quota = k.clients * LOGICAL }

-- the words of a new oracle: the opening cell, no limit, and cursors at 0
abbrev pub first_words : Setup → List ℕ
first_words k = packed k.cell.saved k.cell.term ∷ replicate (2 * k.drivers) 0

-- the number to give next, or 0
abbrev pub head_of : List ℕ → ℕ
head_of [] = 0
head_of (x ∷ xs) = x

-- the numbers behind it
abbrev pub rest_of : List ℕ → List ℕ
rest_of [] = []
rest_of (x ∷ xs) = xs

-- the view that splits a driver off
abbrev pub gave_driver : View → View
gave_driver v = record v { give_drivers = rest_of v.give_drivers }

-- the driver that is split off
abbrev pub new_driver : View → View
new_driver v = record (blank v.opening) { driver = head_of v.give_drivers }

-- the view that splits a client off
abbrev pub gave_client : View → View
gave_client v = record v { give_clients = rest_of v.give_clients; quota = v.quota - LOGICAL }

-- the client that is split off, with the quota of a client
abbrev pub new_client : View → View
new_client v = record (blank v.opening) { client = head_of v.give_clients; quota = LOGICAL }

-- the view of a driver of this oracle that did nothing yet
abbrev pub driver_view : Setup → ℕ → View
driver_view k d = record (blank k.cell) { driver = d }

-- the view of a client of this oracle that did nothing yet, with the quota of a client
abbrev pub client_view : Setup → ℕ → View
client_view k c = record (blank k.cell) { client = c; quota = LOGICAL }

-- the note that a client makes: what the client has seen, and nothing else
abbrev pub new_note : View → View
new_note v = record (blank v.opening) { seen = v.seen }

-- the pair of a batch: its term and its last timestamp
abbrev pub seen_of : Batch → Seen
seen_of b = record { term = b.term; last = b.last }

-- the greater of two seen pairs, by term and then last
abbrev pub greater : Seen → Seen → Seen
greater a b = cond (nat_lt a.term b.term) b (cond (nat_lt b.term a.term) a (cond (nat_lt a.last b.last) b a))

-- the greatest of two known cells, in the saved time and in the term
abbrev pub upper : CellWord → CellWord → CellWord
upper a b = record { saved = max a.saved b.saved; term = max a.term b.term }

-- A view that is no driver's keeps, as its cell, what the views that it took in knew at most
abbrev pub joined_cell : View → View → CellWord
joined_cell v w = cond (v.driver == 0) (upper v.cell w.cell) v.cell

-- the view v after w was joined into it
abbrev pub joined : View → View → View
joined v w = record v {
  cell = joined_cell v w;
  give_drivers = v.give_drivers ++ w.give_drivers;
  give_clients = v.give_clients ++ w.give_clients;
  took_drivers = v.took_drivers ++ w.driver ∷ w.took_drivers;
  took_clients = v.took_clients ++ w.client ∷ w.took_clients;
  older = claims w ++ v.older;
  founds = v.founds ++ w.founds;
  starts = v.starts ++ w.starts;
  published = v.published ++ w.published;
  seen = greater v.seen w.seen;
  quota = v.quota + w.quota;
  grants = v.grants ++ w.grants;
  looks = v.looks ++ w.looks;
  refusals = v.refusals ++ w.refusals;
  added = v.added ++ w.added;
}
