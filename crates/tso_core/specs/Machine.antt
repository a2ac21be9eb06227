-- What the machine in memory means, and the room that a step of one actor finds there.
use Rattle.std.specs.Prelude.{◌≡◌, ℕ, ◌+◌, ◌<◌, ◌≤◌, List, map, min, get_or}
use Rattle.pd_types.specs.declared.oracle.Actor.{Actor}
use Rattle.pd_types.specs.declared.oracle.Actor.TheVariants.{Driver, Client, Store}
use Rattle.tso_model.specs.declared.view.Setup.{Setup}
use Rattle.tso_core.specs.declared.machine.Machine.{Machine}
use Rattle.tso_core.specs.declared.notes.Post.{Post}
use Rattle.tso_core.specs.declared.reply.Due.{Due}
use Rattle.tso_core.specs.declared.reply.Reply.{Reply}
use Rattle.tso_core.specs.Seated.{view_of, no_seat}
use Rattle.tso_core.specs.Whole.{Whole, turn_at}
use Rattle.tso_core.specs.Steps.{Stepped, due_at, due_of}
use Rattle.tso_core.specs.Asked.{HasActor}
use Rattle.tso_core.specs.Sound.{IsSound, HasDriver, HasClient}

-- the notes of a post, the oldest first
abbrev pub waits_in : Post → List ℕ
waits_in p = p.notes.items

-- the state
abbrev pub whole_of : Machine → Whole
whole_of m = record {
  setup = m.setup;
  words = m.words.items;
  views = map view_of m.seats.items;
  turns = m.turns.items;
  posts = map waits_in m.posts.items;
  windows = m.run.windows;
  batches = m.run.batches;
}

-- how many more steps the seat at this place and the lists of the run have room for
abbrev pub room_at : Machine → ℕ → ℕ
room_at m id = min (get_or m.seats.items id no_seat).spare m.run.spare

-- the actor's place among the seats; a store has none, and stands for the base, which makes no step
abbrev pub place_of : Setup → Actor → ℕ
place_of k (Driver d) = d
place_of k (Client c) = k.drivers + c
place_of k (Store s) = 0

-- the machine is sound, this is the step that is the actor's next, and there is room for it
pub record IsAt (next : Due) (actor : Actor) (m : Machine) : Type 0 where
  pub sound : IsSound (whole_of m)
  pub has : HasActor m.setup actor
  pub due : due_of (whole_of m) actor ≡ next
  pub room : 0 < room_at m (place_of m.setup actor)

-- the same of a driver
pub record DriverAt (next : Due) (d : ℕ) (m : Machine) : Type 0 where
  pub sound : IsSound (whole_of m)
  pub driver : HasDriver m.setup d
  pub due : (turn_at (whole_of m) d).due ≡ next
  pub room : 0 < room_at m d

-- a client at this due
pub record ClientAt (next : Due) (c : ℕ) (m : Machine) : Type 0 where
  pub sound : IsSound (whole_of m)
  pub client : HasClient m.setup c
  pub due : due_at (whole_of m) c ≡ next

-- the answer and the state after it are these
pub record Answers (said : Reply) (m : Machine) (r : Stepped) : Type 0 where
  pub reply : said ≡ r.reply
  pub after : whole_of m ≡ r.after

-- a step of the seat at this place answers so, and takes one place of its room at most
pub record Goes (id : ℕ) (old : Machine) (said : Reply) (new : Machine) (r : Stepped) : Type 0 where
  pub answers : Answers said new r
  pub room : room_at old id ≤ room_at new id + 1
