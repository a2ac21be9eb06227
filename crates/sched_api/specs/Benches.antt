-- Schedulers that are asked in turn (PD documentation, "Scheduling"; that a bench asks one a turn, round its list, is our own choice).
use Rattle.std.specs.Prelude.{◌≡◌, ◌≢◌, ◌⊎◌, ℕ, ◌+◌, ◌-◌, nat_lt, if◌then◌else◌, List, [], ◌∷◌, ◌++◌, map, take, drop, slice_get, slice_set, Option, Some, None, All, ◌<◌, length, option_and_then, slice_index_or}
use Rattle.pd_types.specs.declared.proposal.Proposal.{Proposal}
use Rattle.sched_api.specs.declared.scheduler.Fate.{Fate}
use Rattle.sched_api.specs.declared.scheduler.Said.{Said}
use Rattle.sched_api.specs.Schedulers.{more_by_one}

-- a scheduler, as it tells of itself: its name, its last answer, how often it was asked, the clock that it was last asked with, and what it was told since
pub record Seat : Type 0 where
  pub name : List ℕ
  pub last : Option Proposal
  pub asks : ℕ
  pub at : ℕ
  pub heard : Option Fate

-- the scheduler with these parts
abbrev pub seat_of : List ℕ → Option Proposal → ℕ → ℕ → Option Fate → Seat
seat_of name last asks at heard = record { name = name; last = last; asks = asks; at = at; heard = heard }

-- the scheduler, once it was told this
abbrev pub told : Fate → Seat → Seat
told fate seat = record seat { heard = Some fate }

-- a bench: its schedulers in the order in which they were handed in, how many stand before the next in turn, how many before the one asked last while it is
-- there, and all that was said
pub record Seats : Type 0 where
  pub list : List Seat
  pub next : ℕ
  pub last : Option ℕ
  pub said : List Said

-- the names of the schedulers, in the order of the list
abbrev pub names_of : Seats → List (List ℕ)
names_of seats = map (λ (seat : Seat). seat.name) seats.list

-- the schedulers in the order of their turns: from the next one on, then round the list
abbrev pub turns : Seats → List Seat
turns seats = drop seats.next seats.list ++ take seats.next seats.list

-- the scheduler whose turn it was was asked once, with this clock, was told nothing since, and goes behind the others; it is the one asked last from then on; its
-- answer, under its name, was said
pub record TakesTurn (old new : Seats) (now : ℕ) (said : Said) : Type 0 where
  pub one : Seat
  pub asked : Seat
  pub others : List Seat
  pub turn : turns old ≡ one ∷ others
  pub passed : turns new ≡ others ++ asked ∷ []
  pub here : old.next < length old.list
  pub place : new.list ≡ slice_set old.list old.next asked
  pub name : asked.name ≡ one.name
  pub asks : asked.asks ≡ more_by_one one.asks
  pub at : asked.at ≡ now
  pub heard : asked.heard ≡ None
  pub last : new.last ≡ Some old.next
  pub named : said.name ≡ asked.name
  pub answer : said.proposal ≡ asked.last
  pub grown : new.said ≡ old.said ++ said ∷ []
  pub names : names_of new ≡ names_of old

-- at most the scheduler whose turn it is was asked; all others stay, and so do the names, the turn, who counts as the one asked last, and what was said
pub record SaysNothing (old new : Seats) : Type 0 where
  pub asked : Seat
  pub others : new.list ≡ slice_set old.list old.next asked
  pub names : names_of new ≡ names_of old
  pub next : new.next ≡ old.next
  pub last : new.last ≡ old.last
  pub said : new.said ≡ old.said

-- the one asked last, as it tells of itself; nobody where none was asked, or where it was dropped
abbrev pub asked_last : Seats → Option Seat
asked_last seats = option_and_then (slice_get seats.list) seats.last

-- the one at this place was told, and all else stays
pub record TellsAt (place : ℕ) (fate : Fate) (old new : Seats) : Type 0 where
  pub before : List Seat
  pub one : Seat
  pub behind : List Seat
  pub at : length before ≡ place
  pub whole : old.list ≡ before ++ one ∷ behind
  pub told : new ≡ record old { list = before ++ told fate one ∷ behind }

-- the one at this place was told, and all else stays; where there is no place, nothing changes
abbrev pub TellsOne : Option ℕ → Fate → Seats → Seats → Type 0
TellsOne None fate old new = new ≡ old
TellsOne (Some place) fate old new = TellsAt place fate old new

-- the one asked last was told what became of its proposal
abbrev pub Tells : Fate → Seats → Seats → Type 0
Tells fate old new = TellsOne old.last fate old new

-- how far a list has to reach, so that the one asked last is in it
abbrev pub reach : Option ℕ → ℕ
reach None = 0
reach (Some place) = place + 1

-- one is taken out of a list
pub record TakesOut (one : Seat) (old new : List Seat) : Type 0 where
  pub before : List Seat
  pub behind : List Seat
  pub whole : old ≡ before ++ one ∷ behind
  pub left : new ≡ before ++ behind

-- where the one asked last stands, before and after the one at this place went: all behind that one move up, and nobody is the one asked last where it went
abbrev pub StaysLast : ℕ → Option ℕ → Option ℕ → Type 0
StaysLast gone None new = new ≡ None
StaysLast gone (Some place) new = ((place < gone) × (new ≡ Some place)) ⊎ ((place ≡ gone) × (new ≡ None)) ⊎ ((gone < place) × (new ≡ Some (place - 1)))

-- the first of this name is dropped; the others keep their order, also that of their turns, and the one asked last stays so
pub record Drops (name : List ℕ) (old new : Seats) : Type 0 where
  pub one : Seat
  pub named : one.name ≡ name
  pub list : TakesOut one old.list new.list
  pub first : All (λ (other : Seat). other.name ≢ name) list.before
  pub turns : TakesOut one (turns old) (turns new)
  pub last : StaysLast (length list.before) old.last new.last
  pub said : new.said ≡ old.said

-- the place behind another, round a list of this length
abbrev pub next_place : ℕ → ℕ → ℕ
next_place place len = if nat_lt (place + 1) len then place + 1 else 0

-- the place of the next in turn once another is gone from a list that has this length then
abbrev pub place_without : ℕ → ℕ → ℕ → ℕ
place_without gone next len = if nat_lt gone next then next - 1 else (if nat_lt next len then next else 0)

-- the first scheduler of this name stands at the place, or none has the name
abbrev pub IsFirstPlace : List ℕ → List Seat → Option ℕ → Type 0
IsFirstPlace name list (Some place) =
    (place < length list) × ((d : Seat) → (slice_index_or list place d).name ≡ name) × All (λ (other : Seat). other.name ≢ name) (take place list)
IsFirstPlace name list None = All (λ (other : Seat). other.name ≢ name) list
