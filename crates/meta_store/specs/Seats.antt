-- The seats of drivers that share one metadata behind a lock (own choice: in PD each driver has a connection of its own to etcd).
use Rattle.std.specs.Prelude.{◌≡◌, ◌≤◌, ℕ, List, [], ◌∷◌, ◌++◌, All, None, Result, Ok, Err, reverse}
use Rattle.pd_types.specs.declared.oracle.TheConstants.{MAX_DRIVERS}
use Rattle.pd_turn.specs.Turns.{IsFree, IsMadeBy, TicketValue, TurnValue, items_of, ticket_value}
use Rattle.meta_store.specs.declared.record.Cell.{Cell}
use Rattle.meta_store.specs.declared.record.MetaAnswer.{MetaAnswer}
use Rattle.meta_store.specs.declared.record.MetaCall.{MetaCall}
use Rattle.meta_store.specs.declared.record.MetaCall.TheVariants as calls
use Rattle.meta_store.specs.declared.record.MetaEntry.{MetaEntry}
use Rattle.meta_store.specs.declared.record.MetaVerdict.TheVariants as verdicts
use Rattle.meta_store.specs.declared.fault.MetaFault.{MetaFault}
use Rattle.meta_store.specs.Doors.{answer_of, handed_out, heard, said_refused}

-- a seat: which metadata's turn it is of, its driver, and its calls with their answers
pub record SeatValue : Type 0 where
  pub turn : TurnValue
  pub driver : ℕ
  pub list : List MetaAnswer

-- the seat with these parts
abbrev pub seat_of : TurnValue → ℕ → List MetaAnswer → SeatValue
seat_of turn driver list = record { turn = turn; driver = driver; list = list }

-- the seat of a driver that made no call yet
abbrev pub new_seat : TurnValue → ℕ → SeatValue
new_seat turn driver = seat_of turn driver []

-- each seat is of this metadata
abbrev pub AreSeatsOf : TurnValue → List SeatValue → Type 0
AreSeatsOf turn seats = All (λ (seat : SeatValue). seat.turn ≡ turn) seats

-- new metadata's seats: one for each of the drivers 0 to 7, in their order, none of whom made a call
pub record AreOpened (opened : List SeatValue) : Type 0 where
  pub turn : TurnValue
  pub numbers : turn.numbers ≡ 0 ∷ 1 ∷ 2 ∷ 3 ∷ 4 ∷ 5 ∷ 6 ∷ 7 ∷ []
  pub seats : opened ≡ new_seat turn 0 ∷ new_seat turn 1 ∷ new_seat turn 2 ∷ new_seat turn 3 ∷ new_seat turn 4 ∷ new_seat turn 5 ∷ new_seat turn 6 ∷ new_seat turn 7 ∷ []

-- what the driver of an entry heard of it, by the entries before it, which have the latest first
abbrev pub heard_of : List MetaEntry → MetaEntry → MetaAnswer
heard_of past entry = answer_of entry.call (heard entry.call entry.verdict) (handed_out past entry.call entry.verdict)

-- what all drivers heard of these entries, which have the latest first: each answer with its driver, in the order of the calls
abbrev pub tale_of : List MetaEntry → List (ℕ × MetaAnswer)
tale_of [] = []
tale_of (entry ∷ past) = tale_of past ++ (entry.driver, heard_of past entry) ∷ []

-- what one driver heard of them
abbrev pub heard_by : ℕ → List MetaEntry → List MetaAnswer
heard_by driver past = items_of driver (tale_of past)

-- the seat's list is what its driver heard of the journal
abbrev pub IsHeard : List MetaEntry → SeatValue → Type 0
IsHeard journal seat = seat.list ≡ heard_by seat.driver (reverse journal)

-- each entry of the journal is of one of these drivers
abbrev pub AreOf : List ℕ → List MetaEntry → Type 0
AreOf drivers journal = IsMadeBy drivers (tale_of (reverse journal))

-- the answer that a lead adds to its driver's, by how it ended; none after want of memory
abbrev pub lead_adds : ℕ → Result (List Cell) MetaFault → List MetaAnswer
lead_adds term (Ok cells) = answer_of (calls.Lead term) (verdicts.Accepted 0) cells ∷ []
lead_adds term (Err fault) = said_refused fault (calls.Lead term) []

-- the same of a write
abbrev pub write_adds : MetaCall → Result ℕ MetaFault → List MetaAnswer
write_adds call (Ok revision) = answer_of call (verdicts.Accepted revision) [] ∷ []
write_adds call (Err fault) = said_refused fault call []

-- the seat whose list gained these answers
abbrev pub gains : List MetaAnswer → SeatValue → SeatValue
gains answers seat = seat_of seat.turn seat.driver (seat.list ++ answers)

-- the seat of a ticket of the metadata's turn
abbrev pub seat_by : TicketValue MetaAnswer → SeatValue
seat_by ticket = seat_of ticket.turn ticket.number ticket.list

-- the ticket of a seat
abbrev pub ticket_by : SeatValue → TicketValue MetaAnswer
ticket_by seat = ticket_value seat.turn seat.driver seat.list None

-- a ticket of this turn with nothing taken, of one of the numbers 0 to 7
pub record IsOpen (turn : TurnValue) (ticket : TicketValue MetaAnswer) : Type 0 where
  pub free : IsFree turn ticket
  pub number : ticket.number ≤ MAX_DRIVERS
