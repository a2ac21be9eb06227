-- What contracts see of a post and of a client's slip.
use Rattle.std.specs.Prelude.{◌≡◌, ℕ, ◌<◌, ◌≤◌, List, [], ◌∷◌, ◌++◌, length, None}
use Rattle.pd_types.specs.declared.oracle.TheConstants.{MAX_CLIENTS}
use Rattle.pd_turn.specs.Turns.{TicketValue, TurnValue, ticket_value}
use Rattle.tso_client.specs.declared.entry.PostEntry.{PostEntry}
use Rattle.tso_client.specs.declared.entry.PostWhat.{PostWhat}
use Rattle.tso_client.specs.Posts.{entries_of}

-- the clients of a post have the numbers from 1 up to this
abbrev pub clients_of : TurnValue → ℕ
clients_of post = length post.numbers

-- a slip: its post, its client's number, and the client's own entries in the journal
pub record SlipValue : Type 0 where
  pub post : TurnValue
  pub client : ℕ
  pub list : List PostEntry

-- the slip with these parts
abbrev pub slip_of : TurnValue → ℕ → List PostEntry → SlipValue
slip_of post client list = record { post = post; client = client; list = list }

-- the slip of a client that told and heard nothing yet
abbrev pub new_slip : TurnValue → ℕ → SlipValue
new_slip post client = slip_of post client []

-- an entry of the client, on this line of its script
abbrev pub entry_of : ℕ → ℕ → PostWhat → PostEntry
entry_of client line what = record { client = client; line = line; what = what }

-- the slip whose list gained this entry of its client
abbrev pub gains : ℕ → PostWhat → SlipValue → SlipValue
gains line what slip = slip_of slip.post slip.client (slip.list ++ entry_of slip.client line what ∷ [])

-- the slip's list is its client's entries in the journal
abbrev pub IsInJournal : List PostEntry → SlipValue → Type 0
IsInJournal journal slip = slip.list ≡ entries_of slip.client journal

-- the slip of a ticket of the post's turn
abbrev pub slip_by : TicketValue PostEntry → SlipValue
slip_by ticket = slip_of ticket.turn ticket.number ticket.list

-- the ticket of a slip
abbrev pub ticket_by : SlipValue → TicketValue PostEntry
ticket_by slip = ticket_value slip.post slip.client slip.list None

-- a ticket with nothing taken, of one of the numbers 1 to 64
pub record IsOpen (ticket : TicketValue PostEntry) : Type 0 where
  pub none : ticket.taken ≡ None
  pub number : (0 < ticket.number) × (ticket.number ≤ MAX_CLIENTS)
