-- What contracts see of a turn: a lock over one value that keeps a tale, a list of items with the numbers of their makers (own choice).
use Rattle.std.specs.Prelude.{◌≡◌, ℕ, List, [], ◌∷◌, ◌++◌, map, Option, Some, None, if◌then◌else◌, ◌==◌}
use mathlib.Core.Option.{some}
use lib.ListN.{get_elem?}
use Rattle.atomic_table.specs.Seated.{TableId}

-- a number stands among others
abbrev pub Among : ℕ → List ℕ → Type 0
Among n ns = (k : ℕ) × (get_elem? ns k ≡ some n)

-- no number stands twice
abbrev pub AreApart : List ℕ → Type 0
AreApart [] = Unit {0}
AreApart (n ∷ ns) = ¬ (Among n ns) × AreApart ns

-- which turn it is, and the numbers that it was opened for
pub record TurnValue : Type 0 where
  pub id : TableId
  pub numbers : List ℕ

-- a ticket: its turn, its number, its own list, and the taken tale or none
pub record TicketValue (I : Type 0) : Type 0 where
  pub turn : TurnValue
  pub number : ℕ
  pub list : List I
  pub taken : Option (List (ℕ × I))

-- the turn with this table and these numbers
abbrev pub turn_value : TableId → List ℕ → TurnValue
turn_value id numbers = record { id = id; numbers = numbers }

module _ {I : Type 0} where
  -- the items of one number, in order
  abbrev pub items_of : ℕ → List (ℕ × I) → List I
  items_of n [] = []
  items_of n (x ∷ xs) = if x.0 == n then x.1 ∷ items_of n xs else items_of n xs

  -- items that all have one number
  abbrev pub made_by : ℕ → List I → List (ℕ × I)
  made_by n is = map (λ i. (n, i)) is

  -- each item has one of the numbers
  abbrev pub IsMadeBy : List ℕ → List (ℕ × I) → Type 0
  IsMadeBy numbers items = (k : ℕ) (x : ℕ × I) → get_elem? items k ≡ some x → Among x.0 numbers

  -- the whole tale is the one taken and then items of one number
  abbrev pub Adds : ℕ → Option (List (ℕ × I)) → List I → List (ℕ × I) → Type 0
  Adds n taken new whole = (before : List (ℕ × I)) × (taken ≡ Some before) × (whole ≡ before ++ made_by n new)

  -- the ticket with these parts
  abbrev pub ticket_value : TurnValue → ℕ → List I → Option (List (ℕ × I)) → TicketValue I
  ticket_value turn number list taken = record { turn = turn; number = number; list = list; taken = taken }

  -- a ticket whose number made nothing yet
  abbrev pub new_ticket : TurnValue → ℕ → TicketValue I
  new_ticket turn number = ticket_value turn number [] None

-- a ticket of this turn, with nothing taken
pub record IsFree {I : Type 0} (turn : TurnValue) (ticket : TicketValue I) : Type 0 where
  pub turn_is : ticket.turn ≡ turn
  pub none : ticket.taken ≡ None

-- the ticket's list is the items of its number in the whole tale, in order
abbrev pub IsToldBy : {I : Type 0} → List (ℕ × I) → TicketValue I → Type 0
IsToldBy {I} whole ticket = ticket.list ≡ items_of ticket.number whole
