-- The rule of a turn's table: one word, one slot, and a view for each seat. The word is 0 while the slot is at home with its value, and
-- 1 while a seat has it out (own choice).
use Rattle.std.specs.Prelude.{◌≡◌, ◌≢◌, ◌⊎◌, ℕ, List, [], ◌∷◌, ◌++◌, map, Option, Some, None}
use mathlib.Core.Option.{none, some}
use lib.ListN.{get_elem?}
use Rattle.atomic_table.specs.Table.{Me, State}
use Rattle.pd_turn.specs.Turns.{Among, IsMadeBy, TicketValue, TurnValue, items_of, made_by}
use Rattle.pd_turn.specs.declared.rule.View.{View}

module _ {I : Type 0} where
  -- the view with these parts
  abbrev pub view_of : List ℕ → List (ℕ × List I) → Option (List (ℕ × I)) → View I
  view_of numbers lists taken = record { numbers = numbers; lists = lists; taken = taken }

  -- an empty list for each number
  abbrev pub opening_lists : List ℕ → List (ℕ × List I)
  opening_lists numbers = map (λ n. (n, [])) numbers

  -- the first view, which has all numbers
  abbrev pub opening_view : List ℕ → View I
  opening_view numbers = view_of numbers (opening_lists numbers) None

  -- the view of a seat that was joined into another
  abbrev pub no_view : View I
  no_view = view_of [] [] None

  -- all lists but the first
  abbrev pub rest_of : List (ℕ × List I) → List (ℕ × List I)
  rest_of [] = []
  rest_of (x ∷ xs) = xs

  -- the first list alone
  abbrev pub first_of : List (ℕ × List I) → List (ℕ × List I)
  first_of [] = []
  first_of (x ∷ xs) = x ∷ []

  -- a split leaves all numbers but the first, and gives that to the new view
  abbrev pub kept_view : View I → View I
  kept_view v = view_of v.numbers (rest_of v.lists) v.taken

  abbrev pub handed_view : View I → View I
  handed_view v = view_of v.numbers (first_of v.lists) None

  -- a join unites the lists of two views
  abbrev pub both_views : View I → View I → View I
  both_views v w = view_of v.numbers (w.lists ++ v.lists) v.taken

  -- the list of this number stands among the lists
  abbrev pub Has : List (ℕ × List I) → ℕ → List I → Type 0
  Has lists n list = (k : ℕ) × (get_elem? lists k ≡ some (n, list))

  -- Each list of the view k is its number's items in the whole tale, and its number is one of those given, which belongs to this view
  -- and to no other
  abbrev pub Knows : List ℕ → List (ℕ × I) → (ℕ → ℕ) → ℕ → View I → Type 0
  Knows numbers whole owner k v = (n : ℕ) (list : List I) → Has v.lists n list → (v.numbers ≡ numbers) × Among n numbers × (owner n ≡ k) × (list ≡ items_of n whole)

  -- a view has taken nothing, or it is the holder and has taken the whole tale while the word is 1
  abbrev pub Holds : List (ℕ × I) → List ℕ → ℕ → ℕ → View I → Type 0
  Holds whole words holder k v = (v.taken ≡ None) ⊎ ((k ≡ holder) × (words ≡ 1 ∷ []) × (v.taken ≡ Some whole))

  -- what a view has to do with the whole tale
  abbrev pub Fits : List ℕ → List (ℕ × I) → (ℕ → ℕ) → List ℕ → ℕ → ℕ → View I → Type 0
  Fits numbers whole owner words holder k v = Knows numbers whole owner k v × Holds whole words holder k v

module _ {T I : Type 0} (tale : T → List (ℕ × I)) where
  -- the word is 0 and a value with this tale is at home, or it is 1, the slot is out, and the holder has taken this tale
  abbrev pub Rests : List (ℕ × I) → ℕ → State (Option T) (View I) → Type 0
  Rests whole holder s =
      ((s.words ≡ 0 ∷ []) × ((x : T) × (s.homes ≡ some (Some x) ∷ []) × (tale x ≡ whole)))
      ⊎ ((s.words ≡ 1 ∷ []) × (s.homes ≡ none ∷ []) × ((v : View I) × (get_elem? s.views holder ≡ some v) × (v.taken ≡ Some whole)))

  -- The rule: some whole tale rests so, all of whose items have numbers of the turn, and each view fits it
  abbrev pub Sound : List ℕ → State (Option T) (View I) → Type 0
  Sound numbers s = (whole : List (ℕ × I)) × (owner : ℕ → ℕ) × (holder : ℕ) × Rests whole holder s × IsMadeBy numbers whole
      × ((k : ℕ) (v : View I) → get_elem? s.views k ≡ some v → Fits numbers whole owner s.words holder k v)

  -- the slot is the seat's, with a value whose tale is the one taken, and each list of the seat is its number's items in it
  abbrev pub Seized : Me (Option T) (View I) → Me (Option T) (View I) → Type 0
  Seized m n = (x : T) × (n ≡ (view_of m.0.numbers m.0.lists (Some (tale x)), (0, Some x) ∷ m.1))
      × ((k : ℕ) (list : List I) → Has m.0.lists k list → IsMadeBy m.0.numbers (tale x) × (list ≡ items_of k (tale x)))

  -- what a compare-exchange of the word from 0 to 1 tells: it took the value, or nothing changed
  abbrev pub Takes : Me (Option T) (View I) → ℕ → Me (Option T) (View I) → Type 0
  Takes m r n = (r ≡ 0 → Seized m n) × (r ≢ 0 → n ≡ m)

  -- the slot is at home again, and the seat's one list gained the items that the tale gained
  abbrev pub Gives : Me (Option T) (View I) → Me (Option T) (View I) → Type 0
  Gives m n = (x : T) × (k : ℕ) × (list new : List I) × (before : List (ℕ × I))
      × (m ≡ (view_of m.0.numbers ((k, list) ∷ []) (Some before), (0, Some x) ∷ [])) × (tale x ≡ before ++ made_by k new)
      × (n ≡ (view_of m.0.numbers ((k, list ++ new) ∷ []) None, []))

module _ {I : Type 0} where
  -- the list of a view that has one number
  abbrev pub list_of : List (ℕ × List I) → List I
  list_of [] = []
  list_of (x ∷ xs) = x.1

  -- where a tale is taken, the list is the number's items in it
  abbrev pub Follows : List ℕ → ℕ → List I → Option (List (ℕ × I)) → Type 0
  Follows numbers n list None = Unit {0}
  Follows numbers n list (Some before) = IsMadeBy numbers before × (list ≡ items_of n before)

  -- the slots that a seat has: the one slot, where it has taken a tale
  abbrev pub slots_of : {T : Type 0} → Option (List (ℕ × I)) → List (ℕ × Option T)
  slots_of None = []
  slots_of (Some before) = (0, None) ∷ []

  -- the seat of a ticket: it has one number, and the slot where it has taken a tale
  abbrev pub IsTicket : {T : Type 0} → ℕ → Me (Option T) (View I) → Type 0
  IsTicket n m = (m.0.lists ≡ (n, list_of m.0.lists) ∷ []) × (m.1 ≡ slots_of m.0.taken) × Follows m.0.numbers n (list_of m.0.lists) m.0.taken

-- the lists of tickets, each with its number
abbrev pub lists_of : {I : Type 0} → List (TicketValue I) → List (ℕ × List I)
lists_of {I} tickets = map (λ t. (t.number, t.list)) tickets

-- tickets of one turn, with nothing taken
abbrev pub AreOf : {I : Type 0} → TurnValue → List (TicketValue I) → Type 0
AreOf {I} turn tickets = (k : ℕ) (t : TicketValue I) → get_elem? tickets k ≡ some t → (t.turn ≡ turn) × (t.taken ≡ None)
