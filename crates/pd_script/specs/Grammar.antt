-- What a line says, or the first of its tests that fails (own choice).
use Rattle.std.specs.Prelude.{ℕ, ◌+◌, List, [], ◌∷◌, get_or, Bool, true, false, nat_eq, nat_lt, ◌||◌, Option, Some, None, Result, Ok, Err, if◌then◌else◌}
use Rattle.std.specs.List.{list_any}
use Rattle.pd_script.specs.Asks.{asked_of, request_verb_of}
use Rattle.pd_script.specs.Places.{read_place}
use Rattle.pd_script.specs.Table.{is_misplaced, row, verb_of}
use Rattle.pd_script.specs.Words.{RawLine, behind_word, raw_lines, words}
use Rattle.pd_script.specs.declared.ask.Asked.{Asked}
use Rattle.pd_script.specs.declared.place.Place.{Place}
use Rattle.pd_script.specs.declared.refusal.Reason.{Reason}
use Rattle.pd_script.specs.declared.refusal.Reason.TheVariants.{NoNewline, BadByte, UnknownWord, MissingWord, ExtraWord, Misplaced}
use Rattle.pd_script.specs.declared.script.Mode.{Mode}
use Rattle.pd_script.specs.declared.event.Event.{Event}
use Rattle.pd_script.specs.declared.event.Event.TheVariants.{Step, Ask}
use Rattle.pd_script.specs.declared.event.Numbered.{Numbered}
use Rattle.pd_script.specs.declared.numbers.Numbers.{Numbers}
use Rattle.pd_script.specs.declared.verb.Places.{Places}
use Rattle.pd_script.specs.declared.verb.Places.TheVariants.{One, Two, Three}
use Rattle.pd_script.specs.declared.request_verb.RequestVerb.{RequestVerb}
use Rattle.pd_script.specs.declared.verb.Verb.{Verb}

-- the places one after the other
abbrev pub listed : Places → List Place
listed (One p) = p ∷ []
listed (Two p q) = p ∷ q ∷ []
listed (Three p q r) = p ∷ q ∷ r ∷ []

-- too few words for the places, or too many
abbrev pub arity : List Place → List (List ℕ) → Option Reason
arity [] [] = None
arity [] (w ∷ ws) = Some ExtraWord
arity (p ∷ ps) [] = Some MissingWord
arity (p ∷ ps) (w ∷ ws) = arity ps ws

-- a number in front of those behind it; what is wrong with it comes first
abbrev pub and_number : Result ℕ Reason → Result (List ℕ) Reason → Result (List ℕ) Reason
and_number (Err reason) rest = Err reason
and_number (Ok n) (Err reason) = Err reason
and_number (Ok n) (Ok ns) = Ok (n ∷ ns)

-- the numbers in the places, from left to right
abbrev pub read_places : List Place → List (List ℕ) → Result (List ℕ) Reason
read_places (p ∷ ps) (w ∷ ws) = and_number (read_place p w) (read_places ps ws)
read_places ps ws = Ok []

-- the numbers, where the count of words is right
abbrev pub unless : Option Reason → Result (List ℕ) Reason → Result (List ℕ) Reason
unless (Some reason) numbers = Err reason
unless None numbers = numbers

-- the numbers, with 0 where there are no more
abbrev pub padded : Result (List ℕ) Reason → Result Numbers Reason
padded (Err reason) = Err reason
padded (Ok ns) = Ok (record { first = get_or ns 0 0; second = get_or ns 1 0; third = get_or ns 2 0 })

-- the numbers that stand in the places; the count of words is tested before any of them
abbrev pub numbers_of : Places → List (List ℕ) → Result Numbers Reason
numbers_of places ws = padded (unless (arity (listed places) ws) (read_places (listed places) ws))

-- the event of a first word and its numbers
abbrev pub with_numbers : Verb → Result Numbers Reason → Result Event Reason
with_numbers verb (Err reason) = Err reason
with_numbers verb (Ok numbers) = Ok (Step verb numbers)

-- the event of what is asked
abbrev pub with_request : Result Asked Reason → Result Event Reason
with_request (Err reason) = Err reason
with_request (Ok asked) = Ok (Ask asked.driver asked.request)

-- what a line with another first word says
abbrev pub by_request_verb : List ℕ → Option RequestVerb → Result Event Reason
by_request_verb rest None = Err UnknownWord
by_request_verb rest (Some verb) = with_request (asked_of verb rest)

-- what a line says that is no request
abbrev pub step_of : Mode → Bool → Verb → List (List ℕ) → Result Event Reason
step_of mode first verb ws =
    if is_misplaced mode first (row verb).standing then Err Misplaced
    else with_numbers verb (numbers_of (row verb).places ws)

-- what a line with this first word says, by what stands behind it: one that is no request, or else a request
abbrev pub by_verb : Mode → Bool → List ℕ → Option Verb → Option RequestVerb → Result Event Reason
by_verb mode first rest None other = by_request_verb rest other
by_verb mode first rest (Some verb) other = step_of mode first verb (words rest)

-- what a line of these words says, by what stands behind the first
abbrev pub event_of : Mode → Bool → List (List ℕ) → List ℕ → Result Event Reason
event_of mode first [] rest = Err UnknownWord
event_of mode first (w ∷ ws) rest = by_verb mode first rest (verb_of w) (request_verb_of w)

-- the word begins with `#`
abbrev pub is_comment : List ℕ → Bool
is_comment [] = false
is_comment (b ∷ bs) = nat_eq b 35

-- a line of these words is passed over: it has none, or its first begins with `#`
abbrev pub is_passed_over : List (List ℕ) → Bool
is_passed_over [] = true
is_passed_over (w ∷ ws) = is_comment w

-- some byte is outside 0x20 to 0x7E
abbrev pub has_bad_byte : List ℕ → Bool
has_bad_byte line = list_any (λ b. nat_lt b 32 || nat_lt 126 b) line

-- an event, or what is wrong with it
abbrev pub some_event : Result Event Reason → Result (Option Event) Reason
some_event (Err reason) = Err reason
some_event (Ok event) = Ok (Some event)

-- what a line that has its line feed says, none where it is passed over
abbrev pub content_of : Mode → Bool → List ℕ → Result (Option Event) Reason
content_of mode first line = if is_passed_over (words line) then Ok None else if has_bad_byte line then Err BadByte else some_event (event_of mode first (words line) (behind_word line))

-- what a raw line says
abbrev pub raw_content : Mode → Bool → RawLine → Result (Option Event) Reason
raw_content mode first raw = if raw.ended then content_of mode first raw.bytes else Err NoNewline

-- a line at fault
pub record AtFault : Type 0 where
  pub line : ℕ
  pub reason : Reason

-- an event in front of the rest
abbrev pub and_event : ℕ → Event → Result (List Numbered) AtFault → Result (List Numbered) AtFault
and_event number event (Err fault) = Err fault
and_event number event (Ok events) = Ok (record { number = number; event = event } ∷ events)

-- a line in front of the rest: what is read where it is passed over, and where it is an event
abbrev pub and_line : ℕ → Result (Option Event) Reason → Result (List Numbered) AtFault → Result (List Numbered) AtFault → Result (List Numbered) AtFault
and_line number (Err reason) passed read = Err (record { line = number; reason = reason })
and_line number (Ok None) passed read = passed
and_line number (Ok (Some event)) passed read = and_event number event read

-- the events of these lines, counted from a number, or the first line at fault; whether the next event is the first
abbrev pub events_from : Mode → ℕ → Bool → List RawLine → Result (List Numbered) AtFault
events_from mode number first [] = Ok []
events_from mode number first (raw ∷ raws) = and_line number (raw_content mode first raw) (events_from mode (number + 1) first raws) (events_from mode (number + 1) false raws)

-- the events of a text, or its first line at fault and why
abbrev pub events_of : Mode → List ℕ → Result (List Numbered) AtFault
events_of mode text = events_from mode 1 true (raw_lines text)
