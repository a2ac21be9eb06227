-- One more line of a text.
use Rattle.std.proofs.Common.{◌≡◌, ℕ, ◌+◌, ◌-◌, ◌<◌, ◌≤◌, suc, List, [], ◌∷◌, ◌++◌, Bool, true, false, nat_eq, ◌==◌, length, take, drop, get_or, Result, Ok, Err, Option, Some, None, refl, ap, sym, ◌∙◌, arith, add-one, append_assoc, append-nil, length-drop, length-append, get_or-drop}
use Rattle.std.proofs.lemmas.Bool.Decides.{nat_tests}
use Rattle.std.proofs.lemmas.List.{take_all, take_more, drop_all}
use Rattle.std.proofs.Math.Seq.{drop-cons}
use Rattle.pd_script.specs.Grammar.{AtFault, and_event, and_line, content_of, events_from, events_of}
use Rattle.pd_script.specs.Refusals.{kept}
use Rattle.pd_script.specs.Words.{RawLine, last_line, lines_from}
use Rattle.pd_script.specs.declared.refusal.Reason.{Reason}
use Rattle.pd_script.specs.declared.refusal.Reason.TheVariants.{NoNewline}
use Rattle.pd_script.specs.declared.script.Mode.{Mode}
use Rattle.pd_script.specs.declared.event.Event.{Event}
use Rattle.pd_script.specs.declared.event.Numbered.{Numbered}

-- the piece from start to i, with one more byte
piece_more : (text : List ℕ) (start k : ℕ) → start + k < length text → take (k + 1) (drop start text) ≡ take k (drop start text) ++ get_or text (start + k) 0 ∷ []
piece_more text start k in_range =
    let here : k < length (drop start text) = omega (arith, length-drop start text) in
    rw (take_more (drop start text) k 0 here, get_or-drop start text k 0) refl

at_feed : (line rest : List ℕ) (b : ℕ) → b ≡ 10 → lines_from line (b ∷ rest) ≡ record { bytes = line; ended = true } ∷ lines_from [] rest
at_feed line rest b feed = let e : nat_eq b 10 ≡ true = grind (arith, nat_tests) in rw e refl

past_feed : (line rest : List ℕ) (b : ℕ) → (b ≡ 10 → ⊥) → lines_from line (b ∷ rest) ≡ lines_from (line ++ b ∷ []) rest
past_feed line rest b other = let e : nat_eq b 10 ≡ false = grind (arith, nat_tests) in rw e refl

-- the lines from start on, where i is as far as the reading came
abbrev pub lines_at : List ℕ → ℕ → ℕ → List RawLine
lines_at text start i = lines_from (take (i - start) (drop start text)) (drop i text)

line_goes_on : (text : List ℕ) (start i : ℕ) → start ≤ i → i < length text → (get_or text i 0 ≡ 10 → ⊥) → lines_at text start i ≡ lines_at text start (i + 1)
line_goes_on text start i within in_range other =
    let k : ℕ = i - start in
    let i_is : i ≡ start + k = omega arith in
    let next_is : i + 1 - start ≡ k + 1 = omega arith in
    let in_range' : start + k < length text = omega arith in
    let more : take (k + 1) (drop start text) ≡ take k (drop start text) ++ get_or text (start + k) 0 ∷ [] = piece_more text start k in_range' in
    let more' = rw (← i_is) at more in
    rw (next_is, more', add-one, drop-cons text i 0) (past_feed (take k (drop start text)) (drop (suc i) text) (get_or text i 0) other)

line_ends : (text : List ℕ) (start i : ℕ) → i < length text → get_or text i 0 ≡ 10
    → lines_at text start i ≡ record { bytes = take (i - start) (drop start text); ended = true } ∷ lines_at text (i + 1) (i + 1)
line_ends text start i in_range feed =
    let none : i + 1 - (i + 1) ≡ 0 = omega arith in
    rw (none, add-one, drop-cons text i 0) (at_feed (take (i - start) (drop start text)) (drop (suc i) text) (get_or text i 0) feed)

-- the events read so far, in front of the rest
abbrev pub after_events : List Numbered → Result (List Numbered) AtFault → Result (List Numbered) AtFault
after_events events (Ok rest) = Ok (events ++ rest)
after_events events (Err fault) = Err fault

after_none : (r : Result (List Numbered) AtFault) → r ≡ after_events [] r
after_none (Ok rest) = refl
after_none (Err fault) = refl

after_one : (events : List Numbered) (number : ℕ) (event : Event) (r : Result (List Numbered) AtFault)
    → after_events events (and_event number event r) ≡ after_events (events ++ record { number = number; event = event } ∷ []) r
after_one events number event (Ok rest) = ap Ok (sym (append_assoc events _ rest))
after_one events number event (Err fault) = refl

-- no event was read yet
abbrev pub is_first : List Numbered → Bool
is_first events = length events == 0

-- what is left to read from i on, of a line that begins at start
abbrev pub rest_of : Mode → List ℕ → ℕ → Bool → ℕ → ℕ → Result (List Numbered) AtFault
rest_of mode text number first start i = events_from mode number first (lines_at text start i)

pub reading_begins : (mode : Mode) (text : List ℕ) → events_of mode text ≡ after_events [] (rest_of mode text 1 true 0 0)
reading_begins mode text = after_none _

pub reading_goes_on : (whole : Result (List Numbered) AtFault) (events : List Numbered) (mode : Mode) (text : List ℕ) (number : ℕ) (first : Bool) (start i : ℕ)
    → start ≤ i → i < length text → (get_or text i 0 ≡ 10 → ⊥)
    → whole ≡ after_events events (rest_of mode text number first start i) → whole ≡ after_events events (rest_of mode text number first start (i + 1))
reading_goes_on whole events mode text number first start i within in_range other e =
    e ∙ ap (λ (ls : List RawLine). after_events events (events_from mode number first ls)) (line_goes_on text start i within in_range other)

not_first : (events : List Numbered) (e : Numbered) → false ≡ is_first (events ++ e ∷ [])
not_first events e = let some : 0 < length (events ++ e ∷ []) = omega (arith, length-append events (e ∷ [])) in grind (arith, nat_tests)

pub add_said : (events : List Numbered) (number : ℕ) (said : Option Event) (passed : Result (List Numbered) AtFault) (rest : Bool → Result (List Numbered) AtFault)
    → after_events events (and_line number (Ok said) (rest (is_first events)) (rest false)) ≡ after_events (events ++ kept number said) (rest (is_first (events ++ kept number said)))
add_said events number None passed rest = rw (append-nil events) refl
add_said events number (Some event) passed rest =
    let e : Numbered = record { number = number; event = event } in
    after_one events number event (rest false) ∙ ap (λ (b : Bool). after_events (events ++ e ∷ []) (rest b)) (not_first events e)

pub reading_adds : (whole : Result (List Numbered) AtFault) (events : List Numbered) (mode : Mode) (text : List ℕ) (number start i : ℕ) (said : Option Event)
    → i < length text → get_or text i 0 ≡ 10
    → Ok said ≡ content_of mode (is_first events) (take (i - start) (drop start text))
    → whole ≡ after_events events (rest_of mode text number (is_first events) start i)
    → whole ≡ after_events (events ++ kept number said) (rest_of mode text (number + 1) (is_first (events ++ kept number said)) (i + 1) (i + 1))
reading_adds whole events mode text number start i said in_range feed is e =
    let rest : Bool → Result (List Numbered) AtFault = λ b. rest_of mode text (number + 1) b (i + 1) (i + 1) in
    e ∙ ap (λ (ls : List RawLine). after_events events (events_from mode number (is_first events) ls)) (line_ends text start i in_range feed)
    ∙ ap (λ (r : Result (Option Event) Reason). after_events events (and_line number r (rest (is_first events)) (rest false))) (sym is)
    ∙ add_said events number said (Ok []) rest

pub reading_stops : (whole : Result (List Numbered) AtFault) (events : List Numbered) (mode : Mode) (text : List ℕ) (number start i : ℕ) (reason : Reason)
    → i < length text → get_or text i 0 ≡ 10
    → Err reason ≡ content_of mode (is_first events) (take (i - start) (drop start text))
    → whole ≡ after_events events (rest_of mode text number (is_first events) start i) → whole ≡ Err (record { line = number; reason = reason })
reading_stops whole events mode text number start i reason in_range feed is e =
    let rest : Bool → Result (List Numbered) AtFault = λ b. rest_of mode text (number + 1) b (i + 1) (i + 1) in
    e ∙ ap (λ (ls : List RawLine). after_events events (events_from mode number (is_first events) ls)) (line_ends text start i in_range feed)
    ∙ ap (λ (r : Result (Option Event) Reason). after_events events (and_line number r (rest (is_first events)) (rest false))) (sym is)

-- at the end of the text
unended : (events : List Numbered) (mode : Mode) (number : ℕ) (first : Bool) (bs : List ℕ) → 0 < length bs
    → after_events events (events_from mode number first (last_line bs)) ≡ Err (record { line = number; reason = NoNewline })
unended events mode number first [] some = absurd (omega arith)
unended events mode number first (b ∷ bs) some = refl

at_end : (text : List ℕ) (start i : ℕ) → length text ≤ i → lines_at text start i ≡ last_line (drop start text)
at_end text start i end = rw (drop_all i text end, take_all (i - start) (drop start text) (omega (arith, length-drop start text))) refl

pub reading_unended : (whole : Result (List Numbered) AtFault) (events : List Numbered) (mode : Mode) (text : List ℕ) (number : ℕ) (first : Bool) (start i : ℕ)
    → length text ≤ i → start < length text
    → whole ≡ after_events events (rest_of mode text number first start i) → whole ≡ Err (record { line = number; reason = NoNewline })
reading_unended whole events mode text number first start i end some e =
    e ∙ ap (λ (ls : List RawLine). after_events events (events_from mode number first ls)) (at_end text start i end) ∙ unended events mode number first (drop start text) (omega (arith, length-drop start text))

pub reading_done : (whole : Result (List Numbered) AtFault) (events : List Numbered) (mode : Mode) (text : List ℕ) (number : ℕ) (first : Bool) (start i : ℕ)
    → length text ≤ i → length text ≤ start
    → whole ≡ after_events events (rest_of mode text number first start i) → whole ≡ Ok events
reading_done whole events mode text number first start i end none e =
    e ∙ ap (λ (ls : List RawLine). after_events events (events_from mode number first ls)) (at_end text start i end)
    ∙ ap (λ (bs : List ℕ). after_events events (events_from mode number first (last_line bs))) (drop_all start text none) ∙ ap Ok (append-nil events)
