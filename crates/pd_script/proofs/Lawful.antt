-- The script of a text is lawful.
use Rattle.std.proofs.Common.{◌≡◌, ◌<◌, ◌≤◌, ℕ, ◌+◌, List, [], ◌∷◌, Bool, true, false, cond, map, get_or, Option, Some, None, refl, sym, ap, subst, ◌∙◌, arith}
use Rattle.std.specs.Prelude.{IfSome, Result, Ok, Err}
use Rattle.std.specs.List.{AllByRecursion}
use Rattle.std.proofs.lemmas.List.{length-map}
use Rattle.std.proofs.lemmas.List.Elements.{All-from_recursion}
use Rattle.pd_lines.specs.Numeral.{number_of}
use Rattle.pd_script.specs.Asks.{asked_of, request_verb_of}
use Rattle.pd_script.specs.Grammar.{AtFault, by_request_verb, with_request, and_event, and_line, and_number, arity, by_verb, content_of, event_of, events_from, events_of, has_bad_byte, is_passed_over, listed, numbers_of, padded, raw_content, read_places, some_event, unless, step_of, with_numbers}
use Rattle.pd_script.specs.Formed.{IsAsked}
use Rattle.pd_script.specs.Lawful.{AreLawful, IsFormed, IsInRange, IsLawful, IsLawfulScript, standing_of}
use Rattle.pd_script.specs.Places.{most, read_place}
use Rattle.pd_script.specs.Says.{Says}
use Rattle.pd_script.specs.Scripts.{act_of, broken_by, client_of, driver_of, greatest, greatest_in, if_client, if_driver, line_of, script_by, script_of, unless_broken}
use Rattle.pd_script.specs.Table.{is_misplaced, row, verb_of}
use Rattle.pd_script.specs.Words.{RawLine, behind_word, raw_lines, words}
use Rattle.pd_script.specs.declared.limits.Broken.{Broken}
use Rattle.pd_script.specs.declared.place.Place.{Place}
use Rattle.pd_script.specs.declared.place.Place.TheVariants.{Driver, Client}
use Rattle.pd_script.specs.declared.refusal.Reason.{Reason}
use Rattle.pd_script.specs.declared.refusal.Reason.TheVariants.{BadByte, Misplaced, NoNewline, UnknownWord}
use Rattle.pd_script.specs.declared.refusal.ScriptRefusal.TheVariants.{Fault, Limit}
use Rattle.pd_script.specs.declared.script.Mode.{Mode}
use Rattle.pd_script.specs.declared.script.Script.{Script}
use Rattle.pd_script.specs.declared.act.Act.{Act}
use Rattle.pd_script.specs.declared.act.Line.{Line}
use Rattle.pd_script.specs.declared.ask.Asked.{Asked}
use Rattle.pd_script.specs.declared.event.Event.{Event}
use Rattle.pd_script.specs.declared.event.Event.TheVariants.{Step, Ask}
use Rattle.pd_script.specs.declared.request_verb.RequestVerb.{RequestVerb}
use Rattle.pd_script.specs.declared.event.Numbered.{Numbered}
use Rattle.pd_script.specs.declared.numbers.Numbers.{Numbers}
use Rattle.pd_script.specs.declared.verb.Places.{Places}
use Rattle.pd_script.specs.declared.verb.Places.TheVariants.{One, Two, Three}
use Rattle.pd_script.specs.declared.verb.Verb.{Verb}
use Rattle.pd_script.proofs.Formed.{IsFine, asked_ok}
use Rattle.pd_script.proofs.Greatest.{at_least_one}
use Rattle.pd_script.proofs.LawfulLines.{AreAbove, are_above, clients_greatest, drivers_greatest, few_speakers, numbered_from, rising_from, same_actors, same_leads, same_reports}
use Rattle.pd_script.proofs.Results.{InPlace, in_place, no_fine, same_ok}
use Rattle.pd_script.proofs.SaysLemmas.{placed_numbers, same_says}
use Rattle.pd_script.proofs.Unbroken.{all_within}

-- the numbers in their places
abbrev AllIn : List Place → List ℕ → Type 0
AllIn [] ns = Unit {0}
AllIn (p ∷ ps) [] = ⊥
AllIn (p ∷ ps) (n ∷ ns) = InPlace p n × AllIn ps ns

both_fine : (p : Place) (ps : List Place) (first : Result ℕ Reason) (rest : Result (List ℕ) Reason) (ns : List ℕ) → ((n : ℕ) → first ≡ Ok n → InPlace p n) → ((ms : List ℕ) → rest ≡ Ok ms → AllIn ps ms) → and_number first rest ≡ Ok ns → AllIn (p ∷ ps) ns
both_fine p ps (Err e) rest ns low high is = no_fine e ns is
both_fine p ps (Ok n) (Err e) ns low high is = no_fine e ns is
both_fine p ps (Ok n) (Ok ms) ns low high is = subst (λ (l : List ℕ). AllIn (p ∷ ps) l) (same_ok (n ∷ ms) ns is) (low n refl, high ms refl)

abbrev IsNone : Option Reason → Type 0
IsNone None = Unit {0}
IsNone (Some r) = ⊥

all_in : (ps : List Place) (ws : List (List ℕ)) (ns : List ℕ) → arity ps ws ≡ None → read_places ps ws ≡ Ok ns → AllIn ps ns
all_in [] ws ns right is = tt
all_in (p ∷ ps) [] ns right is = absurd (subst IsNone (sym right) tt)
all_in (p ∷ ps) (w ∷ ws) ns right is = both_fine p ps (read_place p w) (read_places ps ws) ns (λ n e. in_place p (number_of w) n e) (λ ms e. all_in ps ws ms right e) is

-- the numbers of an event are in the ranges of its places
abbrev InRange : Places → Numbers → Type 0
InRange (One p) n = InPlace p n.first
InRange (Two p q) n = InPlace p n.first × InPlace q n.second
InRange (Three p q r) n = InPlace p n.first × InPlace q n.second × InPlace r n.third

by_places : (places : Places) (ns : List ℕ) → AllIn (listed places) ns → InRange places (record { first = get_or ns 0 0; second = get_or ns 1 0; third = get_or ns 2 0 })
by_places (One p) [] all = absurd all
by_places (One p) (a ∷ ns) all = all.0
by_places (Two p q) [] all = absurd all
by_places (Two p q) (a ∷ []) all = absurd all.1
by_places (Two p q) (a ∷ b ∷ ns) all = (all.0, all.1.0)
by_places (Three p q r) [] all = absurd all
by_places (Three p q r) (a ∷ []) all = absurd all.1
by_places (Three p q r) (a ∷ b ∷ []) all = absurd all.1.1
by_places (Three p q r) (a ∷ b ∷ c ∷ ns) all = (all.0, all.1.0, all.1.1.0)

padded_in : (places : Places) (r : Result (List ℕ) Reason) (numbers : Numbers) → ((ns : List ℕ) → r ≡ Ok ns → AllIn (listed places) ns) → padded r ≡ Ok numbers → InRange places numbers
padded_in places (Err e) numbers all is = no_fine e numbers is
padded_in places (Ok ns) numbers all is = subst (λ (n : Numbers). InRange places n) (same_ok (record { first = get_or ns 0 0; second = get_or ns 1 0; third = get_or ns 2 0 }) numbers is) (by_places places ns (all ns refl))

unless_in : (places : Places) (ws : List (List ℕ)) (wrong : Option Reason) → arity (listed places) ws ≡ wrong → (ns : List ℕ) → unless wrong (read_places (listed places) ws) ≡ Ok ns → AllIn (listed places) ns
unless_in places ws None right ns is = all_in (listed places) ws ns right is
unless_in places ws (Some e) right ns is = no_fine e ns is

numbers_in : (places : Places) (ws : List (List ℕ)) (numbers : Numbers) → numbers_of places ws ≡ Ok numbers → InRange places numbers
numbers_in places ws numbers is = padded_in places (unless (arity (listed places) ws) (read_places (listed places) ws)) numbers (unless_in places ws (arity (listed places) ws) refl) is

-- an event that was read
abbrev IsRead : Mode → Bool → Event → Type 0
IsRead mode first (Step verb numbers) = (is_misplaced mode first (row verb).standing ≡ false) × InRange (row verb).places numbers
IsRead mode first (Ask driver request) = (0 < driver) × IsAsked request

with_read : (mode : Mode) (first : Bool) (verb : Verb) (r : Result Numbers Reason) (e : Event) → is_misplaced mode first (row verb).standing ≡ false → ((n : Numbers) → r ≡ Ok n → InRange (row verb).places n) → with_numbers verb r ≡ Ok e → IsRead mode first e
with_read mode first verb (Err reason) e placed range is = no_fine reason e is
with_read mode first verb (Ok n) e placed range is = subst (λ (x : Event). IsRead mode first x) (same_ok (Step verb n) e is) (placed, range n refl)

placed_read : (mode : Mode) (first : Bool) (ws : List (List ℕ)) (verb : Verb) (e : Event) (bad : Bool) → is_misplaced mode first (row verb).standing ≡ bad → cond {A = Result Event Reason} bad (Err Misplaced) (with_numbers verb (numbers_of (row verb).places ws)) ≡ Ok e → IsRead mode first e
placed_read mode first ws verb e true placed is = no_fine Misplaced e is
placed_read mode first ws verb e false placed is = with_read mode first verb (numbers_of (row verb).places ws) e placed (λ n same. numbers_in (row verb).places ws n same) is

step_read : (mode : Mode) (first : Bool) (ws : List (List ℕ)) (verb : Verb) (e : Event) → step_of mode first verb ws ≡ Ok e → IsRead mode first e
step_read mode first ws verb e is = placed_read mode first ws verb e (is_misplaced mode first (row verb).standing) refl is

request_read : (mode : Mode) (first : Bool) (r : Result Asked Reason) (e : Event) → ((a : Asked) → r ≡ Ok a → IsFine a) → with_request r ≡ Ok e → IsRead mode first e
request_read mode first (Err reason) e fine is = no_fine reason e is
request_read mode first (Ok a) e fine is = let one = fine a refl in subst (λ (x : Event). IsRead mode first x) (same_ok (Ask a.driver a.request) e is) (one.pos, one.asked)

ask_read : (mode : Mode) (first : Bool) (rest : List ℕ) (o : Option RequestVerb) (e : Event) → by_request_verb rest o ≡ Ok e → IsRead mode first e
ask_read mode first rest None e is = no_fine UnknownWord e is
ask_read mode first rest (Some verb) e is = request_read mode first (asked_of verb rest) e (λ a same. asked_ok verb rest a same) is

verb_read : (mode : Mode) (first : Bool) (rest : List ℕ) (o : Option Verb) (other : Option RequestVerb) (e : Event) → by_verb mode first rest o other ≡ Ok e → IsRead mode first e
verb_read mode first rest None other e is = ask_read mode first rest other e is
verb_read mode first rest (Some verb) other e is = step_read mode first (words rest) verb e is

event_read : (mode : Mode) (first : Bool) (ws : List (List ℕ)) (rest : List ℕ) (e : Event) → event_of mode first ws rest ≡ Ok e → IsRead mode first e
event_read mode first [] rest e is = no_fine UnknownWord e is
event_read mode first (w ∷ ws) rest e is = verb_read mode first rest (verb_of w) (request_verb_of w) e is

-- what a line may be
abbrev MayBe : Mode → Bool → Result (Option Event) Reason → Type 0
MayBe mode first (Err reason) = Unit {0}
MayBe mode first (Ok None) = Unit {0}
MayBe mode first (Ok (Some e)) = IsRead mode first e

some_may : (mode : Mode) (first : Bool) (r : Result Event Reason) → ((e : Event) → r ≡ Ok e → IsRead mode first e) → MayBe mode first (some_event r)
some_may mode first (Err reason) read = tt
some_may mode first (Ok e) read = read e refl

may_cond : (mode : Mode) (first : Bool) (b : Bool) (x y : Result (Option Event) Reason) → MayBe mode first x → MayBe mode first y → MayBe mode first (cond b x y)
may_cond mode first true x y hit miss = hit
may_cond mode first false x y hit miss = miss

content_may : (mode : Mode) (first : Bool) (line : List ℕ) → MayBe mode first (content_of mode first line)
content_may mode first line = may_cond mode first (is_passed_over (words line)) (Ok None) (cond (has_bad_byte line) (Err BadByte) (some_event (event_of mode first (words line) (behind_word line)))) tt
    (may_cond mode first (has_bad_byte line) (Err BadByte) (some_event (event_of mode first (words line) (behind_word line))) tt (some_may mode first (event_of mode first (words line) (behind_word line)) (λ e is. event_read mode first (words line) (behind_word line) e is)))

raw_may : (mode : Mode) (first : Bool) (raw : RawLine) → MayBe mode first (raw_content mode first raw)
raw_may mode first raw = may_cond mode first raw.ended (content_of mode first raw.bytes) (Err NoNewline) (content_may mode first raw.bytes) tt

-- all events that were read
abbrev AreRead : Mode → Bool → List Numbered → Type 0
AreRead mode first [] = Unit {0}
AreRead mode first (e ∷ es) = IsRead mode first e.event × AreRead mode false es

event_front : (mode : Mode) (first : Bool) (number : ℕ) (e : Event) (r : Result (List Numbered) AtFault) (events : List Numbered) → IsRead mode first e → ((es : List Numbered) → r ≡ Ok es → AreRead mode false es) → and_event number e r ≡ Ok events → AreRead mode first events
event_front mode first number e (Err fault) events one rest is = no_fine fault events is
event_front mode first number e (Ok es) events one rest is = subst (λ (l : List Numbered). AreRead mode first l) (same_ok (record { number = number; event = e } ∷ es) events is) (one, rest es refl)

line_front : (mode : Mode) (first : Bool) (number : ℕ) (content : Result (Option Event) Reason) (passed read : Result (List Numbered) AtFault) (events : List Numbered) → MayBe mode first content
    → ((es : List Numbered) → passed ≡ Ok es → AreRead mode first es) → ((es : List Numbered) → read ≡ Ok es → AreRead mode false es) → and_line number content passed read ≡ Ok events → AreRead mode first events
line_front mode first number (Err reason) passed read events may over behind is = no_fine (record { line = number; reason = reason }) events is
line_front mode first number (Ok None) passed read events may over behind is = over events is
line_front mode first number (Ok (Some e)) passed read events may over behind is = event_front mode first number e read events may behind is

all_read : (mode : Mode) (number : ℕ) (first : Bool) (raws : List RawLine) (events : List Numbered) → events_from mode number first raws ≡ Ok events → AreRead mode first events
all_read mode number first [] events is = subst (λ (l : List Numbered). AreRead mode first l) (same_ok [] events is) tt
all_read mode number first (raw ∷ raws) events is = line_front mode first number (raw_content mode first raw) (events_from mode (number + 1) first raws) (events_from mode (number + 1) false raws) events (raw_may mode first raw)
    (λ es same. all_read mode (number + 1) first raws es same) (λ es same. all_read mode (number + 1) false raws es same) is

-- the numbers of an act are in range where its places are, and the drivers and the clients run
module _ (drivers clients : ℕ) where
  in_range : (p : Place) (n : ℕ) → InPlace p n → if_driver p n ≤ drivers → if_client p n ≤ clients → IsInRange drivers clients (p, n)
  in_range Driver n range driver client = record { low = range.low; high = driver }
  in_range Client n range driver client = record { low = range.low; high = client }
  in_range _ n range driver client = record { low = range.low; high = range.high }

  all_in_range : (places : Places) (n : Numbers) → InRange places n → greatest_in if_driver places n ≤ drivers → greatest_in if_client places n ≤ clients → AllByRecursion (IsInRange drivers clients) (placed_numbers places n)
  all_in_range (One p) n range driver client = (in_range p n.first range driver client, tt)
  all_in_range (Two p q) n range driver client = (in_range p n.first range.0 (omega (arith, driver)) (omega (arith, client)), (in_range q n.second range.1 (omega (arith, driver)) (omega (arith, client)), tt))
  all_in_range (Three p q r) n range driver client =
      (in_range p n.first range.0 (omega (arith, driver)) (omega (arith, client)), (in_range q n.second range.1 (omega (arith, driver)) (omega (arith, client)), (in_range r n.third range.2 (omega (arith, driver)) (omega (arith, client)), tt)))

-- an event that was read stands where it may, and its act is lawful
record IsGood (mode : Mode) (drivers clients : ℕ) (first : Bool) (act : Act) : Type 0 where
  placed : is_misplaced mode first (standing_of act) ≡ false
  lawful : IsLawful drivers clients act
  formed : IsFormed act

good_event : (mode : Mode) (drivers clients : ℕ) (first : Bool) (e : Event) → IsRead mode first e → driver_of e ≤ drivers → client_of e ≤ clients → IsGood mode drivers clients first (act_of e)
good_event mode drivers clients first (Step verb numbers) read most others = let same = same_says verb numbers in record {
  placed = ap (λ (s : Says). is_misplaced mode first s.standing) same ∙ read.0;
  lawful = subst (λ (s : Says). AllByRecursion (IsInRange drivers clients) s.numbers) (sym same) (all_in_range drivers clients (row verb).places numbers read.1 most others);
  formed = subst (λ (s : Says). IfSome s.asked IsAsked) (sym same) tt;
}
good_event mode drivers clients first (Ask driver request) read most others = record { placed = refl; lawful = (record { low = omega (arith, read.0); high = most }, tt); formed = read.1 }

-- all lines
lawful_lines : (mode : Mode) (drivers clients : ℕ) (first : Bool) (events : List Numbered) → AreRead mode first events → greatest driver_of events ≤ drivers → greatest client_of events ≤ clients → AreLawful mode drivers clients first (map line_of events)
lawful_lines mode drivers clients first [] read most others = tt
lawful_lines mode drivers clients first (e ∷ es) read most others =
    let good = good_event mode drivers clients first e.event read.0 (omega (arith, most)) (omega (arith, others)) in
    (good.placed, good.lawful, lawful_lines mode drivers clients false es read.1 (omega (arith, most)) (omega (arith, others)))

formed_lines : (mode : Mode) (first : Bool) (events : List Numbered) → AreRead mode first events → AllByRecursion (λ (line : Line). IsFormed line.act) (map line_of events)
formed_lines mode first [] read = tt
formed_lines mode first (e ∷ es) read = ((good_event mode (driver_of e.event) (client_of e.event) first e.event read.0 (omega arith) (omega arith)).formed, formed_lines mode false es read.1)

-- the lines, where no limit is broken
unbroken_lawful : (mode : Mode) (events : List Numbered) (script : Script) → broken_by events ≡ None → AreRead mode true events → AreAbove 1 events → unless_broken events None ≡ Ok script → IsLawfulScript mode script
unbroken_lawful mode events script unbroken read above is =
    let kept = all_within events (sym unbroken) in
    subst (λ (x : Script). IsLawfulScript mode x) (same_ok (record { drivers = greatest driver_of events; clients = greatest client_of events; lines = map line_of events }) script is)
    (record {
      drivers = record { pos = omega (arith, at_least_one driver_of events); low = kept.drivers };
      clients = record { pos = omega (arith, at_least_one client_of events); low = kept.clients };
      lines = lawful_lines mode (greatest driver_of events) (greatest client_of events) true events read (omega arith) (omega arith);
      numbered = numbered_from 0 events above;
      rise = rising_from 1 events above;
      actors = same_actors events;
      formed = All-from_recursion (λ (line : Line). IsFormed line.act) (map line_of events) (formed_lines mode true events read);
      most_drivers = drivers_greatest events;
      most_clients = clients_greatest events;
      events = grind (arith, length-map, kept.few);
      speakers = few_speakers events kept.stores;
      reports = omega (arith, same_reports events, kept.reports);
      leads = omega (arith, same_leads events, kept.leads);
    })

by_lawful : (mode : Mode) (r : Result (List Numbered) AtFault) (script : Script) → ((events : List Numbered) → r ≡ Ok events → AreRead mode true events) → ((events : List Numbered) → r ≡ Ok events → AreAbove 1 events) → script_by r ≡ Ok script → IsLawfulScript mode script
by_lawful mode (Err fault) script read above is = no_fine (Fault fault.line fault.reason) script is
by_lawful mode (Ok events) script read above is = cases (broken_by events) refl is
  where
    cases : (broken : Option Broken) → broken_by events ≡ broken → unless_broken events broken ≡ Ok script → IsLawfulScript mode script
    cases None unbroken same = unbroken_lawful mode events script unbroken (read events refl) (above events refl) same
    cases (Some b) unbroken same = no_fine (Limit b.what b.count) script same

pub lawful : (mode : Mode) (text : List ℕ) (script : Script) → script_of mode text ≡ Ok script → IsLawfulScript mode script
lawful mode text script is = by_lawful mode (events_of mode text) script (λ events same. all_read mode 1 true (raw_lines text) events same) (λ events same. are_above mode 1 true (raw_lines text) events same) is
