-- Each fault of a command has its own cause.
use Rattle.std.proofs.Common.{◌≡◌, ℕ, ◌<◌, ◌≤◌, ◌↔◌, refl, sym, ap, ◌∙◌, arith, Bool, true, false, not, ◌||◌, nat_lt, List, [], ◌∷◌, length, Option, Some, None, Result, Ok, Err}
use Rattle.std.specs.Prelude.{is_some, if◌then◌else◌}
use Rattle.std.specs.Str.{is_utf8}
use Rattle.std.proofs.lemmas.Bool.Decides.{nat_tests}
use Rattle.pd_lines.specs.Keys.{key_of}
use Rattle.pd_lines.specs.Numeral.{number_of}
use Rattle.op_step.specs.declared.wishes.Wish.{Wish}
use Rattle.op_step.specs.declared.wishes.Wish.TheVariants as wishes
use Rattle.pd_ctl.specs.Causes.{misread, Exceeds, Lacks, Misreads, Names, NamesNone}
use Rattle.pd_ctl.specs.Commands.{asked, command_by, numbered, said, said_by, wished}
use Rattle.pd_lines.specs.Words.{and_then}
use Rattle.pd_ctl.specs.Places.{kind_of, or_bad, rate_of}
use Rattle.pd_ctl.specs.Table.{Number, behind, least, most, row, verb_of}
use Rattle.pd_ctl.specs.declared.command.Command.{Command}
use Rattle.pd_ctl.specs.declared.command.Command.TheVariants as commands
use Rattle.pd_ctl.specs.declared.fault.CtlFault.{CtlFault}
use Rattle.pd_ctl.specs.declared.fault.CtlFault.TheVariants.{Unknown, BadNumber, MissingWord, ExtraWord}
use Rattle.pd_ctl.specs.declared.verb.Verb.{Verb}
use Rattle.pd_ctl.specs.declared.verb.Verb.TheVariants.{Store, StoreDelete, StoreLimit, Region, RegionKey, OperatorShow, AddPeer, RemovePeer, TransferLeader, TransferPeer, OperatorRemove, OperatorCheck, SchedulerShow, SchedulerRemove, LeaderShow, LeaderResign, Tso}
use Rattle.pd_ctl.proofs.Named.{is_named, named_is, none_named}

-- what comes of as many words as there are places: a fault where one is misread, else a command
abbrev Comes : Bool → Result Command CtlFault → Type 0
Comes true asked = asked ≡ Err BadNumber
Comes false asked = (command : Command) × (asked ≡ Ok command)

one_place : {A : Type 0} (make : A → Command) (o : Option A) → Comes (not (is_some o) || false) (and_then (or_bad o) (λ read. Ok (make read)))
one_place make None = refl
one_place make (Some read) = (make read, refl)

two_places : {A B : Type 0} (make : A → B → Command) (o : Option A) (p : Option B) → Comes (not (is_some o) || (not (is_some p) || false)) (and_then (or_bad o) (λ a. and_then (or_bad p) (λ b. Ok (make a b))))
two_places make None p = refl
two_places make (Some a) None = refl
two_places make (Some a) (Some b) = (make a b, refl)

three_places : {A B C : Type 0} (make : A → B → C → Command) (o : Option A) (p : Option B) (q : Option C) → Comes (not (is_some o) || (not (is_some p) || (not (is_some q) || false))) (and_then (or_bad o) (λ a. and_then (or_bad p) (λ b. and_then (or_bad q) (λ c. Ok (make a b c)))))
three_places make None p q = refl
three_places make (Some a) None q = refl
three_places make (Some a) (Some b) None = refl
three_places make (Some a) (Some b) (Some c) = (make a b c, refl)

name_place : (word : List ℕ) (b : Bool) → Comes (not b || false) (and_then (or_bad (if b then Some word else None)) (λ name. Ok (commands.SchedulerRemove name)))
name_place word true = (commands.SchedulerRemove word, refl)
name_place word false = refl

numbers_come : (make : ℕ → Command) (words : List (List ℕ)) → 1 ≤ length words → length words ≤ 1 → Comes (misread (Number ∷ []) words) (numbered make words)
numbers_come make [] low high = absurd (omega arith)
numbers_come make (word ∷ []) low high = one_place make (number_of word)
numbers_come make (word ∷ next ∷ more) low high = absurd (omega arith)

wishes_come : (make : ℕ → Wish) (words : List (List ℕ)) → 2 ≤ length words → length words ≤ 2 → Comes (misread (Number ∷ Number ∷ []) words) (wished make words)
wishes_come make [] low high = absurd (omega arith)
wishes_come make (one ∷ []) low high = absurd (omega arith)
wishes_come make (one ∷ two ∷ []) low high = two_places (λ region store. commands.OperatorAdd region (make store)) (number_of one) (number_of two)
wishes_come make (one ∷ two ∷ three ∷ more) low high = absurd (omega arith)

store_comes : (words : List (List ℕ)) → length words ≤ 1 → Comes (misread (Number ∷ []) words) (asked Store words)
store_comes [] high = (commands.Stores, refl)
store_comes (word ∷ []) high = one_place commands.Store (number_of word)
store_comes (word ∷ next ∷ more) high = absurd (omega arith)

limit_comes : (words : List (List ℕ)) → 3 ≤ length words → length words ≤ 3 → Comes (misread (row StoreLimit).places words) (asked StoreLimit words)
limit_comes [] low high = absurd (omega arith)
limit_comes (one ∷ []) low high = absurd (omega arith)
limit_comes (one ∷ two ∷ []) low high = absurd (omega arith)
limit_comes (one ∷ two ∷ three ∷ []) low high = three_places commands.StoreLimit (number_of one) (rate_of two) (kind_of three)
limit_comes (one ∷ two ∷ three ∷ four ∷ more) low high = absurd (omega arith)

move_comes : (words : List (List ℕ)) → 3 ≤ length words → length words ≤ 3 → Comes (misread (row TransferPeer).places words) (asked TransferPeer words)
move_comes [] low high = absurd (omega arith)
move_comes (one ∷ []) low high = absurd (omega arith)
move_comes (one ∷ two ∷ []) low high = absurd (omega arith)
move_comes (one ∷ two ∷ three ∷ []) low high = three_places (λ region from to. commands.OperatorAdd region (wishes.MovePeer from to)) (number_of one) (number_of two) (number_of three)
move_comes (one ∷ two ∷ three ∷ four ∷ more) low high = absurd (omega arith)

key_comes : (words : List (List ℕ)) → 1 ≤ length words → length words ≤ 1 → Comes (misread (row RegionKey).places words) (asked RegionKey words)
key_comes [] low high = absurd (omega arith)
key_comes (word ∷ []) low high = one_place commands.RegionKey (key_of word)
key_comes (word ∷ next ∷ more) low high = absurd (omega arith)

name_comes : (words : List (List ℕ)) → 1 ≤ length words → length words ≤ 1 → Comes (misread (row SchedulerRemove).places words) (asked SchedulerRemove words)
name_comes [] low high = absurd (omega arith)
name_comes (word ∷ []) low high = name_place word (is_utf8 word)
name_comes (word ∷ next ∷ more) low high = absurd (omega arith)

-- the same of each command
comes : (verb : Verb) (words : List (List ℕ)) → least verb ≤ length words → length words ≤ most verb → Comes (misread (row verb).places words) (asked verb words)
comes Store words low high = store_comes words high
comes StoreDelete words low high = numbers_come commands.StoreDelete words low high
comes StoreLimit words low high = limit_comes words low high
comes Region words low high = numbers_come commands.Region words low high
comes RegionKey words low high = key_comes words low high
comes OperatorShow words low high = (commands.OperatorShow, refl)
comes AddPeer words low high = wishes_come wishes.AddPeer words low high
comes RemovePeer words low high = wishes_come wishes.RemovePeer words low high
comes TransferLeader words low high = wishes_come wishes.TransferLeader words low high
comes TransferPeer words low high = move_comes words low high
comes OperatorRemove words low high = numbers_come commands.OperatorRemove words low high
comes OperatorCheck words low high = numbers_come commands.OperatorCheck words low high
comes SchedulerShow words low high = (commands.SchedulerShow, refl)
comes SchedulerRemove words low high = name_comes words low high
comes LeaderShow words low high = (commands.LeaderShow, refl)
comes LeaderResign words low high = (commands.LeaderResign, refl)
comes Tso words low high = numbers_come commands.Tso words low high

-- what is said of the words behind the fixed ones
data Case (verb : Verb) (words : List (List ℕ)) (said : Result Command CtlFault) : Type 0 where
  Few : length words < least verb → said ≡ Err MissingWord → Case verb words said
  Many : least verb ≤ length words → most verb < length words → said ≡ Err ExtraWord → Case verb words said
  Bad : least verb ≤ length words → length words ≤ most verb → misread (row verb).places words ≡ true → said ≡ Err BadNumber → Case verb words said
  Good : least verb ≤ length words → length words ≤ most verb → misread (row verb).places words ≡ false → (command : Command) → said ≡ Ok command → Case verb words said

case_of : (verb : Verb) (words : List (List ℕ)) → Case verb words (said verb words)
case_of verb words = by (nat_lt (length words) (least verb)) refl (nat_lt (most verb) (length words)) refl
  where
    read : (b : Bool) → misread (row verb).places words ≡ b → least verb ≤ length words → length words ≤ most verb → said verb words ≡ asked verb words → Comes b (asked verb words) → Case verb words (said verb words)
    read true bad low high same comes = Bad low high bad (same ∙ comes)
    read false bad low high same comes = Good low high bad comes.0 (same ∙ comes.1)

    by : (few : Bool) → nat_lt (length words) (least verb) ≡ few → (many : Bool) → nat_lt (most verb) (length words) ≡ many → Case verb words (said verb words)
    by true e many f = Few (grind (arith, nat_tests, e)) (rw e refl)
    by false e true f = Many (grind (arith, nat_tests, e)) (grind (arith, nat_tests, f)) (rw (e, f) refl)
    by false e false f =
        let low : least verb ≤ length words = grind (arith, nat_tests, e) in
        let high : length words ≤ most verb = grind (arith, nat_tests, f) in
        read (misread (row verb).places words) refl low high (rw (e, f) refl) (comes verb words low high)

by_name : (words : List (List ℕ)) (verb : Verb) → verb_of words ≡ Some verb → command_by words ≡ said verb (behind verb words)
by_name words verb named = ap (λ (o : Option Verb). said_by o words) named

-- a command that is named is known
not_unknown : (verb : Verb) (words : List (List ℕ)) → Case verb words (said verb words) → said verb words ≡ Err Unknown → ⊥
not_unknown verb words (Few few e) is = cc (e, is)
not_unknown verb words (Many low many e) is = cc (e, is)
not_unknown verb words (Bad low high bad e) is = cc (e, is)
not_unknown verb words (Good low high good command e) is = cc (e, is)

pub unknown_cause : (words : List (List ℕ)) → (command_by words ≡ Err Unknown) ↔ NamesNone words
unknown_cause words = (there (verb_of words) refl, back (verb_of words) refl)
  where
    there : (o : Option Verb) → verb_of words ≡ o → command_by words ≡ Err Unknown → NamesNone words
    there None e is = none_named words e
    there (Some verb) e is = absurd (not_unknown verb (behind verb words) (case_of verb (behind verb words)) (sym (by_name words verb e) ∙ is))

    back : (o : Option Verb) → verb_of words ≡ o → NamesNone words → command_by words ≡ Err Unknown
    back None e none = ap (λ (o : Option Verb). said_by o words) e
    back (Some verb) e none = absurd (cc ((named_is words verb e).agree, none verb))

none_is : (words : List (List ℕ)) (fault : CtlFault) → verb_of words ≡ None → command_by words ≡ Err fault → fault ≡ Unknown
none_is words fault e is = (let both : Err Unknown ≡ Err fault = sym (ap (λ (o : Option Verb). said_by o words) e) ∙ is in cc both)

lacks_by : (words : List (List ℕ)) (verb : Verb) → Names words verb → (case : Case verb (behind verb words) (said verb (behind verb words))) → said verb (behind verb words) ≡ Err MissingWord → Lacks words
lacks_by words verb named (Few few e) is = record { verb = verb; named = named; few = few }
lacks_by words verb named (Many low many e) is = absurd (cc (e, is))
lacks_by words verb named (Bad low high bad e) is = absurd (cc (e, is))
lacks_by words verb named (Good low high good command e) is = absurd (cc (e, is))

exceeds_by : (words : List (List ℕ)) (verb : Verb) → Names words verb → (case : Case verb (behind verb words) (said verb (behind verb words))) → said verb (behind verb words) ≡ Err ExtraWord → Exceeds words
exceeds_by words verb named (Few few e) is = absurd (cc (e, is))
exceeds_by words verb named (Many low many e) is = record { verb = verb; named = named; many = many }
exceeds_by words verb named (Bad low high bad e) is = absurd (cc (e, is))
exceeds_by words verb named (Good low high good command e) is = absurd (cc (e, is))

misreads_by : (words : List (List ℕ)) (verb : Verb) → Names words verb → (case : Case verb (behind verb words) (said verb (behind verb words))) → said verb (behind verb words) ≡ Err BadNumber → Misreads words
misreads_by words verb named (Few few e) is = absurd (cc (e, is))
misreads_by words verb named (Many low many e) is = absurd (cc (e, is))
misreads_by words verb named (Bad low high bad e) is = record { verb = verb; named = named; enough = low; room = high; bad = bad }
misreads_by words verb named (Good low high good command e) is = absurd (cc (e, is))

few_said : (verb : Verb) (words : List (List ℕ)) → Case verb words (said verb words) → length words < least verb → said verb words ≡ Err MissingWord
few_said verb words (Few few e) h = e
few_said verb words (Many low many e) h = absurd (omega arith)
few_said verb words (Bad low high bad e) h = absurd (omega arith)
few_said verb words (Good low high good command e) h = absurd (omega arith)

-- a command takes no fewer words than it needs
least_most : (verb : Verb) → least verb ≤ most verb
least_most Store = omega arith
least_most StoreDelete = omega arith
least_most StoreLimit = omega arith
least_most Region = omega arith
least_most RegionKey = omega arith
least_most OperatorShow = omega arith
least_most AddPeer = omega arith
least_most RemovePeer = omega arith
least_most TransferLeader = omega arith
least_most TransferPeer = omega arith
least_most OperatorRemove = omega arith
least_most OperatorCheck = omega arith
least_most SchedulerShow = omega arith
least_most SchedulerRemove = omega arith
least_most LeaderShow = omega arith
least_most LeaderResign = omega arith
least_most Tso = omega arith

many_said : (verb : Verb) (words : List (List ℕ)) → Case verb words (said verb words) → most verb < length words → said verb words ≡ Err ExtraWord
many_said verb words (Few few e) h = let order = least_most verb in absurd (omega arith)
many_said verb words (Many low many e) h = e
many_said verb words (Bad low high bad e) h = absurd (omega arith)
many_said verb words (Good low high good command e) h = absurd (omega arith)

bad_said : (verb : Verb) (words : List (List ℕ)) → Case verb words (said verb words) → least verb ≤ length words → length words ≤ most verb → misread (row verb).places words ≡ true → said verb words ≡ Err BadNumber
bad_said verb words (Few few e) low high bad = absurd (omega arith)
bad_said verb words (Many enough many e) low high bad = absurd (omega arith)
bad_said verb words (Bad enough room is e) low high bad = e
bad_said verb words (Good enough room good command e) low high bad = absurd (cc (bad, good))

pub missing_cause : (words : List (List ℕ)) → (command_by words ≡ Err MissingWord) ↔ Lacks words
missing_cause words = (there (verb_of words) refl, back)
  where
    there : (o : Option Verb) → verb_of words ≡ o → command_by words ≡ Err MissingWord → Lacks words
    there None e is = absurd (cc (none_is words MissingWord e is))
    there (Some verb) e is = lacks_by words verb (named_is words verb e) (case_of verb (behind verb words)) (sym (by_name words verb e) ∙ is)

    back : Lacks words → command_by words ≡ Err MissingWord
    back cause = by_name words cause.verb (is_named words cause.verb cause.named) ∙ few_said cause.verb (behind cause.verb words) (case_of cause.verb (behind cause.verb words)) cause.few

pub extra_cause : (words : List (List ℕ)) → (command_by words ≡ Err ExtraWord) ↔ Exceeds words
extra_cause words = (there (verb_of words) refl, back)
  where
    there : (o : Option Verb) → verb_of words ≡ o → command_by words ≡ Err ExtraWord → Exceeds words
    there None e is = absurd (cc (none_is words ExtraWord e is))
    there (Some verb) e is = exceeds_by words verb (named_is words verb e) (case_of verb (behind verb words)) (sym (by_name words verb e) ∙ is)

    back : Exceeds words → command_by words ≡ Err ExtraWord
    back cause = by_name words cause.verb (is_named words cause.verb cause.named) ∙ many_said cause.verb (behind cause.verb words) (case_of cause.verb (behind cause.verb words)) cause.many

pub bad_cause : (words : List (List ℕ)) → (command_by words ≡ Err BadNumber) ↔ Misreads words
bad_cause words = (there (verb_of words) refl, back)
  where
    there : (o : Option Verb) → verb_of words ≡ o → command_by words ≡ Err BadNumber → Misreads words
    there None e is = absurd (cc (none_is words BadNumber e is))
    there (Some verb) e is = misreads_by words verb (named_is words verb e) (case_of verb (behind verb words)) (sym (by_name words verb e) ∙ is)

    back : Misreads words → command_by words ≡ Err BadNumber
    back cause = by_name words cause.verb (is_named words cause.verb cause.named) ∙ bad_said cause.verb (behind cause.verb words) (case_of cause.verb (behind cause.verb words)) cause.enough cause.room cause.bad
