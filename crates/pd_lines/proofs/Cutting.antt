-- Words cut at a byte.
use Rattle.std.proofs.Common.{◌≡◌, ℕ, zero, suc, ◌+◌, ◌-◌, ◌<◌, ◌≤◌, List, [], ◌∷◌, ◌++◌, true, false, All, length, take, drop, get_or, nat_eq, None, refl, sym, ap, ◌∙◌, arith, length-drop, add-one}
use Rattle.std.specs.List.{list_all, slice_split}
use Rattle.std.specs.Str.{IsAscii, IsUtf8}
use Rattle.std.proofs.lemmas.Bool.Decides.{nat_tests}
use Rattle.std.proofs.lemmas.List.{take_all, take-append-drop}
use Rattle.std.proofs.lemmas.List.Elements.{All-more}
use Rattle.std.proofs.lemmas.List.Splits.{slice_split_at, slice_split_none, length-slice_split}
use Rattle.std.proofs.lemmas.Str.{IsUtf8-from_ascii}
use Rattle.std.proofs.Math.Seq.{drop-cons}
use Rattle.pd_types.proofs.Bools.{and_true}
use Rattle.pd_lines.specs.Labels.{label_by, label_of}
use Rattle.pd_lines.specs.Plain.{is_plain_byte}

-- plain characters are UTF-8
plain_low : (b : ℕ) → is_plain_byte b ≡ true → b < 128
plain_low b plain = grind (arith, nat_tests)

plain_ascii : (word : List ℕ) → list_all is_plain_byte word ≡ true → IsAscii word
plain_ascii [] e i = omega arith
plain_ascii (b ∷ bs) e zero = plain_low b (and_true (is_plain_byte b) (list_all is_plain_byte bs) e).0
plain_ascii (b ∷ bs) e (suc i) = plain_ascii bs (and_true (is_plain_byte b) (list_all is_plain_byte bs) e).1 i

pub plain_utf8 : (word : List ℕ) → list_all is_plain_byte word ≡ true → IsUtf8 word
plain_utf8 word e = IsUtf8-from_ascii word (plain_ascii word e)

-- a label with two `=` or more
more_parts : (key value : List ℕ) (parts : List (List ℕ)) → 0 < length parts → label_by (key ∷ value ∷ parts) ≡ None
more_parts key value [] some = absurd (omega (arith, some))
more_parts key value (part ∷ parts) some = refl

pub too_many_parts : (word key rest value more : List ℕ) → slice_split (λ b. nat_eq b 61) word ≡ key ∷ slice_split (λ b. nat_eq b 61) rest → slice_split (λ b. nat_eq b 61) rest ≡ value ∷ slice_split (λ b. nat_eq b 61) more → label_of word ≡ None
too_many_parts word key rest value more first second =
    ap label_by (first ∙ ap (λ (parts : List (List ℕ)). key ∷ parts) second) ∙ more_parts key value (slice_split (λ b. nat_eq b 61) more) (omega (arith, length-slice_split (λ b. nat_eq b 61) more))

-- the parts of a word
rest_is : (word : List ℕ) (i : ℕ) → take (length word - i) (drop i word) ≡ drop i word
rest_is word i = take_all _ _ (omega (arith, length-drop i word))

split_here : (word : List ℕ) (i : ℕ) → i < length word → word ≡ take i word ++ get_or word i 0 ∷ drop (suc i) word
split_here word i within = sym (take-append-drop i word) ∙ ap (λ (rest : List ℕ). take i word ++ rest) (drop-cons word i 0 within)

pub part_ends : (word : List ℕ) (byte i : ℕ) → i < length word → get_or word i 0 ≡ byte → All (λ b. nat_eq b byte ≡ false) (take i word)
    → slice_split (λ b. nat_eq b byte) word ≡ take i word ∷ slice_split (λ b. nat_eq b byte) (take (length word - (i + 1)) (drop (i + 1) word))
part_ends word byte i within here before =
    let hit : nat_eq (get_or word i 0) byte ≡ true = grind (arith, nat_tests, here) in
    rw (rest_is word (i + 1), add-one)
    (ap (slice_split (λ b. nat_eq b byte)) (split_here word i within) ∙ slice_split_at (λ b. nat_eq b byte) (take i word) (get_or word i 0) (drop (suc i) word) before hit)

pub part_goes_on : (word : List ℕ) (byte i : ℕ) → i < length word → (get_or word i 0 ≡ byte → ⊥) → All (λ b. nat_eq b byte ≡ false) (take i word) → All (λ b. nat_eq b byte ≡ false) (take (i + 1) word)
part_goes_on word byte i within other before = All-more (λ b. nat_eq b byte ≡ false) word i 0 within before (let miss : nat_eq (get_or word i 0) byte ≡ false = grind (arith, nat_tests, other) in miss)

pub part_is_all : (word : List ℕ) (byte i : ℕ) → length word ≤ i → All (λ b. nat_eq b byte ≡ false) (take i word) → slice_split (λ b. nat_eq b byte) word ≡ word ∷ []
part_is_all word byte i end before = slice_split_none (λ b. nat_eq b byte) word (rw (take_all i word end) at before)
