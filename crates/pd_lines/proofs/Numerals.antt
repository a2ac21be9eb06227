-- A number's spelling, by its digits.
use Rattle.std.proofs.Common.{Bool, true, false, ◌&&◌, nat_lt, cond, zero, suc, Option, Some, None, IfSome, IfNone, ◌≡◌, ℕ, ◌+◌, ◌*◌, ◌^◌, ◌<◌, ◌≤◌, List, [], ◌∷◌, length, take, refl, sym, subst, get_or, arith}
use Rattle.std.specs.Char.{digit_value}
use Rattle.std.specs.Str.{bytes_eq}
use Rattle.std.proofs.lemmas.Slice.Eq.{bytes_eq-Decides}
use Rattle.std.proofs.lemmas.Bool.Decides.{nat_tests}
use Rattle.std.specs.Fmt.{decimal}
use Rattle.std.specs.Str.Parse.{AllDigits, digits_value}
use Rattle.std.proofs.lemmas.Fmt.{decimal_is_IsNumeral, decimal-digits_value, decimal_nonempty, first_decimal, decimal_digit}
use Rattle.std.proofs.lemmas.Str.Parse.{IsNumeralModel, numerals_by_value, tells_digits, digits_value-take-le}
use Rattle.std.proofs.lemmas.Int.Digits.{digits_more, digits_value_more}
use Rattle.pd_lines.specs.Numeral.{IsNumeral, number_of}

own : IsNumeralModel (AllDigits 10) (digits_value 10)
own = numerals_by_value (AllDigits 10) tells_digits

-- digits with no leading zero spell their value
pub spells_value : (word : List ℕ) (n : ℕ) → AllDigits 10 word → 0 < length word → (get_or word 0 0 ≡ 48 → length word ≡ 1) → n ≡ digits_value 10 word → n < 2 ^ 64 → IsNumeral word n
spells_value word n digits some lead value small = let small' : digits_value 10 word < 2 ^ 64 = omega arith in
    (small, rw value (sym (decimal-digits_value own word digits some lead small')))

pub not_empty : (word : List ℕ) (n : ℕ) → IsNumeral word n → 0 < length word
not_empty word n h = rw h.1 (decimal_nonempty n h.0)

zero_alone : (n : ℕ) → n < 2 ^ 64 → get_or (decimal n) 0 0 ≡ 48 → length (decimal n) ≡ 1
zero_alone zero small e = rw (decimal_digit 0 (omega arith)) refl
zero_alone (suc n) small e = let above : 48 < get_or (decimal (suc n)) 0 0 = first_decimal (suc n) (omega arith) small in absurd (omega arith)

pub no_leading_zero : (word : List ℕ) (n : ℕ) → IsNumeral word n → get_or word 0 0 ≡ 48 → length word ≡ 1
no_leading_zero word n h first = rw h.1 (zero_alone n h.0 (rw h.1 at first))

pub has_digits : (word : List ℕ) (n : ℕ) → IsNumeral word n → AllDigits 10 word
has_digits word n h = subst (AllDigits 10) (sym h.1) (decimal_is_IsNumeral n h.0).0.1

pub has_value : (word : List ℕ) (n : ℕ) → IsNumeral word n → digits_value 10 word ≡ n
has_value word n h = rw h.1 (decimal_is_IsNumeral n h.0).1

digit_in : (ds : List ℕ) (i : ℕ) → AllDigits 10 ds → i < length ds → digit_value (get_or ds i 0) < 10
digit_in [] i all in_range = absurd (omega arith)
digit_in (d ∷ ds) zero all in_range = all.0
digit_in (d ∷ ds) (suc i) all in_range = digit_in ds i all.1 (omega arith)

-- where a byte is no digit, or makes the number too large, the whole is no digits or too large
pub stops : (word : List ℕ) (i value : ℕ) → i < length word → value ≡ digits_value 10 (take i word)
    → ((digit_value (get_or word i 0) < 10) × (value * 10 + digit_value (get_or word i 0) < 2 ^ 64) → ⊥)
    → AllDigits 10 word → 2 ^ 64 ≤ digits_value 10 word
stops word i value in_range is too_much all =
    let more : digits_value 10 (take (i + 1) word) ≡ digits_value 10 (take i word) * 10 + digit_value (get_or word i 0) = digits_value_more 10 word i in_range in
    let part : digits_value 10 (take (i + 1) word) ≤ digits_value 10 word = digits_value-take-le 10 word (i + 1) (omega arith) in
    let digit : digit_value (get_or word i 0) < 10 = digit_in word i all in_range in
    let large : (value * 10 + digit_value (get_or word i 0) < 2 ^ 64) → ⊥ = λ h. too_much (digit, h) in
    omega arith

pub goes_on : (word : List ℕ) (i value next : ℕ) → i < length word → AllDigits 10 (take i word) → value ≡ digits_value 10 (take i word)
    → digit_value (get_or word i 0) < 10 → next ≡ value * 10 + digit_value (get_or word i 0)
    → AllDigits 10 (take (i + 1) word) × (next ≡ digits_value 10 (take (i + 1) word))
goes_on word i value next in_range all is digit next_is = (
  digits_more 10 word i in_range all digit,
  let more : digits_value 10 (take (i + 1) word) ≡ digits_value 10 (take i word) * 10 + digit_value (get_or word i 0) = digits_value_more 10 word i in_range in omega arith,
)

pub zero_word : (word : List ℕ) → length word ≡ 1 → get_or word 0 0 ≡ 48 → IsNumeral word 0
zero_word [] one first = absurd (omega arith)
zero_word (b ∷ []) one first = (omega arith, rw (first, decimal_digit 0 (omega arith)) refl)
zero_word (b ∷ c ∷ bs) one first = absurd (omega arith)

-- what is known of a word whose first byte isn't 0, by its value
pub number_some : (word : List ℕ) (r : Option ℕ) → 0 < length word → (get_or word 0 0 ≡ 48 → ⊥) → IfSome r (λ n. AllDigits 10 word × (n ≡ digits_value 10 word) × (n < 2 ^ 64)) → IfSome r (λ n. IsNumeral word n)
number_some word None some lead h = tt
number_some word (Some n) some lead h = spells_value word n h.0 some (λ e. absurd (lead e)) h.1 h.2

pub number_none : (word : List ℕ) (r : Option ℕ) → IfNone r (AllDigits 10 word → 2 ^ 64 ≤ digits_value 10 word) → IfNone r ((n : ℕ) → IsNumeral word n → ⊥)
number_none word None h = λ n is. let large : 2 ^ 64 ≤ digits_value 10 word = h (has_digits word n is) in let same : digits_value 10 word ≡ n = has_value word n is in let below : n < 2 ^ 64 = is.0 in omega arith
number_none word (Some n) h = tt

number_is_some : (word : List ℕ) (n : ℕ) → IsNumeral word n → number_of word ≡ Some n
unfolding number_of
number_is_some word n is =
    let value : digits_value 10 word ≡ n = has_value word n is in
    let same : bytes_eq word (decimal n) ≡ true = (bytes_eq-Decides word (decimal n)).1 is.1 in
    let small : nat_lt n (2 ^ 64) ≡ true = grind (arith, nat_tests, is.0) in
    rw (value, same, small) refl

both_pass : (a b : Bool) (x n : ℕ) → cond (a && b) (Some x) None ≡ Some n → (a ≡ true) × (b ≡ true) × (x ≡ n)
both_pass true true x n h = (refl, refl, cc)
both_pass true false x n h = cc
both_pass false b x n h = cc

number_was_some : (word : List ℕ) (n : ℕ) → number_of word ≡ Some n → IsNumeral word n
unfolding number_of
number_was_some word n h =
    let passed : (bytes_eq word (decimal (digits_value 10 word)) ≡ true) × (nat_lt (digits_value 10 word) (2 ^ 64) ≡ true) × (digits_value 10 word ≡ n) = both_pass _ _ _ _ h in
    let same : word ≡ decimal (digits_value 10 word) = (bytes_eq-Decides word (decimal (digits_value 10 word))).0 passed.0 in
    let value : digits_value 10 word ≡ n = passed.2 in
    (grind (arith, nat_tests, passed.1, value), rw value at same)

pub number_law : (word : List ℕ) (n : ℕ) → (number_of word ≡ Some n → IsNumeral word n) × (IsNumeral word n → number_of word ≡ Some n)
number_law word n = (number_was_some word n, number_is_some word n)

none_or_some : (word : List ℕ) (o : Option ℕ) → o ≡ number_of word → ((n : ℕ) → IsNumeral word n → ⊥) → None ≡ o
none_or_some word None e never = refl
none_or_some word (Some n) e never = absurd (never n (number_was_some word n (sym e)))

pub number_is : (word : List ℕ) (r : Option ℕ) → IfSome r (λ n. IsNumeral word n) → IfNone r ((n : ℕ) → IsNumeral word n → ⊥) → r ≡ number_of word
number_is word None a b = none_or_some word (number_of word) refl b
number_is word (Some n) a b = sym (number_is_some word n a)
