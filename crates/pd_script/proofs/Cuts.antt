-- One more byte of a word or of a line.
use Rattle.std.proofs.Common.{◌≡◌, ℕ, zero, suc, ◌+◌, ◌-◌, ◌<◌, ◌≤◌, List, [], ◌∷◌, ◌++◌, true, false, nat_eq, nat_lt, length, take, drop, get_or, refl, sym, ap, ◌∙◌, arith, length-drop, length-take, add-one}
use Rattle.std.specs.List.{filter}
use Rattle.std.proofs.lemmas.List.{take_more, take_all, drop_all}
use Rattle.std.proofs.lemmas.List.Sums.{position_or_len_is, prefix_len_is}
use Rattle.std.proofs.Math.Seq.{drop-cons}
use Rattle.std.proofs.lemmas.Bool.Decides.{nat_tests}
use Rattle.std.specs.List.{position_or_len, prefix_len}
use Rattle.pd_script.specs.Words.{from_space, from_word, is_space, pieces_from, words}
use Rattle.pd_lines.specs.Words.{is_word}

pub at_space : (piece rest : List ℕ) (b : ℕ) → b ≡ 32 → pieces_from piece (b ∷ rest) ≡ piece ∷ pieces_from [] rest
at_space piece rest b space = let e : nat_eq b 32 ≡ true = grind (arith, nat_tests) in rw e refl

pub past_byte : (piece rest : List ℕ) (b : ℕ) → (b ≡ 32 → ⊥) → pieces_from piece (b ∷ rest) ≡ pieces_from (piece ++ b ∷ []) rest
past_byte piece rest b other = let e : nat_eq b 32 ≡ false = grind (arith, nat_tests) in rw e refl

-- `line[i..]` is seen as all of what is left from i on
rest_is : (line : List ℕ) (i : ℕ) → take (length line - i) (drop i line) ≡ drop i line
rest_is line i = take_all _ _ (omega (arith, length-drop i line))

pub rest_from : (line : List ℕ) (i : ℕ) → words line ≡ words (drop i line) → words (take (length line - i) (drop i line)) ≡ words line
rest_from line i e = rw (rest_is line i) (sym e)

-- a space in front leaves the words
pub space_before : (rest : List ℕ) (b : ℕ) → b ≡ 32 → words (b ∷ rest) ≡ words rest
space_before rest b space = ap (λ (ps : List (List ℕ)). filter is_word ps) (at_space [] rest b space)

words_from_space : (line : List ℕ) (i : ℕ) → i < length line → get_or line i 0 ≡ 32 → words (drop i line) ≡ words (drop (i + 1) line)
words_from_space line i in_range space = rw (drop-cons line i 0, add-one) (space_before (drop (suc i) line) (get_or line i 0) space)

pub skip_one : (line : List ℕ) (i : ℕ) → i < length line → get_or line i 0 ≡ 32 → words line ≡ words (drop i line) → words line ≡ words (drop (i + 1) line)
skip_one line i in_range space e = e ∙ words_from_space line i in_range space

pub all_spaces : (line : List ℕ) (i : ℕ) → length line ≤ i → words line ≡ words (drop i line) → words [] ≡ words line
all_spaces line i end e = sym (e ∙ ap words (drop_all i line end))

pub piece_goes_on : (line : List ℕ) (i : ℕ) → i < length line → (get_or line i 0 ≡ 32 → ⊥) → pieces_from [] line ≡ pieces_from (take i line) (drop i line)
    → pieces_from [] line ≡ pieces_from (take (i + 1) line) (drop (i + 1) line)
piece_goes_on line i in_range other e =
    let cut = rw (drop-cons line i 0) at e in
    rw (take_more line i 0 in_range, add-one) (cut ∙ past_byte (take i line) (drop (suc i) line) (get_or line i 0) other)

-- a piece that isn't empty is a word
pub word_first : (piece : List ℕ) (ps : List (List ℕ)) → 0 < length piece → filter is_word (piece ∷ ps) ≡ piece ∷ filter is_word ps
word_first piece ps some = let e : nat_lt 0 (length piece) ≡ true = grind (arith, nat_tests) in rw e refl

not_first : (line : List ℕ) (i : ℕ) → get_or line i 0 ≡ 32 → (get_or line 0 0 ≡ 32 → ⊥) → 0 < i
not_first line zero space first = absurd (first space)
not_first line (suc i) space first = omega arith

pub word_ends : (line : List ℕ) (i : ℕ) → i < length line → get_or line i 0 ≡ 32 → (get_or line 0 0 ≡ 32 → ⊥) → pieces_from [] line ≡ pieces_from (take i line) (drop i line)
    → words line ≡ take i line ∷ words (take (length line - i) (drop i line))
word_ends line i in_range space first e =
    let some : 0 < i = not_first line i space first in
    let long : 0 < length (take i line) = omega (arith, length-take i line) in
    let cut = rw (drop-cons line i 0) at e in
    let pieces : pieces_from [] line ≡ take i line ∷ pieces_from [] (drop (suc i) line) = cut ∙ at_space (take i line) (drop (suc i) line) (get_or line i 0) space in
    let rest : words (drop i line) ≡ words (drop (suc i) line) = rw add-one at (words_from_space line i in_range space) in
    rw (rest_is line i, rest) (ap (λ (ps : List (List ℕ)). filter is_word ps) pieces ∙ word_first (take i line) (pieces_from [] (drop (suc i) line)) long)

pub word_is_all : (line : List ℕ) (i : ℕ) → 0 < length line → length line ≤ i → pieces_from [] line ≡ pieces_from (take i line) (drop i line) → words line ≡ line ∷ words []
word_is_all line i some end e =
    let whole : pieces_from [] line ≡ pieces_from line [] = rw (take_all i line end, drop_all i line end) at e in
    ap (λ (ps : List (List ℕ)). filter is_word ps) whole ∙ word_first line [] some

-- where a line's first byte that is no space is found, and its first space
pub space_is : (b : ℕ) → b ≡ 32 → is_space b ≡ true
space_is b space = grind (arith, nat_tests)

pub no_space_is : (b : ℕ) → (b ≡ 32 → ⊥) → is_space b ≡ false
no_space_is b other = grind (arith, nat_tests)

pub word_found : (line : List ℕ) (i : ℕ) → i < length line → (get_or line i 0 ≡ 32 → ⊥) → ((k : ℕ) → k < i → is_space (get_or line k 0) ≡ true)
    → take (length line - i) (drop i line) ≡ from_word line
word_found line i in_range other spaces =
    let at : prefix_len is_space line ≡ i = prefix_len_is is_space line i 0 (omega arith) spaces (λ low. no_space_is (get_or line i 0) other) in
    rw (rest_is line i, at) refl

pub no_word_found : (line : List ℕ) (i : ℕ) → length line ≤ i → ((k : ℕ) → k < i → is_space (get_or line k 0) ≡ true) → [] ≡ from_word line
no_word_found line i end spaces =
    let at : prefix_len is_space line ≡ length line = prefix_len_is is_space line (length line) 0 (omega arith) (λ k low. spaces k (omega arith)) (λ low. absurd (omega arith)) in
    rw (at) (sym (drop_all (length line) line (omega arith)))

pub space_found : (line : List ℕ) (i : ℕ) → i < length line → get_or line i 0 ≡ 32 → ((k : ℕ) → k < i → is_space (get_or line k 0) ≡ false)
    → take (length line - i) (drop i line) ≡ from_space line
space_found line i in_range space bytes =
    let at : position_or_len is_space line ≡ i = position_or_len_is is_space line i 0 (omega arith) bytes (λ low. space_is (get_or line i 0) space) in
    rw (rest_is line i, at) refl

pub no_space_found : (line : List ℕ) (i : ℕ) → length line ≤ i → ((k : ℕ) → k < i → is_space (get_or line k 0) ≡ false) → [] ≡ from_space line
no_space_found line i end bytes =
    let at : position_or_len is_space line ≡ length line = position_or_len_is is_space line (length line) 0 (omega arith) (λ k low. bytes k (omega arith)) (λ low. absurd (omega arith)) in
    rw (at) (sym (drop_all (length line) line (omega arith)))
