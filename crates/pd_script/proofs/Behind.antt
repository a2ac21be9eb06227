-- What stands behind the first word of a line has the other words.
use Rattle.std.proofs.Common.{◌≡◌, ◌<◌, ℕ, ◌+◌, suc, List, [], ◌∷◌, ◌++◌, Bool, true, false, length, drop, refl, sym, ap, ◌∙◌, arith, length-append}
use Rattle.std.specs.List.{filter, position_or_len, prefix_len}
use Rattle.std.proofs.lemmas.Bool.Decides.{nat_tests}
use Rattle.pd_script.specs.Words.{behind_word, from_space, from_word, is_space, pieces_from, words}
use Rattle.pd_lines.specs.Words.{is_word}
use Rattle.pd_script.proofs.Cuts.{at_space, past_byte, space_before, word_first}

is_32 : (b : ℕ) → is_space b ≡ true → b ≡ 32
is_32 b space = grind (arith, nat_tests)

not_32 : (b : ℕ) → is_space b ≡ false → b ≡ 32 → ⊥
not_32 b other is = grind (arith, nat_tests)

one_more : (n b : ℕ) (bs : List ℕ) → drop (1 + n) (b ∷ bs) ≡ drop n bs
one_more n b bs = let e : 1 + n ≡ suc n = omega arith in rw e refl

space_stays : (b : ℕ) (bs : List ℕ) → is_space b ≡ true → from_space (b ∷ bs) ≡ b ∷ bs
space_stays b bs space = rw space refl

byte_goes : (b : ℕ) (bs : List ℕ) → is_space b ≡ false → from_space (b ∷ bs) ≡ from_space bs
byte_goes b bs other = rw other (one_more (position_or_len is_space bs) b bs)

space_goes : (b : ℕ) (bs : List ℕ) → is_space b ≡ true → from_word (b ∷ bs) ≡ from_word bs
space_goes b bs space = rw space (one_more (prefix_len is_space bs) b bs)

byte_stays : (b : ℕ) (bs : List ℕ) → is_space b ≡ false → from_word (b ∷ bs) ≡ b ∷ bs
byte_stays b bs other = rw other refl

others : (piece bytes : List ℕ) → 0 < length piece → words (from_space bytes) ≡ drop 1 (filter is_word (pieces_from piece bytes))
others piece [] some = ap (drop 1) (sym (word_first piece [] some))
others piece (b ∷ bs) some = by (is_space b) refl (others (piece ++ b ∷ []) bs (omega (arith, length-append piece (b ∷ []))))
  where
    by : (test : Bool) → is_space b ≡ test → words (from_space bs) ≡ drop 1 (filter is_word (pieces_from (piece ++ b ∷ []) bs)) → words (from_space (b ∷ bs)) ≡ drop 1 (filter is_word (pieces_from piece (b ∷ bs)))
    by true is deep = ap words (space_stays b bs is) ∙ space_before bs b (is_32 b is)
        ∙ ap (drop 1) (sym (ap (filter is_word) (at_space piece bs b (is_32 b is)) ∙ word_first piece (pieces_from [] bs) some))
    by false is deep = ap words (byte_goes b bs is) ∙ deep ∙ ap (λ (ps : List (List ℕ)). drop 1 (filter is_word ps)) (sym (past_byte piece bs b (not_32 b is)))

pub behind_has_the_others : (line : List ℕ) → words (behind_word line) ≡ drop 1 (words line)
behind_has_the_others [] = refl
behind_has_the_others (b ∷ bs) = by (is_space b) refl (behind_has_the_others bs)
  where
    by : (test : Bool) → is_space b ≡ test → words (behind_word bs) ≡ drop 1 (words bs) → words (behind_word (b ∷ bs)) ≡ drop 1 (words (b ∷ bs))
    by true is deep = ap (λ (l : List ℕ). words (from_space l)) (space_goes b bs is) ∙ deep ∙ ap (drop 1) (sym (space_before bs b (is_32 b is)))
    by false is deep = ap (λ (l : List ℕ). words (from_space l)) (byte_stays b bs is) ∙ ap words (byte_goes b bs is) ∙ others (b ∷ []) bs (omega arith)
        ∙ ap (λ (ps : List (List ℕ)). drop 1 (filter is_word ps)) (sym (past_byte [] bs b (not_32 b is)))
