-- What was cut is the whole, and no part has the separator in it.
use Rattle.std.proofs.Common.{refl, ◌≡◌, ℕ, Some, Bool, true, false, nat_eq, cond, List, [], ◌∷◌, ◌++◌, ap, sym, ◌∙◌, append_assoc, append-nil, arith}
use Rattle.std.specs.List.{list_any, AllByRecursion}
use Rattle.std.proofs.lemmas.Bool.Decides.{nat_tests}
use Rattle.std.proofs.lemmas.List.Folds.{list_any-append}
use Rattle.pd_script.specs.Forms.{is_separator, items_from, items_of}
use Rattle.pd_script.specs.Joining.{joined_lines, joined_items, spaced}
use Rattle.pd_script.specs.Words.{last_line, lines_from, pieces_from, raw_lines}

is_byte : (a b : ℕ) → nat_eq b a ≡ true → b ≡ a
is_byte a b h = grind (arith, nat_tests)

more : (line bs : List ℕ) (b : ℕ) → (line ++ b ∷ []) ++ bs ≡ line ++ (b ∷ bs)
more line bs b = append_assoc line (b ∷ []) bs

last_joined : (line : List ℕ) → joined_lines (last_line line) ≡ line
last_joined [] = refl
last_joined (b ∷ bs) = append-nil (b ∷ bs)

lines_joined : (line bs : List ℕ) → joined_lines (lines_from line bs) ≡ line ++ bs
lines_joined line [] = last_joined line ∙ sym (append-nil line)
lines_joined line (b ∷ bs) = by (nat_eq b 10) refl (lines_joined [] bs) (lines_joined (line ++ b ∷ []) bs)
  where
    by : (test : Bool) → nat_eq b 10 ≡ test → joined_lines (lines_from [] bs) ≡ bs → joined_lines (lines_from (line ++ b ∷ []) bs) ≡ (line ++ b ∷ []) ++ bs
        → joined_lines (cond test (record { bytes = line; ended = true } ∷ lines_from [] bs) (lines_from (line ++ b ∷ []) bs)) ≡ line ++ (b ∷ bs)
    by true is here deep = ap (λ rest. (line ++ 10 ∷ []) ++ rest) here ∙ more line bs 10 ∙ ap (λ x. line ++ (x ∷ bs)) (sym (is_byte 10 b is))
    by false is here deep = deep ∙ more line bs b

pub lines_are_the_text : (text : List ℕ) → joined_lines (raw_lines text) ≡ text
lines_are_the_text text = lines_joined [] text

items_joined : (item bs : List ℕ) → joined_items (items_from item bs) ≡ item ++ bs
items_joined item [] = append-nil (item ++ [])
items_joined item (b ∷ bs) = by (is_separator b) (items_joined [] bs) (items_joined (item ++ b ∷ []) bs)
  where
    by : (test : Bool) → joined_items (items_from [] bs) ≡ bs → joined_items (items_from (item ++ b ∷ []) bs) ≡ (item ++ b ∷ []) ++ bs
        → joined_items (cond test (record { text = item; behind = Some b } ∷ items_from [] bs) (items_from (item ++ b ∷ []) bs)) ≡ item ++ (b ∷ bs)
    by true here deep = ap (λ rest. (item ++ b ∷ []) ++ rest) here ∙ more item bs b
    by false here deep = deep ∙ more item bs b

pub items_are_the_word : (word : List ℕ) → joined_items (items_of word) ≡ word
items_are_the_word word = items_joined [] word

spaced_more : (piece : List ℕ) (first : List ℕ) (rest : List (List ℕ)) → spaced (piece ∷ first ∷ rest) ≡ piece ++ 32 ∷ spaced (first ∷ rest)
spaced_more piece first rest = refl

-- the pieces of bytes are at least one
some_pieces : (piece bs : List ℕ) → (first : List ℕ) × (rest : List (List ℕ)) × (pieces_from piece bs ≡ first ∷ rest)
some_pieces piece [] = (piece, [], refl)
some_pieces piece (b ∷ bs) = by (nat_eq b 32) (some_pieces (piece ++ b ∷ []) bs)
  where
    by : (test : Bool) → ((first : List ℕ) × (rest : List (List ℕ)) × (pieces_from (piece ++ b ∷ []) bs ≡ first ∷ rest))
        → (first : List ℕ) × (rest : List (List ℕ)) × (cond test (piece ∷ pieces_from [] bs) (pieces_from (piece ++ b ∷ []) bs) ≡ first ∷ rest)
    by true deep = (piece, pieces_from [] bs, refl)
    by false deep = deep

pieces_spaced : (piece bs : List ℕ) → spaced (pieces_from piece bs) ≡ piece ++ bs
pieces_spaced piece [] = sym (append-nil piece)
pieces_spaced piece (b ∷ bs) = by (nat_eq b 32) refl (pieces_spaced [] bs) (pieces_spaced (piece ++ b ∷ []) bs)
  where
    front : spaced (piece ∷ pieces_from [] bs) ≡ piece ++ 32 ∷ spaced (pieces_from [] bs)
    front = let one = some_pieces [] bs in rw one.2 (spaced_more piece one.0 one.1)

    by : (test : Bool) → nat_eq b 32 ≡ test → spaced (pieces_from [] bs) ≡ bs → spaced (pieces_from (piece ++ b ∷ []) bs) ≡ (piece ++ b ∷ []) ++ bs
        → spaced (cond test (piece ∷ pieces_from [] bs) (pieces_from (piece ++ b ∷ []) bs)) ≡ piece ++ (b ∷ bs)
    by true is here deep = front ∙ ap (λ rest. piece ++ 32 ∷ rest) here ∙ ap (λ x. piece ++ (x ∷ bs)) (sym (is_byte 32 b is))
    by false is here deep = deep ∙ more piece bs b

pub pieces_are_the_line : (line : List ℕ) → spaced (pieces_from [] line) ≡ line
pieces_are_the_line line = pieces_spaced [] line

-- the bytes have none of this one
abbrev LacksByte : ℕ → List ℕ → Type 0
LacksByte byte bytes = list_any (λ b. nat_eq b byte) bytes ≡ false

lacks_more : (byte : ℕ) (front : List ℕ) (b : ℕ) → LacksByte byte front → nat_eq b byte ≡ false → LacksByte byte (front ++ b ∷ [])
lacks_more byte front b none other = list_any-append (λ c. nat_eq c byte) front (b ∷ []) ∙ rw (none, other) refl

pub lines_lack_line_feeds : (line bs : List ℕ) → LacksByte 10 line → AllByRecursion (λ raw. LacksByte 10 raw.bytes) (lines_from line bs)
lines_lack_line_feeds [] [] none = tt
lines_lack_line_feeds (b ∷ line) [] none = (none, tt)
lines_lack_line_feeds line (b ∷ bs) none = by (nat_eq b 10) refl (lines_lack_line_feeds [] bs refl) (lines_lack_line_feeds (line ++ b ∷ []) bs)
  where
    by : (test : Bool) → nat_eq b 10 ≡ test → AllByRecursion (λ raw. LacksByte 10 raw.bytes) (lines_from [] bs)
        → (LacksByte 10 (line ++ b ∷ []) → AllByRecursion (λ raw. LacksByte 10 raw.bytes) (lines_from (line ++ b ∷ []) bs))
        → AllByRecursion (λ raw. LacksByte 10 raw.bytes) (cond test (record { bytes = line; ended = true } ∷ lines_from [] bs) (lines_from (line ++ b ∷ []) bs))
    by true is here deep = (none, here)
    by false is here deep = deep (lacks_more 10 line b none is)

pub pieces_lack_spaces : (piece bs : List ℕ) → LacksByte 32 piece → AllByRecursion (LacksByte 32) (pieces_from piece bs)
pieces_lack_spaces piece [] none = (none, tt)
pieces_lack_spaces piece (b ∷ bs) none = by (nat_eq b 32) refl (pieces_lack_spaces [] bs refl) (pieces_lack_spaces (piece ++ b ∷ []) bs)
  where
    by : (test : Bool) → nat_eq b 32 ≡ test → AllByRecursion (LacksByte 32) (pieces_from [] bs)
        → (LacksByte 32 (piece ++ b ∷ []) → AllByRecursion (LacksByte 32) (pieces_from (piece ++ b ∷ []) bs))
        → AllByRecursion (LacksByte 32) (cond test (piece ∷ pieces_from [] bs) (pieces_from (piece ++ b ∷ []) bs))
    by true is here deep = (none, here)
    by false is here deep = deep (lacks_more 32 piece b none is)
