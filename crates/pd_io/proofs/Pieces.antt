-- A piece given from the front, and what is left behind it.
use Rattle.std.proofs.Common.{◌≡◌, ℕ, ◌+◌, ◌<◌, min, List, [], ◌++◌, length, take, drop, sym, arith, length-drop}
use Rattle.std.proofs.lemmas.List.{take-append-drop, drop-drop, drop_all}

-- the piece is the front, and nothing is left where it is empty though there was room
pub gives_front : (xs buf : List ℕ) (at n most : ℕ) → n ≡ min (min (length (drop at xs)) (length buf)) most → 0 < most → take n buf ≡ take n (drop at xs)
    → (drop at xs ≡ take n buf ++ drop (at + n) xs) × (n ≡ 0 → 0 < length buf → drop (at + n) xs ≡ [])
gives_front xs buf at n most count some front = (
  sym (rw (front, ← drop-drop n at xs) (take-append-drop n (drop at xs))),
  λ none room. drop_all (at + n) xs (omega (arith, length-drop at xs)),
)
