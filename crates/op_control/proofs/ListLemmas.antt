-- Rising lists of ids: one id less, and one more.
use Rattle.std.proofs.Common.{◌≡◌, ◌==◌, ℕ, ◌<◌, Bool, true, false, cond, ◌||◌, not, List, [], ◌∷◌, refl, sym, ap, ◌∙◌, ⊎_elim, eqb, arith}
use Rattle.std.proofs.lemmas.Bool.{cases_eq, cases_lt, eq-eqb, ne_eqb, lt-ltb, le-ltb, false≢true}
use Rattle.std.specs.List.{list_any}
use Rattle.op_control.specs.Table.{AreRising, IsAbove, joined, without}

above-trans : (a b : ℕ) (xs : List ℕ) → a < b → IsAbove b xs → IsAbove a xs
above-trans a b [] less above = tt
above-trans a b (x ∷ xs) less above = let first = above.0 in (omega arith, above-trans a b xs less above.1)

cond-above : (b : Bool) (a x : ℕ) (xs : List ℕ) → a < x → IsAbove a xs → IsAbove a (cond b (x ∷ xs) xs)
cond-above true a x xs less above = (less, above)
cond-above false a x xs less above = above

above-without : (a r : ℕ) (xs : List ℕ) → IsAbove a xs → IsAbove a (without r xs)
above-without a r [] above = tt
above-without a r (x ∷ xs) above = cond-above (not (eqb x r)) a x (without r xs) above.0 (above-without a r xs above.1)

cond-rising : (b : Bool) (x : ℕ) (xs : List ℕ) → IsAbove x xs → AreRising xs → AreRising (cond b (x ∷ xs) xs)
cond-rising true x xs above rising = (above, rising)
cond-rising false x xs above rising = rising

pub rising-without : (r : ℕ) (xs : List ℕ) → AreRising xs → AreRising (without r xs)
rising-without r [] rising = tt
rising-without r (x ∷ xs) rising = cond-rising (not (eqb x r)) x (without r xs) (above-without x r xs rising.0) (rising-without r xs rising.1)

-- the head of the list with the id taken out
any-head : (x r q : ℕ) (rest kept : Bool) → kept ≡ cond (eqb q r) false rest → cond (not (eqb x r)) (eqb x q || kept) kept ≡ cond (eqb q r) false (eqb x q || rest)
any-head x r q rest kept e =
    ⊎_elim
    (λ same. ⊎_elim
    (λ here. rw (eq-eqb x r same, eq-eqb q r here) (e ∙ rw (eq-eqb q r here) refl))
    (λ other. rw (eq-eqb x r same, ne_eqb q r other, ne_eqb x q (λ at. other (sym at ∙ same))) (e ∙ rw (ne_eqb q r other) refl))
    (cases_eq q r))
    (λ apart. ⊎_elim
    (λ here. rw (ne_eqb x r apart, eq-eqb q r here, ne_eqb x q (λ at. apart (at ∙ here))) (e ∙ rw (eq-eqb q r here) refl))
    (λ other. rw (ne_eqb x r apart, ne_eqb q r other) (ap (λ b. eqb x q || b) (e ∙ rw (ne_eqb q r other) refl)))
    (cases_eq q r))
    (cases_eq x r)

any-cond : (b : Bool) (q x : ℕ) (xs : List ℕ) → list_any (λ one. one == q) (cond b (x ∷ xs) xs) ≡ cond b (eqb x q || list_any (λ one. one == q) xs) (list_any (λ one. one == q) xs)
any-cond true q x xs = refl
any-cond false q x xs = refl

same-or-none : (b : Bool) → false ≡ cond b false false
same-or-none true = refl
same-or-none false = refl

-- an id is listed without another one where it was, and isn't that one
pub any-without : (r q : ℕ) (xs : List ℕ) → list_any (λ one. one == q) (without r xs) ≡ cond (eqb q r) false (list_any (λ one. one == q) xs)
any-without r q [] = same-or-none (eqb q r)
any-without r q (x ∷ xs) = any-cond (not (eqb x r)) q x (without r xs) ∙ any-head x r q _ _ (any-without r q xs)

or-false : (a b : Bool) → (a || b) ≡ false → (a ≡ false) × (b ≡ false)
or-false true b e = absurd (false≢true (sym e))
or-false false b e = (refl, e)

above-joined : (a r : ℕ) (xs : List ℕ) → a < r → IsAbove a xs → IsAbove a (joined r xs)
above-joined a r [] less above = (less, tt)
above-joined a r (x ∷ xs) less above =
    ⊎_elim
    (λ before. rw (lt-ltb r x before) (less, (above.0, above.1)))
    (λ behind. rw (le-ltb r x behind) (above.0, above-joined a r xs less above.1))
    (cases_lt r x)

pub rising-joined : (r : ℕ) (xs : List ℕ) → AreRising xs → list_any (λ one. one == r) xs ≡ false → AreRising (joined r xs)
rising-joined r [] rising absent = (tt, tt)
rising-joined r (x ∷ xs) rising absent =
    let parts = or-false (eqb x r) (list_any (λ one. one == r) xs) absent in
    ⊎_elim
    (λ before. rw (lt-ltb r x before) ((before, above-trans r x xs before rising.0), rising))
    (λ behind. rw (le-ltb r x behind) (above-joined x r xs (⊎_elim (λ same. absurd (false≢true (sym parts.0 ∙ eq-eqb x r same))) (λ apart. grind arith) (cases_eq x r)) rising.0, rising-joined r xs rising.1 parts.1))
    (cases_lt r x)

swap-or : (a b c : Bool) → (a || (b || c)) ≡ (b || (a || c))
swap-or true true c = refl
swap-or true false c = refl
swap-or false b c = refl

-- an id is listed with another one where it is that one, or was listed
pub any-joined : (r q : ℕ) (xs : List ℕ) → list_any (λ one. one == q) (joined r xs) ≡ (eqb r q || list_any (λ one. one == q) xs)
any-joined r q [] = refl
any-joined r q (x ∷ xs) =
    ⊎_elim
    (λ before. rw (lt-ltb r x before) refl)
    (λ behind. rw (le-ltb r x behind) (ap (λ b. eqb x q || b) (any-joined r q xs) ∙ swap-or (eqb x q) (eqb r q) (list_any (λ one. one == q) xs)))
    (cases_lt r x)

-- taking out an id that isn't listed changes nothing
without-absent : (r : ℕ) (xs : List ℕ) → list_any (λ one. one == r) xs ≡ false → without r xs ≡ xs
without-absent r [] absent = refl
without-absent r (x ∷ xs) absent =
    let parts = or-false (eqb x r) (list_any (λ one. one == r) xs) absent in
    ap (λ b. cond (not b) (x ∷ without r xs) (without r xs)) parts.0 ∙ ap (λ ys. x ∷ ys) (without-absent r xs parts.1)

-- taking out what was just put in
pub without-joined : (r : ℕ) (xs : List ℕ) → list_any (λ one. one == r) xs ≡ false → without r (joined r xs) ≡ xs
without-joined r [] absent = ap (λ b. cond (not b) (r ∷ []) []) (eq-eqb r r refl)
without-joined r (x ∷ xs) absent =
    let parts = or-false (eqb x r) (list_any (λ one. one == r) xs) absent in
    ⊎_elim
    (λ before. rw (lt-ltb r x before) (ap (λ b. cond (not b) (r ∷ without r (x ∷ xs)) (without r (x ∷ xs))) (eq-eqb r r refl) ∙ without-absent r (x ∷ xs) absent))
    (λ behind. rw (le-ltb r x behind) (ap (λ b. cond (not b) (x ∷ without r (joined r xs)) (without r (joined r xs))) parts.0 ∙ ap (λ ys. x ∷ ys) (without-joined r xs parts.1)))
    (cases_lt r x)
