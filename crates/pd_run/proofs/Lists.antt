-- Lists that grow by one.
use Rattle.std.proofs.Common.{◌≡◌, ℕ, ◌<◌, List, [], ◌∷◌, ◌++◌, ◌+◌, get_or, length, map, take, refl, sym, ap, ◌∙◌, arith, subst, append_assoc}
use Rattle.std.specs.List.{AllZip}
use Rattle.std.specs.Prelude.{All}
use Rattle.std.proofs.lemmas.List.Elements.{All-head}
use Rattle.std.proofs.lemmas.List.{append-nil, map-append, take_more}

-- the first of a list, or this where there is none
abbrev pub head_or : {A : Type 0} → A → List A → A
head_or d [] = d
head_or d (x ∷ xs) = x

-- those behind the first
abbrev pub rest_of : {A : Type 0} → List A → List A
rest_of [] = []
rest_of (x ∷ xs) = xs

-- one more was mapped
pub mapped_more : {A B : Type 0} (f : A → B) (xs : List A) (i : ℕ) (d : A) (old new : List B) (y : B) → i < length xs → old ≡ map f (take i xs) → new ≡ old ++ y ∷ [] → y ≡ f (get_or xs i d) → new ≡ map f (take (i + 1) xs)
mapped_more f xs i d old new y lt before more is =
    more ∙ (λ k. before k ++ is k ∷ []) ∙ sym (map-append f (take i xs) (get_or xs i d ∷ [])) ∙ sym (ap (map f) (take_more xs i d lt))

-- of a list that is taken apart, one more was mapped
pub moved_more : {A B : Type 0} (f : A → B) (x : A) (left rest : List A) (old new whole : List B) (y : B) → left ≡ x ∷ rest → new ≡ old ++ y ∷ [] → y ≡ f x → old ++ map f left ≡ whole → new ++ map f rest ≡ whole
moved_more f x left rest old new whole y is more same so_far =
    (λ i. more i ++ map f rest) ∙ append_assoc old (y ∷ []) (map f rest) ∙ (λ i. old ++ same i ∷ map f rest) ∙ ap (λ l. old ++ map f l) (sym is) ∙ so_far

-- two lists side by side, of which the one is done so far and the other is what is left of the whole
pub record Beside {A B : Type 0} (R : A → B → Type 0) (whole left : List A) (made : List B) : Type 0 where
  pub done : List A
  pub parts : done ++ left ≡ whole
  pub pairs : AllZip R done made

pub zip_push : {A B : Type 0} (R : A → B → Type 0) (xs : List A) (ys : List B) (x : A) (y : B) → AllZip R xs ys → R x y → AllZip R (xs ++ x ∷ []) (ys ++ y ∷ [])
zip_push R [] [] x y h one = (one, tt)
zip_push R [] (z ∷ ys) x y h one = absurd h
zip_push R (z ∷ xs) [] x y h one = absurd h
zip_push R (z ∷ xs) (w ∷ ys) x y h one = (h.0, zip_push R xs ys x y h.1 one)

pub beside_none : {A B : Type 0} (R : A → B → Type 0) (whole left : List A) (made : List B) → left ≡ whole → made ≡ [] → Beside R whole left made
beside_none R whole left made is none = record { done = []; parts = is; pairs = subst (AllZip R []) (sym none) tt }

pub beside_more : {A B : Type 0} (R : A → B → Type 0) (whole left rest : List A) (old new : List B) (x : A) (y : B) → Beside R whole left old → left ≡ x ∷ rest → new ≡ old ++ y ∷ [] → R x y → Beside R whole rest new
beside_more R whole left rest old new x y h is more one = record {
  done = h.done ++ x ∷ [];
  parts = append_assoc h.done (x ∷ []) rest ∙ ap (λ l. h.done ++ l) (sym is) ∙ h.parts;
  pairs = subst (AllZip R (h.done ++ x ∷ [])) (sym more) (zip_push R h.done old x y h.pairs one);
}

-- where nothing is left, all is done
pub beside_all : {A B : Type 0} (R : A → B → Type 0) (whole left : List A) (made : List B) → Beside R whole left made → left ≡ [] → AllZip R whole made
beside_all R whole left made h none = subst (λ l. AllZip R l made) (sym (append-nil h.done) ∙ ap (λ l. h.done ++ l) (sym none) ∙ h.parts) h.pairs

-- what is true of all is true of the first
pub first_is : {A : Type 0} (P : A → Type 0) (x : A) (left rest : List A) → left ≡ x ∷ rest → All P left → P x
first_is P x left rest is all = All-head P x rest (subst (All P) is all)

-- a list without length has nothing
pub none_of : {A : Type 0} (xs : List A) → length xs ≡ 0 → xs ≡ []
none_of [] h = refl
none_of (x ∷ xs) h = absurd (omega (arith, h))

-- where nothing is left, what was made is all
pub made_all : {A B : Type 0} (f : A → B) (made whole : List B) (rest : List A) → rest ≡ [] → made ++ map f rest ≡ whole → made ≡ whole
made_all f made whole rest none is = sym (append-nil made) ∙ ap (λ r. made ++ map f r) (sym none) ∙ is
