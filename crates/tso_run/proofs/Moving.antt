-- A list that is taken apart, one after the other.
use Rattle.std.proofs.Common.{◌≡◌, List, [], ◌∷◌, ◌++◌, sym, ap, ◌∙◌, subst, append_assoc}
use Rattle.std.specs.Prelude.{map, All}
use Rattle.std.proofs.lemmas.List.Elements.{All-cons}

-- one more was moved over
pub moved_one : {A B : Type 0} (f : A → B) (before rest : List A) (w : A) (done new whole : List B) (x : B) → before ≡ w ∷ rest → new ≡ done ++ x ∷ [] → x ≡ f w → done ++ map f before ≡ whole → new ++ map f rest ≡ whole
moved_one f before rest w done new whole x is more same so_far =
    (λ i. more i ++ map f rest) ∙ append_assoc done (x ∷ []) (map f rest) ∙ (λ i. done ++ same i ∷ map f rest) ∙ ap (λ l. done ++ map f l) (sym is) ∙ so_far

-- one more is so
pub one_more : {A : Type 0} (P : A → Type 0) (before rest : List A) (w : A) → before ≡ w ∷ rest → P w → All P rest → All P before
one_more P before rest w is one all = subst (All P) (sym is) (All-cons P w rest one all)
