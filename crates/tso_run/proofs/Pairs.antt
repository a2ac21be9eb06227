-- Two lists in pairs, one after another.
use Rattle.std.proofs.Common.{◌++◌, List, [], ◌∷◌}
use Rattle.std.specs.List.{AllZip}

pub all_zip-append : {A B : Type 0} (R : A → B → Type 0) (xs zs : List A) (ys ws : List B) → AllZip R xs ys → AllZip R zs ws → AllZip R (xs ++ zs) (ys ++ ws)
all_zip-append R [] zs [] ws a b = b
all_zip-append R [] zs (y ∷ ys) ws a b = absurd a
all_zip-append R (x ∷ xs) zs [] ws a b = absurd a
all_zip-append R (x ∷ xs) zs (y ∷ ys) ws a b = (a.0, all_zip-append R xs zs ys ws a.1 b)
