-- Keys that begin with a prefix.
use Rattle.std.proofs.Common.{refl, ◌≡◌, ℕ, true, List, [], ◌∷◌, ◌++◌, length, take, drop, ap, sym, ◌∙◌}
use Rattle.std.proofs.lemmas.List.{take-append-drop}
use Rattle.pd_types.proofs.KeyLemmas.{equal_keys, same_keys}
use Rattle.meta_store.specs.Cells.{begins_with}

front : (prefix rest : List ℕ) → take (length prefix) (prefix ++ rest) ≡ prefix
front [] rest = refl
front (b ∷ prefix) rest = ap (λ (l : List ℕ). b ∷ l) (front prefix rest)

pub begins : (prefix rest : List ℕ) → begins_with prefix (prefix ++ rest) ≡ true
begins prefix rest = equal_keys prefix (take (length prefix) (prefix ++ rest)) (sym (front prefix rest))

pub only : (prefix key : List ℕ) → begins_with prefix key ≡ true → key ≡ prefix ++ drop (length prefix) key
only prefix key is =
    sym (take-append-drop (length prefix) key) ∙ ap (λ (l : List ℕ). l ++ drop (length prefix) key) (sym (same_keys prefix (take (length prefix) key) is))
