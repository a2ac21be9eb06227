-- How far a store is from others is said by the labels of each.
use Rattle.std.proofs.Common.{◌≡◌, ℕ, ◌^◌, List, [], ◌∷◌, length, refl, ap, ◌∙◌, if◌then◌else◌}
use Rattle.std.specs.Prelude.{sum_by, fold, ◌+◌}
use mathlib.Core.Path.{fun_ext}
use Rattle.store_table.specs.declared.entry.StoreEntry.{StoreEntry}
use Rattle.pd_types.specs.declared.store.Label.{Label}
use Rattle.rule_fit.specs.Isolation.{differ_in, isolation_score, score_among, score_beside, score_by, score_from}
use Rattle.rule_fit.specs.Suits.{labels_of, labels_of_all}

beside_by : (stores : List StoreEntry) (one other : ℕ) (labels : List (List ℕ)) → score_beside stores one other labels ≡ score_by (labels_of one stores) (labels_of other stores) labels
beside_by stores one other [] = refl
beside_by stores one other (label ∷ labels) =
    ap (λ (rest : ℕ). if differ_in stores one other label then 100 ^ length labels else rest) (beside_by stores one other labels)

pub score_by_labels : (stores : List StoreEntry) (store : ℕ) (others : List ℕ) (labels : List (List ℕ)) → isolation_score stores store others labels ≡ score_from (labels_of store stores) stores others labels
score_by_labels stores store others labels =
    ap (λ (score : ℕ → ℕ). sum_by score others) (fun_ext (λ other. beside_by stores store other labels))

-- the sum beside the stores is the sum beside their labels
from_among : (own : List Label) (stores : List StoreEntry) (labels : List (List ℕ)) (sum : ℕ) (others : List ℕ) → fold (λ all other. all + score_by own (labels_of other stores) labels) sum others ≡ fold (λ all other. all + score_by own other labels) sum (labels_of_all others stores)
from_among own stores labels sum [] = refl
from_among own stores labels sum (other ∷ others) = from_among own stores labels (sum + score_by own (labels_of other stores) labels) others

pub score_among_labels : (stores : List StoreEntry) (store : ℕ) (others : List ℕ) (labels : List (List ℕ)) → isolation_score stores store others labels ≡ score_among (labels_of store stores) (labels_of_all others stores) labels
score_among_labels stores store others labels =
    score_by_labels stores store others labels ∙ from_among (labels_of store stores) stores labels 0 others
