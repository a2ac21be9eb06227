-- How far a store is from others by its location labels (PD documentation, "Schedule Replicas by Topology Labels").
use Rattle.std.specs.Prelude.{ℕ, ◌^◌, Bool, not, if◌then◌else◌, List, [], ◌∷◌, length, sum_by}
use Rattle.std.specs.Str.{bytes_eq}
use Rattle.pd_types.specs.declared.store.Label.{Label}
use Rattle.store_table.specs.declared.entry.StoreEntry.{StoreEntry}
use Rattle.rule_fit.specs.Suits.{value_of, labels_of}

-- the two stores have different values of the label
abbrev pub differ_in : List StoreEntry → ℕ → ℕ → List ℕ → Bool
differ_in stores one other label =
    not (bytes_eq (value_of label (labels_of one stores)) (value_of label (labels_of other stores)))

-- a power of 100 for the first label in which they differ, greater for an earlier one; 0 where they differ in none
abbrev pub score_beside : List StoreEntry → ℕ → ℕ → List (List ℕ) → ℕ
score_beside stores one other [] = 0
score_beside stores one other (label ∷ labels) =
    if differ_in stores one other label then 100 ^ length labels else score_beside stores one other labels

-- the sum beside all others
abbrev pub isolation_score : List StoreEntry → ℕ → List ℕ → List (List ℕ) → ℕ
isolation_score stores one others labels = sum_by (λ other. score_beside stores one other labels) others

-- stores with these labels have different values of the label
abbrev pub differ_by : List Label → List Label → List ℕ → Bool
differ_by one other label = not (bytes_eq (value_of label one) (value_of label other))

-- the power of 100 for the first label in which they differ
abbrev pub score_by : List Label → List Label → List (List ℕ) → ℕ
score_by one other [] = 0
score_by one other (label ∷ labels) = if differ_by one other label then 100 ^ length labels else score_by one other labels

-- the sum of a store with these labels beside all others
abbrev pub score_from : List Label → List StoreEntry → List ℕ → List (List ℕ) → ℕ
score_from own stores others labels = sum_by (λ other. score_by own (labels_of other stores) labels) others

-- the sum of a store with these labels beside stores with those
abbrev pub score_among : List Label → List (List Label) → List (List ℕ) → ℕ
score_among own others labels = sum_by (λ other. score_by own other labels) others
