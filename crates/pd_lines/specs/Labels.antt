-- The labels of a store, as a word lists them (own choice): `key=value`, joined by commas.
use Rattle.std.specs.Prelude.{◌≡◌, ◌≢◌, ◌≤◌, ℕ, List, [], ◌∷◌, ◌++◌, length, map, Bool, true, nat_eq, nat_lt, ◌&&◌, not, Option, Some, None, All, AllPairs, if◌then◌else◌}
use Rattle.std.specs.List.{join_with_byte, list_any, slice_split}
use Rattle.std.specs.Option.{option_and_then}
use Rattle.std.specs.Str.{bytes_eq}
use Rattle.pd_types.specs.declared.store.Label.{Label}
use Rattle.pd_lines.specs.declared.label.TheConstants.{MOST_LABELS, MOST_LABEL_BYTES}
use Rattle.pd_lines.specs.Plain.{is_plain}

-- at most four labels, each key and each value of 1 to 32 plain characters, and no key twice
pub record AreLabels (labels : List Label) : Type 0 where
  pub few : length labels ≤ MOST_LABELS
  pub keys : All (λ label. is_plain MOST_LABEL_BYTES label.key ≡ true) labels
  pub values : All (λ label. is_plain MOST_LABEL_BYTES label.value ≡ true) labels
  pub distinct : AllPairs (λ one later. one.key ≢ later.key) labels

-- a label as it is written: `key=value`
abbrev pub label_text : Label → List ℕ
label_text label = label.key ++ 61 ∷ label.value

-- labels as they are written, joined by commas
abbrev pub labels_text : List Label → List ℕ
labels_text labels = join_with_byte 44 (map label_text labels)

-- a key and a value, each of 1 to 32 plain characters
abbrev pub label_by : List (List ℕ) → Option Label
label_by (key ∷ value ∷ []) = if is_plain MOST_LABEL_BYTES key && is_plain MOST_LABEL_BYTES value then Some (record { key = key; value = value }) else None
label_by _ = None

-- the label that a part is: `key=value`
abbrev pub label_of : List ℕ → Option Label
label_of part = label_by (slice_split (λ b. nat_eq b 61) part)

-- one of the labels has this key
abbrev pub has_key : List ℕ → List Label → Bool
has_key key labels = list_any (λ label. bytes_eq label.key key) labels

-- a label behind others: there are fewer than four, and none has its key
abbrev pub with_label : List Label → Label → Option (List Label)
with_label earlier label = if nat_lt (length earlier) MOST_LABELS && not (has_key label.key earlier) then Some (earlier ++ label ∷ []) else None

-- the labels of these parts, behind those read before
abbrev pub labels_from : List Label → List (List ℕ) → Option (List Label)
labels_from earlier [] = Some earlier
labels_from earlier (part ∷ parts) = option_and_then (λ label. option_and_then (λ labels. labels_from labels parts) (with_label earlier label)) (label_of part)

-- the labels that a word lists: one to four, no key twice
abbrev pub labels_of : List ℕ → Option (List Label)
labels_of word = labels_from [] (slice_split (λ b. nat_eq b 44) word)
