-- The fields of a rule's JSON text (PD documentation, "Placement Rules").
use Rattle.std.specs.Prelude.{ℕ, ◌^◌, List, [], ◌∷◌, Bool, false, nat_lt, if◌then◌else◌, Option, Some, None, option_map, option_and_then, is_some, unwrap_or}
use Rattle.serde_json.specs.Data.{Data, Items, no_items, item}
use Rattle.serde_json.specs.Find.{get, as_null, as_bool, as_str, as_array, as_number, as_u64}

-- the value, where it is not null
abbrev pub unless_null : Data → Option Data
unless_null d = if is_some (as_null d) then None else Some d

-- a field that is neither absent nor null
abbrev pub given : List ℕ → Data → Option Data
given name rule = option_and_then unless_null (get name rule)

-- the items as a list
abbrev pub list_of : Items → List Data
list_of no_items = []
list_of (item d ds) = d ∷ list_of ds

-- the items of a list, none where the value is no list
abbrev pub list_in : Data → Option (List Data)
list_in d = option_map list_of (as_array d)

-- the items of a list, none where it is absent or no list
abbrev pub items_at : List ℕ → Data → List Data
items_at name rule = unwrap_or (option_and_then list_in (get name rule)) []

-- a text, empty where it is none
abbrev pub text_of : Data → List ℕ
text_of d = unwrap_or (as_str d) []

-- the text of a field, empty where it is absent or no text
abbrev pub text_at : List ℕ → Data → List ℕ
text_at name rule = unwrap_or (option_and_then as_str (get name rule)) []

-- a number below 2 to the 32nd, else 0
abbrev pub word_in : Option ℕ → ℕ
word_in None = 0
word_in (Some n) = if nat_lt n (2 ^ 32) then n else 0

-- the number of a field, 0 where it is absent or no whole number below 2 to the 32nd
abbrev pub number_at : List ℕ → Data → ℕ
number_at name rule = word_in (option_and_then as_u64 (option_and_then as_number (get name rule)))

-- the truth value of a field, false where it is absent or none
abbrev pub truth_at : List ℕ → Data → Bool
truth_at name rule = unwrap_or (option_and_then as_bool (get name rule)) false
