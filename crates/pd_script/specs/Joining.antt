-- What was cut, joined again: the laws of the cutting are said by these.
use Rattle.std.specs.Prelude.{ℕ, List, [], ◌∷◌, ◌++◌, option_to_list, if◌then◌else◌}
use Rattle.pd_script.specs.Forms.{Item}
use Rattle.pd_script.specs.Words.{RawLine}

-- a line with its line feed, where it has one
abbrev pub line_text : RawLine → List ℕ
line_text raw = if raw.ended then raw.bytes ++ 10 ∷ [] else raw.bytes

-- the lines, one behind the other
abbrev pub joined_lines : List RawLine → List ℕ
joined_lines [] = []
joined_lines (raw ∷ raws) = line_text raw ++ joined_lines raws

-- an item with the separator behind it
abbrev pub item_text : Item → List ℕ
item_text item = item.text ++ option_to_list item.behind

-- the items, one behind the other
abbrev pub joined_items : List Item → List ℕ
joined_items [] = []
joined_items (item ∷ items) = item_text item ++ joined_items items

-- pieces with a space between each and the next
abbrev pub spaced : List (List ℕ) → List ℕ
spaced [] = []
spaced (piece ∷ []) = piece
spaced (piece ∷ pieces) = piece ++ 32 ∷ spaced pieces
