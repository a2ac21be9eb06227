-- When words are no command, said by the table.
use Rattle.std.specs.Prelude.{◌≡◌, ℕ, ◌<◌, ◌≤◌, Bool, true, false, not, ◌||◌, is_some, List, [], ◌∷◌, length}
use Rattle.std.specs.Str.{is_utf8}
use Rattle.pd_lines.specs.Keys.{key_of}
use Rattle.pd_lines.specs.Numeral.{number_of}
use Rattle.pd_ctl.specs.Places.{rate_of, kind_of}
use Rattle.pd_ctl.specs.Table.{Place, Number, Rate, Kind, Key, Name, row, least, most, agrees, behind}
use Rattle.pd_ctl.specs.declared.verb.Verb.{Verb}

-- the word is one of its place
abbrev pub reads : Place → List ℕ → Bool
reads Number word = is_some (number_of word)
reads Rate word = is_some (rate_of word)
reads Kind word = is_some (kind_of word)
reads Key word = is_some (key_of word)
reads Name word = is_utf8 word

-- some word is none of its place
abbrev pub misread : List Place → List (List ℕ) → Bool
misread [] words = false
misread (place ∷ places) [] = false
misread (place ∷ places) (word ∷ words) = not (reads place word) || misread places words

-- the first words name the command: its fixed words agree, and no command whose fixed words agree has more of them
pub record Names (words : List (List ℕ)) (verb : Verb) : Type 0 where
  pub agree : agrees words verb ≡ true
  pub greatest : (other : Verb) → agrees words other ≡ true → length (row other).fixed ≤ length (row verb).fixed

-- no command's fixed words agree
abbrev pub NamesNone : List (List ℕ) → Type 0
NamesNone words = (verb : Verb) → agrees words verb ≡ false

-- too few words stand behind the fixed ones
pub record Lacks (words : List (List ℕ)) : Type 0 where
  pub verb : Verb
  pub named : Names words verb
  pub few : length (behind verb words) < least verb

-- too many words stand behind the fixed ones
pub record Exceeds (words : List (List ℕ)) : Type 0 where
  pub verb : Verb
  pub named : Names words verb
  pub many : most verb < length (behind verb words)

-- the number of words is right, and one of them is none of its place
pub record Misreads (words : List (List ℕ)) : Type 0 where
  pub verb : Verb
  pub named : Names words verb
  pub enough : least verb ≤ length (behind verb words)
  pub room : length (behind verb words) ≤ most verb
  pub bad : misread (row verb).places (behind verb words) ≡ true
