-- The lines that set and remove a placement rule (own choice): `rule D NOW JSON` and `unrule D NOW GROUP ID`. JSON is the rest
-- of the line, with the spaces inside it; whether it is a rule is the cluster's answer, and no fault of the line.
use Rattle.std.specs.Prelude.{ℕ, List, [], ◌∷◌, length, Bool, ◌&&◌, nat_le, nat_lt, Result, Ok, Err, if◌then◌else◌}
use Rattle.std.specs.List.{list_all}
use Rattle.pd_types.specs.declared.request.Request.TheVariants.{Rule, Unrule}
use Rattle.pd_lines.specs.Words.{and_then}
use Rattle.pd_script.specs.Places.{read_place}
use Rattle.pd_script.specs.Words.{behind_word, trimmed, words}
use Rattle.pd_script.specs.declared.ask.Asked.{Asked}
use Rattle.pd_script.specs.declared.place.Place.TheVariants.{Driver, Moment}
use Rattle.pd_script.specs.declared.refusal.Reason.{Reason}
use Rattle.pd_script.specs.declared.refusal.Reason.TheVariants.{BadWord, ExtraWord, MissingWord}
use Rattle.pd_script.specs.declared.rules.TheConstants.{MAX_JSON, MAX_NAME}

-- a text of at most 4,096 bytes
abbrev pub json_form : List ℕ → Result (List ℕ) Reason
json_form text = if nat_le (length text) MAX_JSON then Ok text else Err BadWord

-- a character that isn't a space, 0x21 to 0x7E
abbrev pub is_graphic : ℕ → Bool
is_graphic b = nat_le 33 b && nat_le b 126

-- the group or the id of a rule: 1 to 64 such characters
abbrev pub is_name : List ℕ → Bool
is_name word = nat_lt 0 (length word) && nat_le (length word) MAX_NAME && list_all is_graphic word

-- the name that a word is
abbrev pub name_form : List ℕ → Result (List ℕ) Reason
name_form word = if is_name word then Ok word else Err BadWord

-- these words, the last of which begins the JSON text; any more of them are part of it
abbrev pub rule_by : List (List ℕ) → List ℕ → Result Asked Reason
rule_by (driver ∷ moment ∷ first ∷ more) json = and_then (read_place Driver driver) (λ d. and_then (read_place Moment moment) (λ m. and_then (json_form json) (λ j. Ok (record { driver = d; request = Rule m j }))))
rule_by _ json = Err MissingWord

-- what stands behind `rule`: the JSON text is what stands behind the two words
abbrev pub rule_of : List ℕ → Result Asked Reason
rule_of rest = rule_by (words rest) (trimmed (behind_word (behind_word rest)))

-- the words of `unrule`
abbrev pub unrule_of : List (List ℕ) → Result Asked Reason
unrule_of (driver ∷ moment ∷ group ∷ id ∷ []) =
    and_then (read_place Driver driver) (λ d. and_then (read_place Moment moment) (λ m. and_then (name_form group) (λ g. and_then (name_form id) (λ i. Ok (record { driver = d; request = Unrule m g i })))))
unrule_of (driver ∷ moment ∷ group ∷ id ∷ more ∷ rest) = Err ExtraWord
unrule_of _ = Err MissingWord
