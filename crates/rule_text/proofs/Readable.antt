-- A rule that is read is within the bounds.
use Rattle.std.proofs.Common.{ℕ, ◌≡◌, refl, ◌<◌, ◌≤◌, arith, List, [], ◌∷◌, length, Bool, true, false, ◌&&◌, not, Option, Some, None, codes, Result, Ok, Err, IfOk}
use Rattle.std.specs.Prelude.{nat_le, if◌then◌else◌, unwrap_or, option_and_then, is_some}
use Rattle.std.proofs.lemmas.List.{length-map}
use Rattle.hex.specs.Hex.{decode_of, IsBytes}
use Rattle.hex.specs.declared.error.FromHexError.{FromHexError}
use Rattle.hex.proofs.HexLemmas.{decode_of-ok}
use Rattle.serde_json.specs.Data.{Data, null, boolean, number, string, array, object}
use Rattle.serde_json.specs.Find.{get, as_str, as_object, as_number, as_u64}
use Rattle.pd_types.specs.declared.rule.Rule.{Rule}
use Rattle.rule_text.specs.Fields.{unless_null, list_in, items_at, text_of, text_at, word_in}
use Rattle.rule_text.specs.Meaning.{within, rule_of}
use Rattle.rule_text.specs.declared.fault.RuleFault.{RuleFault}
use Rattle.rule_text.specs.declared.fault.RuleFault.TheVariants.{NotObject, Missing, WrongKind, BadHex, BadRole, BadOp, BadCount, EmptyRange, IsolationLevel}
use Rattle.rule_text.specs.Tests.{Test, first_failing, tests_of, behind_kinds, behind_keys, passes, may_pass, has_name_length, is_name, are_few, are_labels, are_needed, are_optional, is_missing, is_of_kind, has_keys, has_role, have_ops, has_count, has_range, has_no_level}
use Rattle.rule_text.specs.Readable.{IsKey, IsReadable}
use Rattle.rule_text.proofs.Again.{split_passes}

pub both : (a b : Bool) → (a && b) ≡ true → (a ≡ true) × (b ≡ true)
both true b h = (refl, h)
both false b h = cc h

name_in : (text : Option (List ℕ)) → has_name_length text ≡ true → has_name_length (Some (unwrap_or text [])) ≡ true
name_in None h = cc h
name_in (Some text) h = h

name_of : (field : Option Data) → passes is_name field ≡ true → has_name_length (Some (unwrap_or (option_and_then as_str field) [])) ≡ true
name_of None h = cc h
name_of (Some d) h = name_in (as_str d) h

word_small : (o : Option ℕ) → word_in o < 4294967296
word_small None = omega arith
word_small (Some n) = grind arith

no_key : IsKey []
no_key = record { bytes = λ i. omega arith; few = omega arith }

key_if : (bytes : List ℕ) (b : Bool) → nat_le (length bytes) 256 ≡ b → IsBytes bytes → IsKey (unwrap_or (if b then Some bytes else None) [])
key_if bytes true h all = record { bytes = all; few = grind (arith, h) }
key_if bytes false h all = no_key

key_in : (text : List ℕ) (r : Result (List ℕ) FromHexError) → decode_of text ≡ r → IsKey (unwrap_or (within r) [])
key_in text (Ok bytes) h = key_if bytes (nat_le (length bytes) 256) refl (decode_of-ok text bytes h).3
key_in text (Err e) h = no_key

few_in : (o : Option (List Data)) → are_few o ≡ true → length (unwrap_or o []) ≤ 4
few_in None h = cc h
few_in (Some ds) h = grind (arith, h)

few_of : (field : Option Data) → may_pass are_labels (option_and_then unless_null field) ≡ true → length (unwrap_or (option_and_then list_in field) []) ≤ 4
few_of None h = omega arith
few_of (Some null) h = omega arith
few_of (Some (boolean b)) h = cc h
few_of (Some (number n)) h = cc h
few_of (Some (string s)) h = cc h
few_of (Some (array ds)) h = few_in (list_in (array ds)) (both _ _ h).0
few_of (Some (object ms)) h = cc h

abbrev level_on : Data → List Test
level_on d = record { fault = IsolationLevel; passes = has_no_level d } ∷ []

abbrev range_on : Data → List Test
range_on d = record { fault = EmptyRange; passes = has_range d } ∷ level_on d

abbrev count_on : Data → List Test
count_on d = record { fault = BadCount; passes = has_count d } ∷ range_on d

abbrev ops_on : Data → List Test
ops_on d = record { fault = BadOp; passes = have_ops d } ∷ count_on d

abbrev kinds_on : Data → List Test
kinds_on d = record { fault = WrongKind; passes = is_of_kind d } ∷ behind_kinds d

abbrev whole_on : Data → List Test
whole_on d = record { fault = Missing; passes = not (is_missing d) } ∷ kinds_on d

pub readable : (d : Data) → first_failing (tests_of d) ≡ None → IsReadable (rule_of d)
readable d h =
    let object = split_passes (record { fault = NotObject; passes = is_some (as_object d) }) (whole_on d) h in
    let whole = split_passes (record { fault = Missing; passes = not (is_missing d) }) (kinds_on d) object.1 in
    let kinds = split_passes (record { fault = WrongKind; passes = is_of_kind d }) (behind_kinds d) whole.1 in
    let keys = split_passes (record { fault = BadHex; passes = has_keys d }) (behind_keys d) kinds.1 in
    let role = split_passes (record { fault = BadRole; passes = has_role d }) (ops_on d) keys.1 in
    let ops = split_passes (record { fault = BadOp; passes = have_ops d }) (count_on d) role.1 in
    let count = split_passes (record { fault = BadCount; passes = has_count d }) (range_on d) ops.1 in
    let range = split_passes (record { fault = EmptyRange; passes = has_range d }) (level_on d) count.1 in
    let kind = both (are_needed d) (are_optional d) kinds.0 in
    let count_last = both _ _ kind.0 in
    let role_last = both _ _ count_last.0 in
    let names = both _ _ role_last.0 in
    let labels_last = both _ _ kind.1 in
    let labels = few_of (get (codes "location_labels") d) labels_last.1 in
    record {
      group = name_of (get (codes "group_id") d) names.0;
      id = name_of (get (codes "id") d) names.1;
      index = word_small (option_and_then as_u64 (option_and_then as_number (get (codes "index") d)));
      count = count.0;
      start = key_in (text_at (codes "start_key") d) _ refl;
      end = key_in (text_at (codes "end_key") d) _ refl;
      range = range.0;
      locations = rw (length-map (items_at (codes "location_labels") d) text_of) labels;
    }

pub answer_readable : (d : Data) (r : Result Rule RuleFault) → IfOk r (λ rule. (first_failing (tests_of d) ≡ None) × (rule ≡ rule_of d)) → IfOk r IsReadable
answer_readable d (Ok rule) h = rw h.1 (readable d h.0)
answer_readable d (Err fault) h = h
