-- What a rule is printed as means that rule.
use Rattle.std.proofs.Common.{ℕ, ◌≡◌, refl, arith, sym, ap, List, [], ◌∷◌, map, length, Bool, true, false, Option, Some, None, IsUtf8}
use Rattle.std.specs.Prelude.{nat_lt, nat_le, if◌then◌else◌}
use Rattle.std.specs.List.{list_all, list_any}
use Rattle.std.proofs.lemmas.List.{length-map}
use Rattle.hex.specs.Hex.{decode_of, encode_lower}
use Rattle.hex.proofs.HexLemmas.{decode_of-encode_lower}
use Rattle.serde_json.specs.Data.{Data, string}
use Rattle.serde_json.specs.Read.{read}
use Rattle.serde_json.specs.View.{items_of}
use Rattle.pd_types.specs.declared.rule.RuleRole.{RuleRole}
use Rattle.pd_types.specs.declared.rule.RuleRole.TheVariants.{Voter, Leader, Follower, Learner}
use Rattle.pd_types.specs.declared.rule.Op.{Op}
use Rattle.pd_types.specs.declared.rule.Op.TheVariants.{In, NotIn, Exists, NotExists}
use Rattle.pd_types.specs.declared.rule.Constraint.{Constraint}
use Rattle.pd_types.specs.declared.rule.Rule.{Rule}
use Rattle.rule_text.specs.declared.fault.RuleFault.{RuleFault}
use Rattle.rule_text.specs.Fields.{list_of, text_of}
use Rattle.rule_text.specs.Words.{role_of, role_word, op_of, op_word}
use Rattle.rule_text.specs.Meaning.{within, constraint_of, constraint_data, rule_of, rule_data}
use Rattle.rule_text.specs.Tests.{Test, first_failing, tests_of, is_text, is_constraint, lacks_word, has_op, is_count, Means}
use Rattle.rule_text.specs.Readable.{IsKey, IsReadable}

pub role_again : (role : RuleRole) → role_of (role_word role) ≡ Some role
role_again Voter = refl
role_again Leader = refl
role_again Follower = refl
role_again Learner = refl

pub op_again : (op : Op) → op_of (op_word op) ≡ Some op
op_again In = refl
op_again NotIn = refl
op_again Exists = refl
op_again NotExists = refl

pub items_again : (ds : List Data) → list_of (items_of ds) ≡ ds
items_again [] = refl
items_again (d ∷ ds) = ap (λ (rest : List Data). d ∷ rest) (items_again ds)

pub texts_again : (texts : List (List ℕ)) → map text_of (map string texts) ≡ texts
texts_again [] = refl
texts_again (t ∷ texts) = ap (λ (rest : List (List ℕ)). t ∷ rest) (texts_again texts)

pub all_texts : (texts : List (List ℕ)) → list_all is_text (map string texts) ≡ true
all_texts [] = refl
all_texts (t ∷ texts) = all_texts texts

pub key_again : (key : List ℕ) → IsKey key → within (decode_of (encode_lower key)) ≡ Some key
key_again key good =
    let back = decode_of-encode_lower key good.bytes in
    let few : nat_le (length key) 256 ≡ true = (let h = good.few in grind arith) in
    rw back (rw few refl)

pub constraint_again : (one : Constraint) → constraint_of (constraint_data one) ≡ one
constraint_again one = grind (arith, items_again (map string one.values), texts_again one.values, op_again one.op)

pub constraints_again : (ones : List Constraint) → map constraint_of (map constraint_data ones) ≡ ones
constraints_again [] = refl
constraints_again (one ∷ ones) = rw (constraint_again one) (ap (λ (rest : List Constraint). one ∷ rest) (constraints_again ones))

pub none_lack : (ones : List Constraint) → list_any lacks_word (map constraint_data ones) ≡ false
none_lack [] = refl
none_lack (one ∷ ones) = none_lack ones

pub all_constraints : (ones : List Constraint) → list_all is_constraint (map constraint_data ones) ≡ true
all_constraints [] = refl
all_constraints (one ∷ ones) = rw (items_again (map string one.values)) (rw (all_texts one.values) (all_constraints ones))

pub all_ops : (ones : List Constraint) → list_all has_op (map constraint_data ones) ≡ true
all_ops [] = refl
all_ops (one ∷ ones) = rw (op_again one.op) (all_ops ones)

pub next_passes : (test : Test) (tests : List Test) → test.passes ≡ true → first_failing tests ≡ None → first_failing (test ∷ tests) ≡ None
next_passes test tests h rest = rw h rest

pub split_if : (b : Bool) (rest : Option RuleFault) (fault : RuleFault) → (if b then rest else Some fault) ≡ None → (b ≡ true) × (rest ≡ None)
split_if true rest fault h = (refl, h)
split_if false rest fault h = cc h

pub split_passes : (test : Test) (tests : List Test) → first_failing (test ∷ tests) ≡ None → (test.passes ≡ true) × (first_failing tests ≡ None)
split_passes test tests h = split_if test.passes (first_failing tests) test.fault h

count_small : (role : RuleRole) (n : ℕ) → is_count role n ≡ true → nat_lt n 4294967296 ≡ true
count_small Voter n h = grind (arith, h)
count_small Leader n h = grind (arith, h)
count_small Follower n h = grind (arith, h)
count_small Learner n h = grind (arith, h)

pub rule_again : (rule : Rule) → IsReadable rule → rule_of (rule_data rule) ≡ rule
rule_again rule good =
    let start = key_again rule.start good.start in
    let end = key_again rule.end good.end in
    let index : nat_lt rule.index 4294967296 ≡ true = (let h = good.index in grind arith) in
    let count : nat_lt rule.count 4294967296 ≡ true = count_small rule.role rule.count good.count in
    rw (start, end, index, count, role_again rule.role, items_again (map constraint_data rule.constraints), constraints_again rule.constraints, items_again (map string rule.locations), texts_again rule.locations) refl

pub tests_again : (rule : Rule) → IsReadable rule → first_failing (tests_of (rule_data rule)) ≡ None
tests_again rule good =
    let start = key_again rule.start good.start in
    let end = key_again rule.end good.end in
    let index : nat_lt rule.index 4294967296 ≡ true = (let h = good.index in grind arith) in
    let count : nat_lt rule.count 4294967296 ≡ true = count_small rule.role rule.count good.count in
    let few : nat_le (length (map string rule.locations)) 4 ≡ true = (let h = good.locations in rw (length-map rule.locations string) (grind arith)) in
    rw (items_again (map constraint_data rule.constraints), items_again (map string rule.locations), none_lack rule.constraints, good.group, good.id, count, index, all_constraints rule.constraints, few, all_texts rule.locations, start, end, role_again rule.role, all_ops rule.constraints, good.count, good.range) refl

pub printed_means : (bytes : List ℕ) (rule : Rule) → IsUtf8 bytes → read bytes ≡ Some (rule_data rule) → IsReadable rule → Means bytes rule
printed_means bytes rule text json good = record {
  text = text;
  value = rule_data rule;
  json = json;
  passes = tests_again rule good;
  rule_is = sym (rule_again rule good);
}
