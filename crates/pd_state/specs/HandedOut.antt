-- What a new term makes of the records that its lead handed out (own choice): a record that doesn't read is passed over, and so is one whose key isn't that of what it reads as.
use Rattle.std.specs.FinMap as finmap
use Rattle.std.specs.Prelude.{ℕ, nat_lt, nat_le, nat_eq, if◌then◌else◌, List, [], ◌∷◌, ◌++◌, length, filter, find, Option, Some, None, fold}
use Rattle.pd_types.specs.declared.rule.Rule.{Rule}
use Rattle.pd_types.specs.declared.store.StoreRec.{StoreRec}
use Rattle.store_table.specs.declared.table.TheConstants.{MOST_STORES}
use Rattle.store_limit.specs.Limits.{StoreLimits, known}
use Rattle.pd_types.specs.declared.rule.TheConstants.{MAX_RULES}
use Rattle.rule_set.specs.Changes.{default_rule, with_rule}
use Rattle.meta_store.specs.declared.record.Cell.{Cell}
use Rattle.meta_store.specs.Stores.{store_of}
use Rattle.pd_state.specs.StoredRules.{rule_in}

-- the record of this store, where it is known
abbrev pub record_at : ℕ → List StoreRec → Option StoreRec
record_at store recs = find (λ rec. nat_eq rec.id store) recs

-- the record behind those of lesser ids and before those of greater ids, in place of one with its id
abbrev pub with_record : StoreRec → List StoreRec → List StoreRec
with_record rec recs = filter (λ one. nat_lt one.id rec.id) recs ++ (rec ∷ filter (λ one. nat_lt rec.id one.id) recs)

-- the store that a record tells
abbrev pub store_in : Cell → Option StoreRec
store_in cell = store_of cell.key cell.bytes

-- a store more, where one was told and fewer than 256 are known
abbrev pub store_more : Option StoreRec → List StoreRec → List StoreRec
store_more None recs = recs
store_more (Some rec) recs = if nat_le MOST_STORES (length recs) then recs else with_record rec recs

-- the stores that the records tell, by rising id
abbrev pub stores_told : List Cell → List StoreRec
stores_told cells = fold (λ recs cell. store_more (store_in cell) recs) [] cells

-- the limits of these stores, each known from this moment on with full buckets
abbrev pub limits_of : ℕ → List StoreRec → StoreLimits
limits_of moment recs = fold (λ limits rec. known limits rec.id moment) finmap.empty recs

-- a rule more, where one was told and there are fewer than 64
abbrev pub rule_more : Option Rule → List Rule → List Rule
rule_more None rules = rules
rule_more (Some rule) rules = if nat_le MAX_RULES (length rules) then rules else with_rule rule rules

-- the rules that the records tell, in order
abbrev pub rules_told : List Cell → List Rule
rules_told cells = fold (λ rules cell. rule_more (rule_in cell) rules) [] cells

-- these rules; the default rule where there is none
abbrev pub or_default : List Rule → List Rule
or_default [] = default_rule ∷ []
or_default (rule ∷ rules) = rule ∷ rules
