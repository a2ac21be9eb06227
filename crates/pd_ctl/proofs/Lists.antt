-- Lists of stores and operators, told one after the other.
use Rattle.std.proofs.Common.{ℕ, ◌≡◌, ◌+◌, ◌<◌, refl, sym, ap, ◌∙◌, arith, List, [], ◌∷◌, ◌++◌, length, map, take, get_or, Bool, true, false, Option, Some, None}
use Rattle.std.specs.Prelude.{slice_get, is_some, ◌==◌}
use Rattle.std.specs.Option.{option_map, option_and_then}
use Rattle.std.specs.FinMap as fin
use Rattle.std.specs.List.{filter_map}
use Rattle.std.proofs.lemmas.List.{take_more, map-append}
use Rattle.std.proofs.lemmas.Bool.{eq-eqb}
use Rattle.std.proofs.lemmas.List.Elements.{filter_map-append}
use Rattle.std.proofs.lemmas.List.Folds.{list_any_at}
use Rattle.std.proofs.lemmas.Option.{slice_get_within, slice_get-get_or, get_or_from_slice_get}
use Rattle.serde_json.specs.Data.{Data}
use Rattle.pd_types.specs.declared.region.RegionBeat.{RegionBeat}
use Rattle.pd_types.specs.declared.store.StoreRec.{StoreRec}
use Rattle.store_table.specs.Entries.{AreRising, entry_at}
use Rattle.store_table.specs.declared.entry.StoreEntry.{StoreEntry}
use Rattle.store_table.proofs.EntryLemmas.{entry_found, stands_at}
use Rattle.op_control.specs.Life.{is_active}
use Rattle.op_control.specs.Table.{Table, IsListed, active_at, op_at}
use Rattle.op_control.specs.declared.operator.Operator.{Operator}
use Rattle.pd_ctl.specs.Reports.{entry_tree, store_report}
use Rattle.pd_ctl.specs.Trees.{operator_tree}

-- the entry at a place is that of its id
at_place : (xs : List StoreEntry) (i : ℕ) (e : StoreEntry) → AreRising xs → slice_get xs i ≡ Some e → entry_at e.store.id xs ≡ Some e
at_place xs i e rising here =
    let inside = slice_get_within xs i e here in
    let stands = stands_at {id = e.store.id} xs {i = i} rising inside
    (λ k d low. let order = rising k i d low inside in let same = ap (λ (s : StoreEntry). s.store.id) (get_or_from_slice_get xs i e d here) in omega arith)
    (λ d. ap (λ (s : StoreEntry). s.store.id) (get_or_from_slice_get xs i e d here)) in
    entry_found e stands ∙ ap (λ (s : StoreEntry). Some s) (get_or_from_slice_get xs i e e here)

take_one : {X : Type 0} (xs : List X) (i : ℕ) (x : X) → slice_get xs i ≡ Some x → take (i + 1) xs ≡ take i xs ++ x ∷ []
take_one xs i x here =
    take_more xs i x (slice_get_within xs i x here) ∙ ap (λ y. take i xs ++ y ∷ []) (get_or_from_slice_get xs i x x here)

-- one store more
pub store_more : (xs : List StoreEntry) (held : List RegionBeat) (now place : ℕ) (rec : StoreRec) (told : List Data) (tree : Data) (o : Option StoreEntry) → slice_get xs place ≡ o
    → AreRising xs → Some rec ≡ option_map (λ entry. entry.store) o → tree ≡ store_report (entry_at rec.id xs) held now
    → told ≡ map (entry_tree held now) (take place xs) → told ++ tree ∷ [] ≡ map (entry_tree held now) (take (place + 1) xs)
store_more xs held now place rec told tree None here rising is same before = absurd (cc is)
store_more xs held now place rec told tree (Some e) here rising is same before =
    let known : rec ≡ e.store = cc is in
    let found : entry_at rec.id xs ≡ Some e = ap (λ (r : StoreRec). entry_at r.id xs) known ∙ at_place xs place e rising here in
    let tree_is : tree ≡ entry_tree held now e = same ∙ ap (λ (o : Option StoreEntry). store_report o held now) found in
    rw (take_one xs place e here, map-append, before, tree_is) refl

-- there is a store at each place
pub no_gap : {A : Type 0} (xs : List StoreEntry) (place : ℕ) (e : StoreEntry) → place < length xs → None ≡ option_map (λ entry. entry.store) (slice_get xs place) → A
no_gap xs place e inside is = absurd (cc (slice_get-get_or xs place e inside, is))

-- the operator of a listed region hasn't ended
listed_active : (table : Table) (place region : ℕ) → IsListed table → slice_get table.busy place ≡ Some region → is_some (active_at table region) ≡ true
listed_active table place region listed here =
    let same = get_or_from_slice_get table.busy place region region here in
    sym (listed.active region) ∙ list_any_at (λ one. one == region) table.busy place region (slice_get_within table.busy place region here) (rw same (eq-eqb region region refl))

active_is : (table : Table) (region : ℕ) (op : Operator) (b : Bool) → is_active op.state ≡ b → fin.get table.last region ≡ Some op → is_some (active_at table region) ≡ true → active_at table region ≡ Some op
active_is table region op true state found some = rw (found, state) refl
active_is table region op false state found some = absurd (cc (rw (found, state) at some))

-- one operator more
pub operator_more : (table : Table) (place : ℕ) (op : Operator) (told : List Data) (tree : Data) (o : Option ℕ) → slice_get table.busy place ≡ o → IsListed table
    → Some op ≡ option_and_then (λ region. fin.get table.last region) o → tree ≡ operator_tree op
    → told ≡ map operator_tree (filter_map (active_at table) (take place table.busy)) → told ++ tree ∷ [] ≡ map operator_tree (filter_map (active_at table) (take (place + 1) table.busy))
operator_more table place op told tree None here listed is same before = absurd (cc is)
operator_more table place op told tree (Some region) here listed is same before =
    let active = active_is table region op (is_active op.state) refl (sym is) (listed_active table place region listed here) in
    rw (take_one table.busy place region here, filter_map-append, active, map-append, before, same) refl

none_active : (table : Table) (region : ℕ) → fin.get table.last region ≡ None → is_some (active_at table region) ≡ true → ⊥
none_active table region none some = cc (rw none at some)

-- there is an operator at each place
pub no_operator : {A : Type 0} (table : Table) (place : ℕ) → IsListed table → place < length table.busy → None ≡ op_at table place → A
no_operator table place listed inside is =
    let region = get_or table.busy place 0 in
    let here : slice_get table.busy place ≡ Some region = slice_get-get_or table.busy place 0 inside in
    let none : fin.get table.last region ≡ None = sym (rw here at is) in
    absurd (none_active table region none (listed_active table place region listed here))
