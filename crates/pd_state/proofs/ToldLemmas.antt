-- The stores that records tell.
use Rattle.std.proofs.Common.{refl, ◌≡◌, ◌≢◌, ℕ, zero, suc, ◌+◌, ◌<◌, ◌≤◌, Bool, true, false, cond, nat_eq, nat_le, nat_lt, List, [], ◌∷◌, length, get_or, fold, filter, filter_map, ap, sym, subst, ◌∙◌, Option, Some, None, arith, ◌⊎◌, inl, inr}
use Rattle.std.proofs.lemmas.Bool.Decides.{nat_tests}
use Rattle.std.proofs.lemmas.List.{length-append}
use Rattle.std.proofs.lemmas.List.Elements.{All-cons}
use Rattle.std.specs.List.{cons_option}
use Rattle.std.specs.List.{All, Any}
use Rattle.pd_types.proofs.Numbers.{other_number, same_number}
use Rattle.pd_types.specs.declared.store.StoreRec.{StoreRec}
use Rattle.pd_types.specs.Keys.{is_below}
use Rattle.pd_types.proofs.KeyLemmas.{not_below_itself}
use Rattle.store_table.specs.declared.table.TheConstants.{MOST_STORES}
use Rattle.meta_store.specs.declared.record.Cell.{Cell}
use Rattle.meta_store.specs.Cells.{AreRising}
use Rattle.meta_store.specs.Stores.{store_key}
use Rattle.meta_store.proofs.Stored.{store_read}
use Rattle.pd_state.specs.HandedOut.{record_at, store_in, store_more, stores_told, with_record}
use Rattle.pd_state.specs.Known.{AreTold}
use Rattle.pd_state.proofs.KnownLemmas.{some_same, with_other, with_own}

abbrev more : List StoreRec → Cell → List StoreRec
more recs cell = store_more (store_in cell) recs

abbrev Tells : StoreRec → Cell → Type 0
Tells rec cell = store_in cell ≡ Some rec

-- each known store was told
from_with : (store : ℕ) (x rec : StoreRec) (recs : List StoreRec) → record_at store (with_record x recs) ≡ Some rec → (Some x ≡ Some rec) ⊎ (record_at store recs ≡ Some rec)
from_with store x rec recs found = by (nat_eq x.id store) refl
  where
    by : (t : Bool) → nat_eq x.id store ≡ t → (Some x ≡ Some rec) ⊎ (record_at store recs ≡ Some rec)
    by true is = inl (sym (with_own x recs) ∙ ap (λ n. record_at n (with_record x recs)) (same_number x.id store is) ∙ found)
    by false is = inr (sym (with_other store x recs (other_number x.id store is)) ∙ found)

from_more : (o : Option StoreRec) (store : ℕ) (rec : StoreRec) (recs : List StoreRec) → record_at store (store_more o recs) ≡ Some rec → (o ≡ Some rec) ⊎ (record_at store recs ≡ Some rec)
from_more None store rec recs found = inr found
from_more (Some x) store rec recs found = by (nat_le MOST_STORES (length recs)) found
  where
    by : (t : Bool) → record_at store (cond t recs (with_record x recs)) ≡ Some rec → (Some x ≡ Some rec) ⊎ (record_at store recs ≡ Some rec)
    by true found = inr found
    by false found = from_with store x rec recs found

later_cell : (rec : StoreRec) (cell : Cell) (cells : List Cell) → Any (Tells rec) cells → Any (Tells rec) (cell ∷ cells)
later_cell rec cell cells (k, c, low, at, is) = (suc k, c, omega arith, at, is)

only_told : (cells : List Cell) (recs : List StoreRec) (store : ℕ) (rec : StoreRec) → record_at store (fold more recs cells) ≡ Some rec → (record_at store recs ≡ Some rec) ⊎ Any (Tells rec) cells
only_told [] recs store rec found = inl found
only_told (cell ∷ cells) recs store rec found = by (only_told cells (more recs cell) store rec found)
  where
    first : (store_in cell ≡ Some rec) ⊎ (record_at store recs ≡ Some rec) → (record_at store recs ≡ Some rec) ⊎ Any (Tells rec) (cell ∷ cells)
    first (inl told) = inr (zero, cell, omega arith, refl, told)
    first (inr before) = inl before

    by : (record_at store (more recs cell) ≡ Some rec) ⊎ Any (Tells rec) cells → (record_at store recs ≡ Some rec) ⊎ Any (Tells rec) (cell ∷ cells)
    by (inl here) = first (from_more (store_in cell) store rec recs here)
    by (inr rest) = inr (later_cell rec cell cells rest)

-- how many there are
both_few : (id : ℕ) (recs : List StoreRec) → length (filter (λ one. nat_lt one.id id) recs) + length (filter (λ one. nat_lt id one.id) recs) ≤ length recs
both_few id [] = omega arith
both_few id (r ∷ recs) = by (nat_lt r.id id) (nat_lt id r.id) refl refl (both_few id recs)
  where
    by : (s t : Bool) → nat_lt r.id id ≡ s → nat_lt id r.id ≡ t → length (filter (λ one. nat_lt one.id id) recs) + length (filter (λ one. nat_lt id one.id) recs) ≤ length recs
        → length (cond s (r ∷ filter (λ one. nat_lt one.id id) recs) (filter (λ one. nat_lt one.id id) recs)) + length (cond t (r ∷ filter (λ one. nat_lt id one.id) recs) (filter (λ one. nat_lt id one.id) recs)) ≤ suc (length recs)
    by true true s t rest = absurd (grind (arith, nat_tests))
    by true false s t rest = omega (arith, rest)
    by false true s t rest = omega (arith, rest)
    by false false s t rest = omega (arith, rest)

with_few : (rec : StoreRec) (recs : List StoreRec) → length (with_record rec recs) ≤ length recs + 1
with_few rec recs =
    let count = length-append (filter (λ one. nat_lt one.id rec.id) recs) (rec ∷ filter (λ one. nat_lt rec.id one.id) recs) in
    let few = both_few rec.id recs in
    omega (arith, count, few)

more_few : (o : Option StoreRec) (recs : List StoreRec) → length recs ≤ 256 → length (store_more o recs) ≤ 256
more_few None recs few = few
more_few (Some rec) recs few = by (nat_le MOST_STORES (length recs)) refl
  where
    by : (t : Bool) → nat_le MOST_STORES (length recs) ≡ t → length (cond t recs (with_record rec recs)) ≤ 256
    by true is = few
    by false is =
        let less : length recs < 256 = grind (arith, nat_tests) in
        let one = with_few rec recs in
        omega (arith, less, one)

told_few : (cells : List Cell) (recs : List StoreRec) → length recs ≤ 256 → length (fold more recs cells) ≤ 256
told_few [] recs few = few
told_few (cell ∷ cells) recs few = told_few cells (more recs cell) (more_few (store_in cell) recs few)

-- a known store stays, where no later record tells it
stays_more : (o : Option StoreRec) (id : ℕ) (rec : StoreRec) (recs : List StoreRec) → ((x : StoreRec) → o ≡ Some x → id ≢ x.id) → record_at id recs ≡ Some rec → record_at id (store_more o recs) ≡ Some rec
stays_more None id rec recs other known = known
stays_more (Some x) id rec recs other known = by (nat_le MOST_STORES (length recs))
  where
    by : (t : Bool) → record_at id (cond t recs (with_record x recs)) ≡ Some rec
    by true = known
    by false = with_other id x recs (other x refl) ∙ known

stays : (cells : List Cell) (id : ℕ) (rec : StoreRec) (recs : List StoreRec) → All (λ (cell : Cell). (x : StoreRec) → store_in cell ≡ Some x → id ≢ x.id) cells → record_at id recs ≡ Some rec → record_at id (fold more recs cells) ≡ Some rec
stays [] id rec recs others known = known
stays (cell ∷ cells) id rec recs others known =
    stays cells id rec (more recs cell) (λ k d low. others (suc k) d (omega arith)) (stays_more (store_in cell) id rec recs (others zero cell (omega arith)) known)

-- where the records rise by key, no two tell one store
key_is : (cell : Cell) (rec : StoreRec) → store_in cell ≡ Some rec → cell.key ≡ store_key rec.id
key_is cell rec told = (store_read cell.key cell.bytes rec told).1

apart : (a b : Cell) (one two : StoreRec) → is_below a.key b.key ≡ true → store_in a ≡ Some one → store_in b ≡ Some two → one.id ≢ two.id
apart a b one two below first second same =
    let keys : a.key ≡ b.key = key_is a one first ∙ ap store_key same ∙ sym (key_is b two second) in
    let yes : is_below b.key b.key ≡ true = subst (λ (key : List ℕ). is_below key b.key ≡ true) keys below in
    let both : true ≡ false = sym yes ∙ not_below_itself b.key in
    cc

-- each store that is told is known, where there is room for all
grow : (o : Option StoreRec) (recs : List StoreRec) → length (store_more o recs) ≤ length recs + 1
grow None recs = omega arith
grow (Some rec) recs = by (nat_le MOST_STORES (length recs))
  where
    by : (t : Bool) → length (cond t recs (with_record rec recs)) ≤ length recs + 1
    by true = omega arith
    by false = with_few rec recs

told_now : (o : Option StoreRec) (rec : StoreRec) (recs : List StoreRec) → o ≡ Some rec → length recs < 256 → record_at rec.id (store_more o recs) ≡ Some rec
told_now None rec recs is less = absurd cc
told_now (Some x) rec recs is less =
    let same : x ≡ rec = some_same x rec is in
    let room : nat_le MOST_STORES (length recs) ≡ false = grind (arith, nat_tests) in
    ap (λ (t : Bool). record_at rec.id (cond t recs (with_record x recs))) room ∙ ap (λ (y : StoreRec). record_at rec.id (with_record y recs)) same ∙ with_own rec recs

abbrev TellsLess : List Cell → ℕ → Type 0
TellsLess cells n = n + length (filter_map store_in cells) ≤ 256

less_one : (cell : Cell) (cells : List Cell) (o : Option StoreRec) (n m : ℕ) → store_in cell ≡ o → m ≤ n + 1 → (o ≡ None → m ≤ n) → TellsLess (cell ∷ cells) n → TellsLess cells m
less_one cell cells None n m is few same room =
    let count : length (filter_map store_in (cell ∷ cells)) ≡ length (filter_map store_in cells) = ap (λ (o : Option StoreRec). length (cons_option o (filter_map store_in cells))) is in
    let le = same refl in
    omega (arith, count, le, room)
less_one cell cells (Some rec) n m is few same room =
    let count : length (filter_map store_in (cell ∷ cells)) ≡ suc (length (filter_map store_in cells)) = ap (λ (o : Option StoreRec). length (cons_option o (filter_map store_in cells))) is in
    omega (arith, count, few, room)

same_none : (o : Option StoreRec) (recs : List StoreRec) → o ≡ None → length (store_more o recs) ≤ length recs
same_none None recs is = omega arith
same_none (Some rec) recs is = absurd cc

first_less : (cell : Cell) (cells : List Cell) (rec : StoreRec) (n : ℕ) → store_in cell ≡ Some rec → TellsLess (cell ∷ cells) n → n < 256
first_less cell cells rec n is room =
    let count : length (filter_map store_in (cell ∷ cells)) ≡ suc (length (filter_map store_in cells)) = ap (λ (o : Option StoreRec). length (cons_option o (filter_map store_in cells))) is in
    omega (arith, count, room)

abbrev AllKnown : List StoreRec → List Cell → Type 0
AllKnown recs cells = All (λ (cell : Cell). (rec : StoreRec) → store_in cell ≡ Some rec → record_at rec.id recs ≡ Some rec) cells

every_told : (cells : List Cell) (recs : List StoreRec) → AreRising cells → TellsLess cells (length recs) → AllKnown (fold more recs cells) cells
every_told [] recs rising room = λ k d low. absurd (omega arith)
every_told (cell ∷ cells) recs rising room =
    All-cons (λ (one : Cell). (rec : StoreRec) → store_in one ≡ Some rec → record_at rec.id (fold more recs (cell ∷ cells)) ≡ Some rec) cell cells
    (λ rec told. stays cells rec.id rec (more recs cell) (λ k d low x second. apart cell (get_or cells k d) rec x (rising zero (suc k) d (omega arith) (omega arith)) told second) (told_now (store_in cell) rec recs told (first_less cell cells rec (length recs) told room)))
    (every_told cells (more recs cell) (λ i j d less low. rising (suc i) (suc j) d (omega arith) (omega arith)) (less_one cell cells (store_in cell) (length recs) (length (more recs cell)) refl (grow (store_in cell) recs) (same_none (store_in cell) recs) room))

no_record : (store : ℕ) (rec : StoreRec) → record_at store [] ≡ Some rec → ⊥
no_record store rec h = cc

pub are_told : (cells : List Cell) → AreTold cells (stores_told cells)
are_told cells = record {
  only = λ store rec found. by store rec (only_told cells [] store rec found);
  every = λ rising room. every_told cells [] rising (omega (arith, room));
  few = told_few cells [] (omega arith);
}
  where
    by : (store : ℕ) (rec : StoreRec) → (record_at store [] ≡ Some rec) ⊎ Any (Tells rec) cells → Any (λ (cell : Cell). store_in cell ≡ Some rec) cells
    by store rec (inl none) = absurd (no_record store rec none)
    by store rec (inr any) = any
