-- Stores are read as they are written.
use Rattle.std.proofs.Common.{refl, ◌≡◌, ℕ, zero, suc, ◌+◌, ◌-◌, ◌<◌, ◌≤◌, ◌^◌, Bool, true, false, cond, ◌&&◌, nat_eq, nat_lt, List, [], ◌∷◌, ◌++◌, length, map, take, drop, get_or, replicate, All, Option, Some, None, ap, sym, ◌∙◌, subst, append_assoc, append-nil, arith}
use Rattle.std.specs.Prelude.{codes}
use Rattle.std.specs.Fmt.{char_count, decimal, format_spec, padded_integral}
use Rattle.std.specs.List.{join_with_byte, list_any, slice_split}
use Rattle.std.specs.Option.{option_map}
use Rattle.std.specs.Str.{bytes_eq}
use Rattle.std.specs.Str.Parse.{AllDigits, digits_value}
use Rattle.std.proofs.lemmas.Bool.Decides.{nat_tests}
use Rattle.std.proofs.lemmas.Fmt.{decimal_is_IsNumeral}
use Rattle.std.proofs.lemmas.List.{length-drop, length-take, take_all, take_more}
use Rattle.std.proofs.lemmas.List.Elements.{All-cons, All-nil}
use Rattle.std.proofs.lemmas.List.Folds.{list_any_at}
use Rattle.std.proofs.lemmas.List.Splits.{join_with_byte-slice_split, length-slice_split}
use Rattle.pd_types.specs.declared.store.Label.{Label}
use Rattle.pd_types.specs.declared.store.StoreRec.{StoreRec}
use Rattle.pd_types.specs.declared.store.StoreState.{StoreState}
use Rattle.pd_types.specs.declared.store.StoreState.TheVariants.{Up, Offline, Tombstone}
use Rattle.pd_types.proofs.KeyLemmas.{equal_keys, same_keys}
use Rattle.pd_lines.specs.Labels.{AreLabels, labels_of, labels_text, label_text}
use Rattle.pd_lines.specs.Plain.{address_of, is_plain}
use Rattle.pd_types.proofs.Bools.{and_true}
use Rattle.pd_lines.proofs.Listing.{cut_again, labels_read, labels_written, no_labels, plain_lacks_space, text_lacks_space, then_some, when_some}
use Rattle.meta_store.specs.Stores.{Fields, IsStore, fields_by, fields_of, id_of, key_value, labels_word, state_of, state_word, store_by, store_bytes, store_key, store_of, stored_labels, twenty}

-- zeros in front change no value
zeros_digits : (k : ℕ) (ds : List ℕ) → AllDigits 10 ds → AllDigits 10 (replicate k 48 ++ ds)
zeros_digits zero ds all = all
zeros_digits (suc k) ds all = (omega arith, zeros_digits k ds all)

zeros_value : (k : ℕ) (ds : List ℕ) → digits_value 10 (replicate k 48 ++ ds) ≡ digits_value 10 ds
zeros_value zero ds = refl
zeros_value (suc k) ds = zeros_value k ds

pub twenty_digits : (n : ℕ) → n < 2 ^ 64 → AllDigits 10 (twenty n)
twenty_digits n low = zeros_digits (20 - length (decimal n)) (decimal n) (decimal_is_IsNumeral n low).0.1

twenty_value : (n : ℕ) → n < 2 ^ 64 → digits_value 10 (twenty n) ≡ n
twenty_value n low = zeros_value (20 - length (decimal n)) (decimal n) ∙ (decimal_is_IsNumeral n low).1

pub key_value_is : (n : ℕ) → n < 2 ^ 64 → key_value (store_key n) ≡ n
key_value_is n low = twenty_value n low

-- keys
id_again : (n : ℕ) → 0 < n → n < 2 ^ 63 → id_of (store_key n) ≡ Some n
id_again n some low =
    let value : key_value (store_key n) ≡ n = key_value_is n (omega arith) in
    let above : nat_lt 0 n ≡ true = grind (arith, nat_tests) in
    let below : nat_lt n (2 ^ 63) ≡ true = grind (arith, nat_tests) in
    let same : bytes_eq (store_key n) (store_key n) ≡ true = equal_keys (store_key n) (store_key n) refl in
    rw (value, above, below, same) refl

record IsKeyOf (key : List ℕ) (id : ℕ) : Type 0 where
  some : 0 < id
  low : id < 2 ^ 63
  is : key ≡ store_key id

id_ok : (key : List ℕ) (id : ℕ) → id_of key ≡ Some id → IsKeyOf key id
id_ok key id is =
    let v : ℕ = key_value key in
    let passed = when_some (nat_lt 0 v && nat_lt v (2 ^ 63) && bytes_eq (store_key v) key) v id is in
    let first = and_true (nat_lt 0 v && nat_lt v (2 ^ 63)) (bytes_eq (store_key v) key) passed.0 in
    let ranges = and_true (nat_lt 0 v) (nat_lt v (2 ^ 63)) first.0 in
    let made : IsKeyOf key v = record { some = grind (arith, nat_tests, ranges.0); low = grind (arith, nat_tests, ranges.1); is = sym (same_keys (store_key v) key first.1) } in
    subst (IsKeyOf key) passed.1 made

-- no byte of the word is a space
lacks_by : (word : List ℕ) → list_any (λ b. nat_eq b 32) word ≡ false → All (λ b. nat_eq b 32 ≡ false) word
lacks_by word none k d low = by (nat_eq (get_or word k d) 32) refl
  where
    by : (t : Bool) → nat_eq (get_or word k d) 32 ≡ t → t ≡ false
    by true space = absurd (let any = list_any_at (λ b. nat_eq b 32) word k d low space in cc)
    by false space = refl

-- states
state_ok : (word : List ℕ) (state : StoreState) → state_of word ≡ Some state → word ≡ state_word state
state_ok word state is = by (bytes_eq word (codes "up")) refl (bytes_eq word (codes "offline")) refl (bytes_eq word (codes "tombstone")) refl is
  where
    by : (a : Bool) → bytes_eq word (codes "up") ≡ a → (b : Bool) → bytes_eq word (codes "offline") ≡ b → (c : Bool) → bytes_eq word (codes "tombstone") ≡ c
        → cond {A = Option StoreState} a (Some Up) (cond b (Some Offline) (cond c (Some Tombstone) None)) ≡ Some state → word ≡ state_word state
    by true up b off c grave is = same_keys word (codes "up") up ∙ ap state_word (let s : Up ≡ state = cc in s)
    by false up true off c grave is = same_keys word (codes "offline") off ∙ ap state_word (let s : Offline ≡ state = cc in s)
    by false up false off true grave is = same_keys word (codes "tombstone") grave ∙ ap state_word (let s : Tombstone ≡ state = cc in s)
    by false up false off false grave is = absurd cc

state_again : (state : StoreState) → state_of (state_word state) ≡ Some state
state_again Up = refl
state_again Offline = refl
state_again Tombstone = refl

state_lacks : (state : StoreState) → All (λ b. nat_eq b 32 ≡ false) (state_word state)
state_lacks Up = lacks_by (codes "up") refl
state_lacks Offline = lacks_by (codes "offline") refl
state_lacks Tombstone = lacks_by (codes "tombstone") refl

-- labels
labels_ok : (word : List ℕ) (labels : List Label) → stored_labels word ≡ Some labels → AreLabels labels × (word ≡ labels_word labels)
labels_ok word labels is = by (bytes_eq word (codes "-")) refl is
  where
    some_text : (l : List Label) → 0 < length l → labels_text l ≡ labels_word l
    some_text [] some = absurd (omega (arith, some))
    some_text (label ∷ l) some = refl

    by : (t : Bool) → bytes_eq word (codes "-") ≡ t → cond {A = Option (List Label)} t (Some []) (labels_of word) ≡ Some labels → AreLabels labels × (word ≡ labels_word labels)
    by true dash is =
        let none : [] ≡ labels = cc in
        (subst AreLabels none no_labels, same_keys word (codes "-") dash ∙ ap labels_word none)
    by false dash is =
        let read = labels_read word labels is in
        (read.0, read.2 ∙ some_text labels read.1)

not_dash : (l : List Label) → AreLabels l → 0 < length l → bytes_eq (labels_text l) (codes "-") ≡ false
not_dash l good some = by (bytes_eq (labels_text l) (codes "-")) refl
  where
    by : (t : Bool) → bytes_eq (labels_text l) (codes "-") ≡ t → t ≡ false
    by true dash = absurd (let read : labels_of (codes "-") ≡ Some l = subst (λ w. labels_of w ≡ Some l) (same_keys (labels_text l) (codes "-") dash) (labels_written l good some) in let none : labels_of (codes "-") ≡ None = refl in cc)
    by false dash = refl

labels_again : (l : List Label) → AreLabels l → stored_labels (labels_word l) ≡ Some l
labels_again [] good = refl
labels_again (label ∷ l) good = rw (not_dash (label ∷ l) good (omega arith)) (labels_written (label ∷ l) good (omega arith))

labels_lack : (l : List Label) → AreLabels l → All (λ b. nat_eq b 32 ≡ false) (labels_word l)
labels_lack [] good = lacks_by (codes "-") refl
labels_lack (label ∷ l) good = text_lacks_space (label ∷ l) good

-- fields
three_parts : (parts : List (List ℕ)) (fields : Fields) → fields_by parts ≡ Some fields → parts ≡ fields.state ∷ fields.address ∷ fields.labels ∷ []
three_parts [] fields is = absurd cc
three_parts (a ∷ []) fields is = absurd cc
three_parts (a ∷ b ∷ []) fields is = absurd cc
three_parts (a ∷ b ∷ c ∷ []) fields is = ap (λ (f : Fields). f.state ∷ f.address ∷ f.labels ∷ []) (let s : record { state = a; address = b; labels = c } ≡ fields = cc in s)
three_parts (a ∷ b ∷ c ∷ d ∷ rest) fields is = absurd cc

fields_ok : (bytes : List ℕ) (fields : Fields) → fields_of bytes ≡ Some fields → bytes ≡ fields.state ++ 32 ∷ (fields.address ++ 32 ∷ fields.labels)
fields_ok bytes fields is =
    sym (join_with_byte-slice_split 32 bytes) ∙ ap (join_with_byte 32) (three_parts (slice_split (λ b. nat_eq b 32) bytes) fields is)

address_ok : (b : Bool) (word x : List ℕ) → cond {A = Option (List ℕ)} b (Some word) None ≡ Some x → (b ≡ true) × (word ≡ x)
address_ok true word x is = (refl, cc)
address_ok false word x is = absurd cc

record IsRecordOf (id : ℕ) (fields : Fields) (store : StoreRec) : Type 0 where
  same : store.id ≡ id
  state : fields.state ≡ state_word store.state
  plain : is_plain 64 store.address ≡ true
  address : fields.address ≡ store.address
  good : AreLabels store.labels
  labels : fields.labels ≡ labels_word store.labels

made_of : (o : Option (List Label)) (id : ℕ) (state : StoreState) (address : List ℕ) (store : StoreRec)
    → option_map (λ labels. let s : StoreRec = record { id = id; address = address; labels = labels; state = state } in s) o ≡ Some store
    → (labels : List Label) × (o ≡ Some labels) × ((let s : StoreRec = record { id = id; address = address; labels = labels; state = state } in s) ≡ store)
made_of None id state address store is = absurd cc
made_of (Some labels) id state address store is = (labels, refl, cc)

store_by_ok : (id : ℕ) (fields : Fields) (store : StoreRec) → store_by id fields ≡ Some store → IsRecordOf id fields store
store_by_ok id fields store is =
    let s = then_some (state_of fields.state) _ store is in
    let a = then_some (address_of fields.address) _ store s.2 in
    let l = made_of (stored_labels fields.labels) id s.0 a.0 store a.2 in
    let address = address_ok (is_plain 64 fields.address) fields.address a.0 a.1 in
    let listed = labels_ok fields.labels l.0 l.1 in
    subst (IsRecordOf id fields) l.2
    (record {
      same = refl;
      state = state_ok fields.state s.0 s.1;
      plain = subst (λ (w : List ℕ). is_plain 64 w ≡ true) address.1 address.0;
      address = address.1;
      good = listed.0;
      labels = listed.1;
    })

pub store_read : (key bytes : List ℕ) (store : StoreRec) → store_of key bytes ≡ Some store → IsStore store × (key ≡ store_key store.id) × (bytes ≡ store_bytes store)
store_read key bytes store is =
    let i = then_some (id_of key) _ store is in
    let f = then_some (fields_of bytes) (store_by i.0) store i.2 in
    let k = id_ok key i.0 i.1 in
    let r = store_by_ok i.0 f.0 store f.2 in (
      record { some = subst (λ (n : ℕ). 0 < n) (sym r.same) k.some; low = subst (λ (n : ℕ). n < 2 ^ 63) (sym r.same) k.low; address = r.plain; labels = r.good },
      k.is ∙ ap store_key (sym r.same),
      fields_ok bytes f.0 f.1 ∙ rw (r.state, r.address, r.labels) refl,
    )

fields_again : (store : StoreRec) → IsStore store → fields_of (store_bytes store) ≡ Some (record { state = state_word store.state; address = store.address; labels = labels_word store.labels })
fields_again store good =
    let lacks : All (λ (w : List ℕ). All (λ b. nat_eq b 32 ≡ false) w) (state_word store.state ∷ store.address ∷ labels_word store.labels ∷ []) =
    All-cons (λ (w : List ℕ). All (λ b. nat_eq b 32 ≡ false) w) (state_word store.state) (store.address ∷ labels_word store.labels ∷ []) (state_lacks store.state)
    (All-cons (λ (w : List ℕ). All (λ b. nat_eq b 32 ≡ false) w) store.address (labels_word store.labels ∷ []) (plain_lacks_space 64 store.address good.address)
    (All-cons (λ (w : List ℕ). All (λ b. nat_eq b 32 ≡ false) w) (labels_word store.labels) [] (labels_lack store.labels good.labels) (All-nil (λ (w : List ℕ). All (λ b. nat_eq b 32 ≡ false) w)))) in
    ap fields_by (cut_again 32 (state_word store.state) (store.address ∷ labels_word store.labels ∷ []) lacks)

pub store_written : (store : StoreRec) → IsStore store → store_of (store_key store.id) (store_bytes store) ≡ Some store
store_written store good =
    let id = id_again store.id good.some good.low in
    let fields = fields_again store good in
    let state = state_again store.state in
    let labels = labels_again store.labels good.labels in
    rw (id, fields, state, good.address, labels) refl

-- a key whose digits don't fit is no store's
pub no_id : (key : List ℕ) → (AllDigits 10 (drop 6 key) → 2 ^ 64 ≤ key_value key) → id_of key ≡ None
no_id key large = by (id_of key) refl
  where
    by : (o : Option ℕ) → id_of key ≡ o → o ≡ None
    by None is = refl
    by (Some id) is =
        let k = id_ok key id is in
        let digits : AllDigits 10 (drop 6 key) = subst (λ (w : List ℕ). AllDigits 10 (drop 6 w)) (sym k.is) (twenty_digits id (omega (arith, k.low))) in
        let value : key_value key ≡ id = ap key_value k.is ∙ key_value_is id (omega (arith, k.low)) in
        absurd (omega (arith, large digits, value, k.low))

pub out_of_range : (key : List ℕ) → ((0 < key_value key) × (key_value key < 2 ^ 63) → ⊥) → id_of key ≡ None
out_of_range key out = by (id_of key) refl
  where
    by : (o : Option ℕ) → id_of key ≡ o → o ≡ None
    by None is = refl
    by (Some id) is =
        let k = id_ok key id is in
        let value : key_value key ≡ id = ap key_value k.is ∙ key_value_is id (omega (arith, k.low)) in
        absurd (out (omega (arith, k.some, value), omega (arith, k.low, value)))

-- four words and more are no record
more_parts : (a b c : List ℕ) (parts : List (List ℕ)) → 0 < length parts → fields_by (a ∷ b ∷ c ∷ parts) ≡ None
more_parts a b c [] some = absurd (omega (arith, some))
more_parts a b c (part ∷ parts) some = refl

pub too_many : (word a r1 b r2 c r3 : List ℕ) → slice_split (λ x. nat_eq x 32) word ≡ a ∷ slice_split (λ x. nat_eq x 32) r1 → slice_split (λ x. nat_eq x 32) r1 ≡ b ∷ slice_split (λ x. nat_eq x 32) r2 → slice_split (λ x. nat_eq x 32) r2 ≡ c ∷ slice_split (λ x. nat_eq x 32) r3 → fields_of word ≡ None
too_many word a r1 b r2 c r3 first second third =
    ap fields_by (first ∙ ap (λ (ps : List (List ℕ)). a ∷ ps) (second ∙ ap (λ (ps : List (List ℕ)). b ∷ ps) third))
    ∙ more_parts a b c (slice_split (λ x. nat_eq x 32) r3) (omega (arith, length-slice_split (λ x. nat_eq x 32) r3))

-- twenty digits, as they are laid out
pub laid_out : (n : ℕ) → padded_integral (format_spec 32 0 4 20 (2 ^ 64 - 1)) false [] (decimal n) ≡ twenty n
unfolding padded_integral char_count
laid_out n =
    let all : 20 - length (decimal n) - 0 - 0 ≡ 20 - length (decimal n) = omega arith in
    ap (λ (k : ℕ). replicate k 48 ++ (decimal n ++ [])) all ∙ ap (λ (l : List ℕ). replicate (20 - length (decimal n)) 48 ++ l) (append-nil (decimal n))

-- one label more
joined_more : (parts : List (List ℕ)) (part : List ℕ) → 0 < length parts → join_with_byte 44 (parts ++ part ∷ []) ≡ join_with_byte 44 parts ++ 44 ∷ part
joined_more [] part some = absurd (omega (arith, some))
joined_more (one ∷ []) part some = refl
joined_more (one ∷ next ∷ parts) part some =
    ap (λ (l : List ℕ). one ++ 44 ∷ l) (joined_more (next ∷ parts) part (omega arith)) ∙ sym (append_assoc one (44 ∷ join_with_byte 44 (next ∷ parts)) (44 ∷ part))

texts_push : (l : List Label) (label : Label) → map label_text (l ++ label ∷ []) ≡ map label_text l ++ label_text label ∷ []
texts_push [] label = refl
texts_push (one ∷ l) label = ap (λ (ts : List (List ℕ)). label_text one ∷ ts) (texts_push l label)

long_texts : (l : List Label) → length (map label_text l) ≡ length l
long_texts [] = refl
long_texts (one ∷ l) = ap suc (long_texts l)

pub first_put : (front now : List ℕ) (labels : List Label) (i : ℕ) (d : Label) → i ≡ 0 → i < length labels → now ≡ front ++ labels_text (take i labels) → now ++ label_text (get_or labels i d) ≡ front ++ labels_text (take (i + 1) labels)
first_put front now [] i d none within is = absurd (omega arith)
first_put front now (label ∷ labels) zero d none within is = ap (λ (l : List ℕ). l ++ label_text label) (is ∙ append-nil front)
first_put front now (label ∷ labels) (suc i) d none within is = absurd (omega arith)

pub next_put : (front now : List ℕ) (labels : List Label) (i : ℕ) (d : Label) → 0 < i → i < length labels → now ≡ front ++ labels_text (take i labels) → (now ++ 44 ∷ []) ++ label_text (get_or labels i d) ≡ front ++ labels_text (take (i + 1) labels)
next_put front now labels i d some within is =
    let long : 0 < length (map label_text (take i labels)) = omega (arith, long_texts (take i labels), length-take i labels) in
    let more : labels_text (take (i + 1) labels) ≡ labels_text (take i labels) ++ 44 ∷ label_text (get_or labels i d) =
    ap labels_text (take_more labels i d within) ∙ ap (join_with_byte 44) (texts_push (take i labels) (get_or labels i d)) ∙ joined_more (map label_text (take i labels)) (label_text (get_or labels i d)) long in
    append_assoc now (44 ∷ []) (label_text (get_or labels i d)) ∙ ap (λ (l : List ℕ). l ++ 44 ∷ label_text (get_or labels i d)) is
    ∙ append_assoc front (labels_text (take i labels)) (44 ∷ label_text (get_or labels i d)) ∙ ap (λ (l : List ℕ). front ++ l) (sym more)

pub all_put : (front now : List ℕ) (labels : List Label) (i : ℕ) → 0 < length labels → length labels ≤ i → now ≡ front ++ labels_text (take i labels) → now ≡ front ++ labels_word labels
all_put front now [] i some end is = absurd (omega arith)
all_put front now (label ∷ labels) i some end is = is ∙ ap (λ (l : List Label). front ++ labels_text l) (take_all i (label ∷ labels) end)

-- the id of a key that was written again
pub same_id : (key written : List ℕ) (id : ℕ) → id ≡ key_value key → 0 < id → id < 2 ^ 63 → written ≡ store_key id → bytes_eq written key ≡ true → id_of key ≡ Some id
same_id key written id value some low is same = subst (λ (w : List ℕ). id_of w ≡ Some id) (sym is ∙ same_keys written key same) (id_again id some low)

pub other_id : (key written : List ℕ) (id : ℕ) → id ≡ key_value key → written ≡ store_key id → bytes_eq written key ≡ false → id_of key ≡ None
other_id key written id value is other = by (id_of key) refl
  where
    by : (o : Option ℕ) → id_of key ≡ o → o ≡ None
    by None known = refl
    by (Some n) known =
        let k = id_ok key n known in
        let same : n ≡ id = sym (ap key_value k.is ∙ key_value_is n (omega (arith, k.low))) ∙ sym value in
        absurd (let equal : bytes_eq written key ≡ true = equal_keys written key (is ∙ ap store_key (sym same) ∙ sym k.is) in cc)

pub one_put : (front now new : List ℕ) (labels : List Label) (i : ℕ) (label : Label) → i < length labels → now ≡ front ++ labels_text (take i labels) → label ≡ get_or labels i label
    → (i ≡ 0 → new ≡ now ++ label_text label) → (0 < i → new ≡ (now ++ 44 ∷ []) ++ label_text label) → new ≡ front ++ labels_text (take (i + 1) labels)
one_put front now new labels zero label within is here first next =
    first refl ∙ ap (λ (l : Label). now ++ label_text l) here ∙ first_put front now labels 0 label refl within is
one_put front now new labels (suc i) label within is here first next =
    next (omega arith) ∙ ap (λ (l : Label). (now ++ 44 ∷ []) ++ label_text l) here ∙ next_put front now labels (suc i) label (omega arith) within is

-- what a slice from 6 on is seen as
pub behind : (key : List ℕ) → take (length key - 6) (drop 6 key) ≡ drop 6 key
behind key = take_all _ _ (omega (arith, length-drop 6 key))
