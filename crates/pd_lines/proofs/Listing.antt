-- Labels are read as they are written.
use Rattle.std.proofs.Common.{refl, ◌≡◌, ◌≢◌, ℕ, suc, ◌<◌, Bool, true, false, not, cond, ◌&&◌, nat_eq, nat_lt, nat_le, List, [], ◌∷◌, ◌++◌, length, map, get_or, All, Option, Some, None, ap, sym, ◌∙◌, subst, append_assoc, append-nil, arith}
use Rattle.std.specs.List.{AllPairs, join_with_byte, list_all, slice_split}
use Rattle.std.specs.Option.{option_and_then}
use Rattle.std.specs.Str.{bytes_eq}
use Rattle.std.proofs.lemmas.Bool.Decides.{nat_tests}
use Rattle.std.proofs.lemmas.List.{length-append}
use Rattle.std.proofs.lemmas.List.Elements.{All-append, All-cons, All-head, All-map, All-tail, All-nil}
use Rattle.std.proofs.lemmas.List.Folds.{list_any_at, list_any_none}
use Rattle.std.proofs.lemmas.List.Quantifiers.{all_pairs_push}
use Rattle.std.proofs.lemmas.List.Splits.{slice_split_at, slice_split_none, length-slice_split, join_with_byte-slice_split}
use Rattle.std.proofs.lemmas.Slice.Eq.{bytes_eq-Decides}
use Rattle.pd_types.specs.declared.store.Label.{Label}
use Rattle.pd_types.proofs.Pairs.{pairs_head, pairs_tail}
use Rattle.pd_lines.specs.Labels.{AreLabels, has_key, label_by, label_of, label_text, labels_from, labels_of, labels_text, with_label}
use Rattle.pd_lines.specs.Plain.{is_plain, is_plain_byte}
use Rattle.pd_types.proofs.Bools.{and_true}

-- what a test lets through
pub when_some : {A : Type 0} (b : Bool) (x y : A) → cond {A = Option A} b (Some x) None ≡ Some y → (b ≡ true) × (x ≡ y)
when_some true x y is = (refl, cc)
when_some false x y is = cc

pub then_some : {A B : Type 0} (o : Option A) (f : A → Option B) (y : B) → option_and_then f o ≡ Some y → (x : A) × (o ≡ Some x) × (f x ≡ Some y)
then_some None f y is = cc
then_some (Some x) f y is = (x, refl, is)

no_some : {A : Type 0} (y : A) (C : Type 0) → (let o : Option A = None in o) ≡ Some y → C
no_some y C is = absurd cc

not_false : (b : Bool) → not b ≡ true → b ≡ false
not_false true is = cc
not_false false is = refl

record IsLabel (label : Label) : Type 0 where
  key : is_plain 32 label.key ≡ true
  value : is_plain 32 label.value ≡ true

-- what is read has its form
label_ok : (parts : List (List ℕ)) (label : Label) → label_by parts ≡ Some label → IsLabel label × (parts ≡ label.key ∷ label.value ∷ [])
label_ok [] label is = no_some label _ is
label_ok (key ∷ []) label is = no_some label _ is
label_ok (key ∷ value ∷ []) label is =
    let passed = when_some (is_plain 32 key && is_plain 32 value) (record { key = key; value = value }) label is in
    let both = and_true (is_plain 32 key) (is_plain 32 value) passed.0 in
    (subst IsLabel passed.1 (record { key = both.0; value = both.1 }), ap (λ (one : Label). one.key ∷ one.value ∷ []) passed.1)
label_ok (key ∷ value ∷ more ∷ rest) label is = no_some label _ is

other_keys : (label : Label) (earlier : List Label) → has_key label.key earlier ≡ false → All (λ one. one.key ≢ label.key) earlier
other_keys label earlier none k d low same =
    let found = list_any_at (λ (one : Label). bytes_eq one.key label.key) earlier k d low ((bytes_eq-Decides _ label.key).1 same) in
    cc

one_more : (earlier : List Label) (label : Label) → AreLabels earlier → IsLabel label → length earlier < 4 → has_key label.key earlier ≡ false → AreLabels (earlier ++ label ∷ [])
one_more earlier label good fine less none = record {
  few = grind (arith, length-append);
  keys = All-append (λ (one : Label). is_plain 32 one.key ≡ true) earlier (label ∷ []) good.keys (All-cons (λ (one : Label). is_plain 32 one.key ≡ true) label [] fine.key (All-nil (λ (one : Label). is_plain 32 one.key ≡ true)));
  values = All-append (λ (one : Label). is_plain 32 one.value ≡ true) earlier (label ∷ []) good.values (All-cons (λ (one : Label). is_plain 32 one.value ≡ true) label [] fine.value (All-nil (λ (one : Label). is_plain 32 one.value ≡ true)));
  distinct = all_pairs_push (λ (one later : Label). one.key ≢ later.key) earlier label good.distinct (λ k d low. other_keys label earlier none k d low);
}

with_ok : (earlier : List Label) (label : Label) (l : List Label) → AreLabels earlier → IsLabel label → with_label earlier label ≡ Some l → AreLabels l × (earlier ++ label ∷ [] ≡ l)
with_ok earlier label l good fine is =
    let passed = when_some (nat_lt (length earlier) 4 && not (has_key label.key earlier)) (earlier ++ label ∷ []) l is in
    let both = and_true (nat_lt (length earlier) 4) (not (has_key label.key earlier)) passed.0 in
    (subst AreLabels passed.1 (one_more earlier label good fine (grind (arith, nat_tests, both.0)) (not_false (has_key label.key earlier) both.1)), passed.1)

pub no_labels : AreLabels []
no_labels = record {
  few = omega arith;
  keys = All-nil (λ (one : Label). is_plain 32 one.key ≡ true);
  values = All-nil (λ (one : Label). is_plain 32 one.value ≡ true);
  distinct = λ i j d less low. absurd (omega arith);
}

-- a part is how its label is written
part_text : (part : List ℕ) (label : Label) → slice_split (λ b. nat_eq b 61) part ≡ label.key ∷ label.value ∷ [] → label_text label ≡ part
part_text part label is = sym (ap (join_with_byte 61) is) ∙ join_with_byte-slice_split 61 part

texts_more : (earlier : List Label) (label : Label) → map label_text (earlier ++ label ∷ []) ≡ map label_text earlier ++ label_text label ∷ []
texts_more [] label = refl
texts_more (one ∷ earlier) label = ap (λ (ts : List (List ℕ)). label_text one ∷ ts) (texts_more earlier label)

labels_ok : (parts : List (List ℕ)) (earlier l : List Label) → AreLabels earlier → labels_from earlier parts ≡ Some l → AreLabels l × (map label_text l ≡ map label_text earlier ++ parts)
labels_ok [] earlier l good is =
    let same : earlier ≡ l = cc in
    (subst AreLabels same good, ap (map label_text) (sym same) ∙ sym (append-nil (map label_text earlier)))
labels_ok (part ∷ parts) earlier l good is =
    let one = then_some (label_of part) (λ label. option_and_then (λ labels. labels_from labels parts) (with_label earlier label)) l is in
    let more = then_some (with_label earlier one.0) (λ labels. labels_from labels parts) l one.2 in
    let fine = label_ok (slice_split (λ b. nat_eq b 61) part) one.0 one.1 in
    let kept = with_ok earlier one.0 more.0 good fine.0 more.1 in
    let rest = labels_ok parts more.0 l kept.0 more.2 in (
      rest.0,
      rest.1 ∙ ap (λ (xs : List Label). map label_text xs ++ parts) (sym kept.1) ∙ ap (λ (ts : List (List ℕ)). ts ++ parts) (texts_more earlier one.0)
          ∙ append_assoc (map label_text earlier) (label_text one.0 ∷ []) parts
          ∙ ap (λ (t : List ℕ). map label_text earlier ++ t ∷ parts) (part_text part one.0 fine.1),
    )

length_texts : (l : List Label) → length (map label_text l) ≡ length l
length_texts [] = refl
length_texts (label ∷ l) = ap suc (length_texts l)

pub labels_read : (word : List ℕ) (l : List Label) → labels_of word ≡ Some l → AreLabels l × (0 < length l) × (word ≡ labels_text l)
labels_read word l is =
    let parts : List (List ℕ) = slice_split (λ b. nat_eq b 44) word in
    let read = labels_ok parts [] l no_labels is in
    let long : length (map label_text l) ≡ length parts = ap length read.1 in
    (read.0, omega (arith, length_texts l, long, length-slice_split (λ b. nat_eq b 44) word), sym (ap (join_with_byte 44) read.1 ∙ join_with_byte-slice_split 44 word))

-- a plain word has no such byte
abbrev Lacks : ℕ → List ℕ → Type 0
Lacks byte word = All (λ b. nat_eq b byte ≡ false) word

plain_lacks : (byte : ℕ) → is_plain_byte byte ≡ false → (word : List ℕ) → list_all is_plain_byte word ≡ true → Lacks byte word
plain_lacks byte other [] plain = All-nil (λ b. nat_eq b byte ≡ false)
plain_lacks byte other (b ∷ bs) plain =
    let both = and_true (is_plain_byte b) (list_all is_plain_byte bs) plain in
    All-cons (λ c. nat_eq c byte ≡ false) b bs (by (nat_eq b byte) refl both.0) (plain_lacks byte other bs both.1)
  where
    by : (t : Bool) → nat_eq b byte ≡ t → is_plain_byte b ≡ true → t ≡ false
    by true same plain = let here : b ≡ byte = grind (arith, nat_tests) in absurd (let one : is_plain_byte byte ≡ true = ap is_plain_byte (sym here) ∙ plain in cc)
    by false same plain = refl

pub all_plain : (most : ℕ) (word : List ℕ) → is_plain most word ≡ true → list_all is_plain_byte word ≡ true
all_plain most word is = (and_true (nat_lt 0 (length word) && nat_le (length word) most) (list_all is_plain_byte word) is).1

label_lacks : (byte : ℕ) → is_plain_byte byte ≡ false → nat_eq 61 byte ≡ false → (label : Label) → IsLabel label → Lacks byte (label_text label)
label_lacks byte other equals label fine =
    All-append (λ b. nat_eq b byte ≡ false) label.key (61 ∷ label.value) (plain_lacks byte other label.key (all_plain 32 label.key fine.key))
    (All-cons (λ b. nat_eq b byte ≡ false) 61 label.value equals (plain_lacks byte other label.value (all_plain 32 label.value fine.value)))

pub plain_lacks_space : (most : ℕ) (word : List ℕ) → is_plain most word ≡ true → All (λ b. nat_eq b 32 ≡ false) word
plain_lacks_space most word is = plain_lacks 32 refl word (all_plain most word is)

-- parts that lack the byte are cut where they were joined
pub cut_again : (byte : ℕ) (part : List ℕ) (parts : List (List ℕ)) → All (Lacks byte) (part ∷ parts) → slice_split (λ b. nat_eq b byte) (join_with_byte byte (part ∷ parts)) ≡ part ∷ parts
cut_again byte part [] lacks = slice_split_none (λ b. nat_eq b byte) part (All-head (Lacks byte) part [] lacks)
cut_again byte part (next ∷ parts) lacks =
    let hit : nat_eq byte byte ≡ true = grind (arith, nat_tests) in
    slice_split_at (λ b. nat_eq b byte) part byte (join_with_byte byte (next ∷ parts)) (All-head (Lacks byte) part (next ∷ parts) lacks) hit
    ∙ ap (λ (ps : List (List ℕ)). part ∷ ps) (cut_again byte next parts (All-tail (Lacks byte) part (next ∷ parts) lacks))

label_again : (label : Label) → IsLabel label → label_of (label_text label) ≡ Some label
label_again label fine =
    let lacks : All (Lacks 61) (label.key ∷ label.value ∷ []) = All-cons (Lacks 61) label.key (label.value ∷ []) (plain_lacks 61 refl label.key (all_plain 32 label.key fine.key))
    (All-cons (Lacks 61) label.value [] (plain_lacks 61 refl label.value (all_plain 32 label.value fine.value)) (All-nil (Lacks 61))) in
    ap label_by (cut_again 61 label.key (label.value ∷ []) lacks) ∙ rw (fine.key, fine.value) refl

all_right : {X : Type 0} (P : X → Type 0) (xs ys : List X) → All P (xs ++ ys) → All P ys
all_right P [] ys all = all
all_right P (x ∷ xs) ys all = all_right P xs ys (All-tail P x (xs ++ ys) all)

pairs_across : {X : Type 0} (R : X → X → Type 0) (xs : List X) (y : X) (ys : List X) → AllPairs R (xs ++ y ∷ ys) → All (λ x. R x y) xs
pairs_across R [] y ys pairs = All-nil (λ x. R x y)
pairs_across R (x ∷ xs) y ys pairs =
    All-cons (λ z. R z y) x xs (All-head (R x) y ys (all_right (R x) xs (y ∷ ys) (pairs_head R x (xs ++ y ∷ ys) pairs))) (pairs_across R xs y ys (pairs_tail R x (xs ++ y ∷ ys) pairs))

is_new : (label : Label) (earlier : List Label) → All (λ one. one.key ≢ label.key) earlier → has_key label.key earlier ≡ false
is_new label earlier others = list_any_none (λ (one : Label). bytes_eq one.key label.key) earlier (λ k d low. differ (get_or earlier k d).key label.key (others k d low))
  where
    differ : (a b : List ℕ) → a ≢ b → bytes_eq a b ≡ false
    differ a b other = by (bytes_eq a b) refl
      where
        by : (t : Bool) → bytes_eq a b ≡ t → bytes_eq a b ≡ false
        by true same = absurd (other ((bytes_eq-Decides a b).0 same))
        by false same = same

labels_again : (earlier rest : List Label) → AreLabels (earlier ++ rest) → labels_from earlier (map label_text rest) ≡ Some (earlier ++ rest)
labels_again earlier [] good = ap Some (sym (append-nil earlier))
labels_again earlier (label ∷ rest) good =
    let key = All-head (λ (one : Label). is_plain 32 one.key ≡ true) label rest (all_right (λ (one : Label). is_plain 32 one.key ≡ true) earlier (label ∷ rest) good.keys) in
    let value = All-head (λ (one : Label). is_plain 32 one.value ≡ true) label rest (all_right (λ (one : Label). is_plain 32 one.value ≡ true) earlier (label ∷ rest) good.values) in
    let fine : IsLabel label = record { key = key; value = value } in
    let others = pairs_across (λ (one later : Label). one.key ≢ later.key) earlier label rest good.distinct in
    let room : nat_lt (length earlier) 4 ≡ true = grind (arith, nat_tests, length-append earlier (label ∷ rest), good.few) in
    let whole : earlier ++ label ∷ rest ≡ (earlier ++ label ∷ []) ++ rest = sym (append_assoc earlier (label ∷ []) rest) in
    rw (label_again label fine, room, is_new label earlier others)
    (labels_again (earlier ++ label ∷ []) rest (subst AreLabels whole good) ∙ ap Some (sym whole))

texts_lack : (l : List Label) → AreLabels l → All (Lacks 44) (map label_text l)
texts_lack l good =
    All-map (Lacks 44) label_text l (λ k d low. label_lacks 44 refl refl (get_or l k d) (record { key = good.keys k d low; value = good.values k d low }))

-- labels as they are written have no space
spaceless : (part : List ℕ) (parts : List (List ℕ)) → All (Lacks 32) (part ∷ parts) → Lacks 32 (join_with_byte 44 (part ∷ parts))
spaceless part [] lacks = All-head (Lacks 32) part [] lacks
spaceless part (next ∷ parts) lacks =
    All-append (λ b. nat_eq b 32 ≡ false) part (44 ∷ join_with_byte 44 (next ∷ parts)) (All-head (Lacks 32) part (next ∷ parts) lacks)
    (All-cons (λ b. nat_eq b 32 ≡ false) 44 (join_with_byte 44 (next ∷ parts)) refl (spaceless next parts (All-tail (Lacks 32) part (next ∷ parts) lacks)))

pub text_lacks_space : (l : List Label) → AreLabels l → All (λ b. nat_eq b 32 ≡ false) (labels_text l)
text_lacks_space [] good = All-nil (λ b. nat_eq b 32 ≡ false)
text_lacks_space (label ∷ l) good =
    spaceless (label_text label) (map label_text l)
    (All-map (Lacks 32) label_text (label ∷ l) (λ k d low. label_lacks 32 refl refl (get_or (label ∷ l) k d) (record { key = good.keys k d low; value = good.values k d low })))

pub labels_written : (l : List Label) → AreLabels l → 0 < length l → labels_of (labels_text l) ≡ Some l
labels_written [] good some = absurd (omega (arith, some))
labels_written (label ∷ l) good some =
    ap (labels_from []) (cut_again 44 (label_text label) (map label_text l) (texts_lack (label ∷ l) good)) ∙ labels_again [] (label ∷ l) good
