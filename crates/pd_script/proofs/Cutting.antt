-- Words cut at a byte, and lists that are read from left to right.
use Rattle.std.proofs.Common.{◌≡◌, ℕ, suc, ◌+◌, ◌-◌, ◌<◌, ◌≤◌, List, [], ◌∷◌, ◌++◌, true, false, length, take, drop, get_or, Option, Some, None, Result, Ok, Err, refl, sym, ap, ◌∙◌, arith, length-drop, add-one, append_assoc}
use Rattle.std.specs.Option.{is_some}
use Rattle.std.proofs.lemmas.List.{take_more, take_all, drop_all}
use Rattle.std.proofs.Math.Seq.{drop-cons}
use Rattle.pd_script.specs.Forms.{in_front, is_colon, is_separator, items_behind, items_from, items_of, unless_colon}
use Rattle.pd_script.specs.declared.refusal.Reason.{Reason}
use Rattle.pd_script.specs.declared.refusal.Reason.TheVariants.{BadWord}

pub never : false ≡ true → ⊥
never e = cc

-- one more byte of an item
at_separator : (item rest : List ℕ) (b : ℕ) → is_separator b ≡ true → items_from item (b ∷ rest) ≡ record { text = item; behind = Some b } ∷ items_from [] rest
at_separator item rest b e = rw e refl

past_byte : (item rest : List ℕ) (b : ℕ) → is_separator b ≡ false → items_from item (b ∷ rest) ≡ items_from (item ++ b ∷ []) rest
past_byte item rest b e = rw e refl

pub item_goes_on : (word : List ℕ) (i : ℕ) → i < length word → is_separator (get_or word i 0) ≡ false → items_from [] word ≡ items_from (take i word) (drop i word) → items_from [] word ≡ items_from (take (i + 1) word) (drop (i + 1) word)
item_goes_on word i within other e =
    let cut = rw (drop-cons word i 0 within) at e in
    rw (take_more word i 0 within, add-one) (cut ∙ past_byte (take i word) (drop (suc i) word) (get_or word i 0) other)

-- what a slice from i on is seen as
pub rest_is : (word : List ℕ) (i : ℕ) → take (length word - i) (drop i word) ≡ drop i word
rest_is word i = take_all _ _ (omega (arith, length-drop i word))

pub item_ends : (word : List ℕ) (i : ℕ) → i < length word → is_separator (get_or word i 0) ≡ true → items_from [] word ≡ items_from (take i word) (drop i word)
    → items_of word ≡ record { text = take i word; behind = Some (get_or word i 0) } ∷ items_behind (Some (get_or word i 0)) (take (length word - (i + 1)) (drop (i + 1) word))
item_ends word i within separator e =
    let cut = rw (drop-cons word i 0 within) at e in
    rw (rest_is word (i + 1), add-one) (cut ∙ at_separator (take i word) (drop (suc i) word) (get_or word i 0) separator)

pub item_is_last : (word : List ℕ) (i : ℕ) → length word ≤ i → items_from [] word ≡ items_from (take i word) (drop i word) → items_of word ≡ record { text = word; behind = None } ∷ []
item_is_last word i end e = rw (take_all i word end, drop_all i word end) at e

-- a list that is read from left to right
-- elements in front of the rest
abbrev pub all_in_front : {A : Type 0} → List A → Result (List A) Reason → Result (List A) Reason
all_in_front front (Ok rest) = Ok (front ++ rest)
all_in_front front (Err reason) = Err reason

pub none_in_front : {A : Type 0} (r : Result (List A) Reason) → r ≡ all_in_front [] r
none_in_front (Ok rest) = refl
none_in_front (Err reason) = refl

one_in_front : {A : Type 0} (xs : List A) (a : A) (r : Result (List A) Reason) → all_in_front xs (in_front a r) ≡ all_in_front (xs ++ a ∷ []) r
one_in_front xs a (Ok rest) = ap Ok (sym (append_assoc xs (a ∷ []) rest))
one_in_front xs a (Err reason) = refl

no_colon : {A : Type 0} (behind : Option ℕ) (r : Result (List A) Reason) → is_colon behind ≡ false → unless_colon behind r ≡ r
no_colon behind r other = rw other refl

at_colon : {A : Type 0} (behind : Option ℕ) (r : Result (List A) Reason) → is_colon behind ≡ true → unless_colon behind r ≡ Err BadWord
at_colon behind r colon = rw colon refl

pub list_goes_on : {A : Type 0} (whole r next : Result (List A) Reason) (xs : List A) (a : A) (behind : Option ℕ) → is_colon behind ≡ false → whole ≡ all_in_front xs r → r ≡ in_front a (unless_colon behind next) → whole ≡ all_in_front (xs ++ a ∷ []) next
list_goes_on whole r next xs a behind other e is = e ∙ ap (all_in_front xs) (is ∙ ap (in_front a) (no_colon behind next other)) ∙ one_in_front xs a next

pub list_ends : {A : Type 0} (whole r : Result (List A) Reason) (xs : List A) (a : A) → whole ≡ all_in_front xs r → r ≡ in_front a (unless_colon None (Ok [])) → whole ≡ Ok (xs ++ a ∷ [])
list_ends whole r xs a e is = e ∙ ap (all_in_front xs) is

pub list_stops : {A : Type 0} (whole r next : Result (List A) Reason) (xs : List A) (a : A) (behind : Option ℕ) → is_colon behind ≡ true → whole ≡ all_in_front xs r → r ≡ in_front a (unless_colon behind next) → whole ≡ Err BadWord
list_stops whole r next xs a behind colon e is = e ∙ ap (all_in_front xs) (is ∙ ap (in_front a) (at_colon behind next colon))

pub list_fails : {A : Type 0} (whole r : Result (List A) Reason) (xs : List A) (reason : Reason) → whole ≡ all_in_front xs r → r ≡ Err reason → whole ≡ Err reason
list_fails whole r xs reason e is = e ∙ ap (all_in_front xs) is

-- behind a separator
pub some_behind : (behind : Option ℕ) (rest : List ℕ) → is_some behind ≡ true → items_behind behind rest ≡ items_of rest
some_behind None rest some = absurd (never some)
some_behind (Some b) rest some = refl
