-- All constraints of a rule are asked of a store.
use Rattle.std.proofs.Common.{refl, ◌≡◌, ◌≢◌, ℕ, zero, suc, Bool, true, false, ◌&&◌, List, [], ◌∷◌, All, Contains, ap, sym, ◌∙◌, arith}
use Rattle.std.proofs.lemmas.List.Elements.{All-head, All-tail}
use Rattle.pd_types.specs.declared.store.Label.{Label}
use Rattle.pd_types.specs.declared.rule.Constraint.{Constraint}
use Rattle.std.specs.Cmp.Lexicographic.{bytes_decides, same_text}
use Rattle.std.specs.Str.{bytes_eq}
use Rattle.store_table.specs.declared.entry.StoreEntry.{StoreEntry}
use Rattle.rule_fit.specs.Isolation.{differ_in, score_beside}
use Rattle.rule_fit.specs.Suits.{satisfies, satisfies_all, value_of}

and_false : (a b : Bool) → b ≡ false → (a && b) ≡ false
and_false true b h = h
and_false false b h = refl

pub one_fails : (labels : List Label) (list : List Constraint) (one : Constraint) → Contains list one → satisfies labels one ≡ false → satisfies_all labels list ≡ false
one_fails labels [] one c refused = absurd (omega (arith, c.1))
one_fails labels (x ∷ xs) one (zero, low, at) refused = rw (ap (satisfies labels) at ∙ refused) refl
one_fails labels (x ∷ xs) one (suc k, low, at) refused = and_false (satisfies labels x) (satisfies_all labels xs) (one_fails labels xs one (k, omega arith, at) refused)

pub all_pass : (labels : List Label) (list : List Constraint) → All (λ (one : Constraint). satisfies labels one ≡ true) list → satisfies_all labels list ≡ true
all_pass labels [] h = refl
all_pass labels (x ∷ xs) h =
    rw (All-head (λ (one : Constraint). satisfies labels one ≡ true) x xs h) (all_pass labels xs (All-tail (λ (one : Constraint). satisfies labels one ≡ true) x xs h))

-- the first label with a key counts
pub value_first : (label : Label) (labels : List Label) → value_of label.key (label ∷ labels) ≡ label.value
value_first label labels = rw ((bytes_decides label.key label.key).1 refl) refl

pub value_behind : (key : List ℕ) (label : Label) (labels : List Label) → label.key ≢ key → value_of key (label ∷ labels) ≡ value_of key labels
value_behind key label labels other = by (bytes_eq label.key key) refl
  where
    by : (same : Bool) → bytes_eq label.key key ≡ same → value_of key (label ∷ labels) ≡ value_of key labels
    by true is = absurd (other (same_text label.key key (sym is)))
    by false is = rw is refl

-- stores that differ in no label are worth nothing
pub score_none : (stores : List StoreEntry) (one other : ℕ) (labels : List (List ℕ)) → All (λ (label : List ℕ). differ_in stores one other label ≡ false) labels → score_beside stores one other labels ≡ 0
score_none stores one other [] same = refl
score_none stores one other (label ∷ labels) same =
    rw (All-head (λ (label : List ℕ). differ_in stores one other label ≡ false) label labels same) (score_none stores one other labels (All-tail (λ (label : List ℕ). differ_in stores one other label ≡ false) label labels same))
