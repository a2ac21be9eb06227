-- What the records tell that a lead handed out, one after another.
use Rattle.std.proofs.Common.{refl, ◌≡◌, ℕ, zero, suc, ◌+◌, ◌<◌, Bool, true, false, cond, nat_le, List, [], ◌∷◌, length, get_or, map, take, fold, ap, sym, ◌∙◌, Option, Some, None, arith}
use Rattle.std.proofs.lemmas.List.{length-map}
use Rattle.pd_types.specs.declared.store.StoreRec.{StoreRec}
use Rattle.store_table.specs.declared.entry.StoreEntry.{StoreEntry}
use Rattle.store_table.specs.declared.table.TheConstants.{MOST_STORES}
use Rattle.store_table.specs.Entries.{placed}
use Rattle.meta_store.specs.declared.record.Cell.{Cell}
use Rattle.pd_types.specs.declared.rule.Rule.{Rule}
use Rattle.pd_state.specs.StoredRules.{rule_in}
use Rattle.pd_state.specs.HandedOut.{rule_more, rules_told, store_in, store_more, stores_told, with_record}
use Rattle.pd_state.specs.Steps.{entry_more, loaded_at}
use Rattle.pd_state.proofs.Rows.{placed_map}

-- one record more
fold_take : {B : Type 0} (f : B → Cell → B) (b : B) (cells : List Cell) (i : ℕ) (d : Cell) → i < length cells → fold f b (take (i + 1) cells) ≡ f (fold f b (take i cells)) (get_or cells i d)
fold_take f b [] i d low = absurd (omega (arith, low))
fold_take f b (x ∷ cells) zero d low = refl
fold_take f b (x ∷ cells) (suc i) d low =
    let next : suc i + 1 ≡ suc (i + 1) = omega arith in
    ap (λ (n : ℕ). fold f b (take n (x ∷ cells))) next ∙ fold_take f (f b x) cells i d (omega (arith, low))

pub rules_next : (cells : List Cell) (i : ℕ) (d : Cell) → i < length cells → rules_told (take (i + 1) cells) ≡ rule_more (rule_in (get_or cells i d)) (rules_told (take i cells))
rules_next cells i d low = fold_take (λ (rules : List Rule) (cell : Cell). rule_more (rule_in cell) rules) [] cells i d low

-- the entries of the stores that were told
more_map : (moment : ℕ) (o : Option StoreRec) (recs : List StoreRec) → entry_more moment o (map (loaded_at moment) recs) ≡ map (loaded_at moment) (store_more o recs)
more_map moment None recs = refl
more_map moment (Some rec) recs = ap (λ (n : ℕ). cond (nat_le MOST_STORES n) (map (loaded_at moment) recs) (placed (loaded_at moment rec) (map (loaded_at moment) recs))) (length-map recs (loaded_at moment)) ∙ by (nat_le MOST_STORES (length recs))
  where
    by : (t : Bool) → cond t (map (loaded_at moment) recs) (placed (loaded_at moment rec) (map (loaded_at moment) recs)) ≡ map (loaded_at moment) (cond t recs (with_record rec recs))
    by true = refl
    by false = placed_map (loaded_at moment) (loaded_at moment) (λ r. refl) rec (loaded_at moment rec) refl refl (λ r h. refl) recs

pub stores_next : (moment : ℕ) (cells : List Cell) (i : ℕ) (d : Cell) (stores : List StoreEntry) → i < length cells → stores ≡ map (loaded_at moment) (stores_told (take i cells))
    → entry_more moment (store_in (get_or cells i d)) stores ≡ map (loaded_at moment) (stores_told (take (i + 1) cells))
stores_next moment cells i d stores low is =
    ap (entry_more moment (store_in (get_or cells i d))) is ∙ more_map moment (store_in (get_or cells i d)) (stores_told (take i cells))
    ∙ ap (map (loaded_at moment)) (sym (fold_take (λ (recs : List StoreRec) (cell : Cell). store_more (store_in cell) recs) [] cells i d low))
