-- The list of busy regions stays that of the operators that haven't ended.
use Rattle.std.proofs.Common.{◌≡◌, ◌==◌, ℕ, Bool, true, false, cond, ◌||◌, List, [], refl, sym, ap, ◌∙◌, ⊎_elim, eqb, Option, Some, None, is_some}
use Rattle.std.proofs.lemmas.Bool.{cases_eq, eq-eqb, ne_eqb, false≢true}
use Rattle.std.specs.List.{list_any}
use Rattle.std.specs.Ordering.{nat_cmp}
use Rattle.std.specs.FinMap as map
use Rattle.id_map.proofs.Inserted.{get-insert}
use Rattle.op_control.specs.declared.operator.Operator.{Operator}
use Rattle.op_control.specs.Life.{is_active}
use Rattle.op_control.specs.Table.{active_by, joined, without, IsListed}
use Rattle.op_control.proofs.ListLemmas.{any-joined, any-without, rising-joined, rising-without}

some-if : {X : Type 0} (b : Bool) (x : X) → is_some (cond b (Some x) None) ≡ b
some-if true x = refl
some-if false x = refl

active-cond : (b : Bool) (op : Operator) (other : Option Operator) → is_some (active_by (cond b (Some op) other)) ≡ cond b (is_active op.state) (is_some (active_by other))
active-cond true op other = some-if (is_active op.state) op
active-cond false op other = refl

-- which regions are busy once one has another operator
active-insert : (m : map.FinMap nat_cmp Operator) (k : ℕ) (op : Operator) (q : ℕ) → is_some (active_by (map.get (map.insert m k op) q)) ≡ cond (eqb q k) (is_active op.state) (is_some (active_by (map.get m q)))
active-insert m k op q = ap (λ o. is_some (active_by o)) (get-insert m k op q) ∙ active-cond (eqb q k) op (map.get m q)

-- two tests that agree, where the one is v at r
cond-agree : (q r : ℕ) (f : ℕ → Bool) (g : ℕ → Bool) (v : Bool) → f r ≡ v → f q ≡ g q → f q ≡ cond (eqb q r) v (g q)
cond-agree q r f g v here agree =
    ⊎_elim
    (λ same. ap f same ∙ here ∙ sym (ap (λ b. cond b v (g q)) (eq-eqb q r same)))
    (λ apart. agree ∙ sym (ap (λ b. cond b v (g q)) (ne_eqb q r apart)))
    (cases_eq q r)

-- an operator that hasn't ended takes the place of one that hadn't
pub kept-listed : (last : map.FinMap nat_cmp Operator) (busy : List ℕ) (r : ℕ) (old op : Operator) → IsListed (record { last = last; busy = busy }) → active_by (map.get last r) ≡ Some old → is_active op.state ≡ true → IsListed (record { last = map.insert last r op; busy = busy })
kept-listed last busy r old op before was active = record {
  rising = before.rising;
  active = λ q. cond-agree q r (λ k. list_any (λ one. one == k) busy) (λ k. is_some (active_by (map.get last k))) true (before.active r ∙ ap is_some was) (before.active q)
      ∙ ap (λ b. cond (eqb q r) b (is_some (active_by (map.get last q)))) (sym active) ∙ sym (active-insert last r op q);
}

-- an operator ends
pub dropped-listed : (last : map.FinMap nat_cmp Operator) (busy : List ℕ) (r : ℕ) (op : Operator) → IsListed (record { last = last; busy = busy }) → is_active op.state ≡ false → IsListed (record { last = map.insert last r op; busy = without r busy })
dropped-listed last busy r op before ended = record {
  rising = rising-without r busy before.rising;
  active = λ q. any-without r q busy ∙ ap (cond (eqb q r) false) (before.active q)
      ∙ ap (λ b. cond (eqb q r) b (is_some (active_by (map.get last q)))) (sym ended) ∙ sym (active-insert last r op q);
}

or-cond : (q r : ℕ) (b : Bool) → (eqb r q || b) ≡ cond (eqb q r) true b
or-cond q r b =
    ⊎_elim
    (λ same. ap (λ t. t || b) (eq-eqb r q (sym same)) ∙ sym (ap (λ t. cond t true b) (eq-eqb q r same)))
    (λ apart. ap (λ t. t || b) (ne_eqb r q (λ e. apart (sym e))) ∙ sym (ap (λ t. cond t true b) (ne_eqb q r apart)))
    (cases_eq q r)

-- a region that had none gets an operator
pub joined-listed : (last : map.FinMap nat_cmp Operator) (busy : List ℕ) (r : ℕ) (op : Operator) → IsListed (record { last = last; busy = busy }) → active_by (map.get last r) ≡ None → is_active op.state ≡ true → IsListed (record { last = map.insert last r op; busy = joined r busy })
joined-listed last busy r op before none active = record {
  rising = rising-joined r busy before.rising (before.active r ∙ ap is_some none);
  active = λ q. any-joined r q busy ∙ or-cond q r (list_any (λ one. one == q) busy) ∙ ap (cond (eqb q r) true) (before.active q)
      ∙ ap (λ b. cond (eqb q r) b (is_some (active_by (map.get last q)))) (sym active) ∙ sym (active-insert last r op q);
}

-- an operator that hasn't ended is the region's last one
only-active : (b : Bool) (op found : Operator) → cond b (Some op) None ≡ Some found → Some op ≡ Some found
only-active true op found e = e
only-active false op found e = absurd (false≢true (ap is_some e))

pub active-last : (o : Option Operator) (found : Operator) → active_by o ≡ Some found → o ≡ Some found
active-last None found e = absurd (false≢true (ap is_some e))
active-last (Some op) found e = only-active (is_active op.state) op found e

pub empty-listed : IsListed (record { last = map.empty; busy = [] })
empty-listed = record { rising = tt; active = λ q. sym (ap (λ o. is_some (active_by o)) (map.get-empty nat_cmp q)) }
