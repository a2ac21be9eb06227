-- The operators that are shown are those that haven't ended.
use Rattle.std.proofs.Common.{◌≡◌, ℕ, refl, sym, ◌∙◌, ap, subst, arith, Bool, true, false, ◌||◌, List, [], ◌∷◌, Option, Some, None, All, Contains}
use Rattle.std.specs.Prelude.{◌==◌, is_some, if◌then◌else◌}
use Rattle.std.specs.List.{cons_option, filter_map, list_any}
use Rattle.std.specs.FinMap as fin
use Rattle.std.proofs.lemmas.Bool.Decides.{nat_tests}
use Rattle.std.proofs.lemmas.List.Elements.{All-nil, All-cons, Contains-append_right}
use Rattle.op_control.specs.Life.{is_active}
use Rattle.op_control.specs.Table.{Table, IsListed, active_at, active_by}
use Rattle.op_control.specs.declared.operator.Operator.{Operator}
use Rattle.pd_ctl.specs.Reports.{shown}

same_by : (a b : ℕ) → (a == b) ≡ true → a ≡ b
same_by a b h = grind (arith, nat_tests)

-- an operator hasn't ended
abbrev HasNotEnded : Operator → Type 0
HasNotEnded op = is_active op.state ≡ true

each_by : (op : Operator) (b : Bool) → is_active op.state ≡ b → (rest : List Operator) → All HasNotEnded rest → All HasNotEnded (cons_option (if b then Some op else None) rest)
each_by op true e rest all = All-cons HasNotEnded op rest e all
each_by op false e rest all = all

each_of : (o : Option Operator) (rest : List Operator) → All HasNotEnded rest → All HasNotEnded (cons_option (active_by o) rest)
each_of None rest all = all
each_of (Some op) rest all = each_by op (is_active op.state) refl rest all

pub each_active : (table : Table) (busy : List ℕ) → All HasNotEnded (filter_map (active_at table) busy)
each_active table [] = All-nil HasNotEnded
each_active table (region ∷ busy) = each_of (fin.get table.last region) (filter_map (active_at table) busy) (each_active table busy)

behind : (o : Option Operator) (rest : List Operator) (op : Operator) → Contains rest op → Contains (cons_option o rest) op
behind None rest op h = h
behind (Some other) rest op h = Contains-append_right (other ∷ []) rest op h

has_it : (table : Table) (busy : List ℕ) (region : ℕ) (op : Operator) → list_any (λ one. one == region) busy ≡ true → active_at table region ≡ Some op → Contains (filter_map (active_at table) busy) op
has_it table [] region op h is = absurd (cc h)
has_it table (one ∷ busy) region op h is = by (one == region) refl h (λ rest. has_it table busy region op rest is)
  where
    by : (b : Bool) → (one == region) ≡ b → (b || list_any (λ one. one == region) busy) ≡ true → (list_any (λ one. one == region) busy ≡ true → Contains (filter_map (active_at table) busy) op) → Contains (cons_option (active_at table one) (filter_map (active_at table) busy)) op
    by true e found rest =
        let here : active_at table one ≡ Some op = ap (active_at table) (same_by one region e) ∙ is in
        subst (λ (o : Option Operator). Contains (cons_option o (filter_map (active_at table) busy)) op) (sym here) (0, omega arith, refl)
    by false e found rest = behind (active_at table one) (filter_map (active_at table) busy) op (rest found)

pub is_shown : (table : Table) (region : ℕ) (op : Operator) → IsListed table → active_at table region ≡ Some op → Contains (shown table) op
is_shown table region op listed is = has_it table table.busy region op (listed.active region ∙ ap is_some is) is
