-- Which refusal is named, and how many regions have an operator.
use Rattle.std.proofs.Common.{refl, ◌≡◌, ◌≢◌, ℕ, ◌+◌, ◌<◌, ◌≤◌, Bool, true, false, not, cond, ◌&&◌, ◌==◌, nat_le, nat_lt, List, [], ◌∷◌, length, Option, Some, None, arith}
use Rattle.std.proofs.lemmas.Bool.Decides.{nat_tests}
use Rattle.pd_types.specs.declared.region.Epoch.{Epoch}
use Rattle.pd_types.specs.declared.region.RegionBeat.{RegionBeat}
use Rattle.std.specs.Option.{option_or}
use Rattle.store_limit.specs.declared.limits.Limited.{Limited}
use Rattle.store_limit.specs.Limits.{StoreLimits}
use Rattle.op_control.specs.declared.operator.NewOp.{NewOp}
use Rattle.op_control.specs.declared.operator.Operator.{Operator}
use Rattle.op_control.specs.declared.adding.AddFault.{AddFault}
use Rattle.op_control.specs.declared.adding.AddFault.TheVariants as faults
use Rattle.op_control.specs.Adding.{added, busy_with, priority_refusal, refusal_of, room_refusal, same_epoch}
use Rattle.op_control.specs.Charging.{first_refused}
use Rattle.op_control.specs.Table.{Table, active_at, joined}

same_number : (a : ℕ) → (a == a) ≡ true
same_number a = grind (arith, nat_tests)

equal : (a b : ℕ) → (a == b) ≡ true → a ≡ b
equal a b h = grind (arith, nat_tests)

at_most : (a b : ℕ) → a ≤ b → nat_le a b ≡ true
at_most a b h = grind (arith, nat_tests)

above : (a b : ℕ) → b < a → nat_le a b ≡ false
above a b h = grind (arith, nat_tests)

not_at_most : (a b : ℕ) → nat_le a b ≡ false → b < a
not_at_most a b h = grind (arith, nat_tests)

both : (a b : Bool) → (a && b) ≡ true → (a ≡ true) × (b ≡ true)
both true b h = (refl, h)
both false b h = absurd (cc)

one_epoch : (one other : Epoch) → one.conf_ver ≡ other.conf_ver → one.version ≡ other.version → one ≡ other
one_epoch one other conf version = λ i. record { conf_ver = conf i; version = version i }

itself : (one other : Epoch) → one ≡ other → same_epoch one other ≡ true
itself one other same = rw (same, same_number other.conf_ver, same_number other.version) refl

moved_on : (one other : Epoch) → one ≢ other → same_epoch one other ≡ false
moved_on one other differs = by (same_epoch one other) refl
  where
    by : (b : Bool) → same_epoch one other ≡ b → same_epoch one other ≡ false
    by false is = is
    by true is =
        let parts = both (one.conf_ver == other.conf_ver) (one.version == other.version) is in
        absurd (differs (one_epoch one other (equal one.conf_ver other.conf_ver parts.0) (equal one.version other.version parts.1)))

pub moved : (table : Table) (op : NewOp) (beat : RegionBeat) (limits : StoreLimits) (now : ℕ) → op.epoch ≢ beat.region.epoch → refusal_of table op (Some beat) limits now ≡ Some (faults.EpochMoved beat.region.epoch)
moved table op beat limits now differs = rw (moved_on op.epoch beat.region.epoch differs) refl

pub taken_by : (table : Table) (op : NewOp) (active : Operator) (beat : RegionBeat) (limits : StoreLimits) (now : ℕ) → op.epoch ≡ beat.region.epoch → active_at table op.region ≡ Some active → op.priority ≤ active.priority → refusal_of table op (Some beat) limits now ≡ Some (faults.Busy active.priority)
taken_by table op active beat limits now same is least =
    rw (itself op.epoch beat.region.epoch same, is, at_most op.priority active.priority least) refl

pub limited : (table : Table) (op : NewOp) (beat : RegionBeat) (limits : StoreLimits) (now : ℕ) (limit : Limited) → op.epoch ≡ beat.region.epoch → active_at table op.region ≡ None → first_refused op.steps limits now ≡ Some limit → refusal_of table op (Some beat) limits now ≡ Some (faults.Limited limit.available limit.needed)
limited table op beat limits now limit same none refused = rw (itself op.epoch beat.region.epoch same, none, refused) refl

pub full : (table : Table) (op : NewOp) (beat : RegionBeat) (limits : StoreLimits) (now : ℕ) → op.epoch ≡ beat.region.epoch → active_at table op.region ≡ None → first_refused op.steps limits now ≡ None → 1024 ≤ length table.busy → refusal_of table op (Some beat) limits now ≡ Some faults.Limit
full table op beat limits now same none refused many =
    rw (itself op.epoch beat.region.epoch same, none, refused, at_most 1024 (length table.busy) many) refl

pub room : (table : Table) (op : NewOp) (beat : RegionBeat) (limits : StoreLimits) (now : ℕ) → op.epoch ≡ beat.region.epoch → active_at table op.region ≡ None → first_refused op.steps limits now ≡ None → length table.busy < 1024 → refusal_of table op (Some beat) limits now ≡ None
room table op beat limits now same none refused few =
    rw (itself op.epoch beat.region.epoch same, none, refused, above 1024 (length table.busy) few) refl

pub replaces : (table : Table) (op : NewOp) (active : Operator) (beat : RegionBeat) (limits : StoreLimits) (now : ℕ) → op.epoch ≡ beat.region.epoch → active_at table op.region ≡ Some active → active.priority < op.priority → first_refused op.steps limits now ≡ None → refusal_of table op (Some beat) limits now ≡ None
replaces table op active beat limits now same is higher refused =
    rw (itself op.epoch beat.region.epoch same, is, above op.priority active.priority higher, refused) refl

-- a list with one more
one_more : (region : ℕ) (busy : List ℕ) → length (joined region busy) ≡ length busy + 1
one_more region [] = refl
one_more region (x ∷ xs) = by (nat_lt region x) (one_more region xs)
  where
    by : (b : Bool) → length (joined region xs) ≡ length xs + 1 → length (cond b (region ∷ (x ∷ xs)) (x ∷ joined region xs)) ≡ length (x ∷ xs) + 1
    by true rest = omega arith
    by false rest = omega (arith, rest)

room_left : (b : Bool) (active : Option Operator) (op : NewOp) (refused : Option Limited) (fault : AddFault) (busy : List ℕ) → length busy ≤ 1024 → cond (not b) (Some fault) (option_or (priority_refusal active op) (room_refusal refused active (length busy))) ≡ None → length (busy_with active op.region busy) ≤ 1024
room_left false active op refused fault busy few h = absurd (cc)
room_left true (Some active) op refused fault busy few h = few
room_left true None op (Some limit) fault busy few h = absurd (cc)
room_left true None op None fault busy few h = by (nat_le 1024 (length busy)) refl h
  where
    by : (b : Bool) → nat_le 1024 (length busy) ≡ b → cond b (Some faults.Limit) None ≡ None → length (joined op.region busy) ≤ 1024
    by true is h = absurd (cc)
    by false is h = let less = not_at_most 1024 (length busy) is in let long = one_more op.region busy in omega arith

pub few_stay : (table : Table) (op : NewOp) (kept : Option RegionBeat) (limits : StoreLimits) (now : ℕ) → length table.busy ≤ 1024 → refusal_of table op kept limits now ≡ None → length (added table op now).busy ≤ 1024
few_stay table op None limits now few h = absurd (cc)
few_stay table op (Some beat) limits now few h =
    room_left (same_epoch op.epoch beat.region.epoch) (active_at table op.region) op (first_refused op.steps limits now) (faults.EpochMoved beat.region.epoch) table.busy few h
