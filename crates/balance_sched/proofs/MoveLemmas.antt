-- One move looked at: it loses, or takes the place of what was found.
use Rattle.std.proofs.Common.{◌≡◌, ◌∙◌, sym, refl, ap, subst, ℕ, ◌-◌, ◌<◌, ◌≤◌, true, false, arith, Option, Some, inr, Contains}
use Rattle.pd_types.proofs.Bools.{and_both, and_true}
use Rattle.pd_types.specs.declared.region.RegionBeat.{RegionBeat}
use Rattle.store_table.specs.Entries.{is_live, is_usable}
use Rattle.balance_sched.specs.declared.moves.Kind.{Kind}
use Rattle.balance_sched.specs.declared.moves.Move.{Move}
use Rattle.balance_sched.specs.Tables.{Tables, count_of}
use Rattle.balance_sched.specs.Moves.{FitsRules, IsMoveOf, is_source}
use Rattle.balance_sched.specs.Search.{Beats, Follows, IsAllowed, IsLeast, LoseBetween, Loses, can_win}
use Rattle.balance_sched.proofs.OrderLemmas.{cannot_win, goes_self, loses_by}

-- the move of a region between two stores with this difference
abbrev pub one_of : RegionBeat → ℕ → ℕ → ℕ → Move
one_of beat from to difference = record { region = beat.region.id; from = from; to = to; difference = difference }

same_move : (move : Move) (beat : RegionBeat) (from to difference : ℕ) → move.region ≡ beat.region.id → move.from ≡ from → move.to ≡ to → move.difference ≡ difference → move ≡ one_of beat from to difference
same_move move beat from to difference e f g h = rw (← e, ← f, ← g, ← h) refl

-- there is one move between two stores
pub one_move : (kind : Kind) (tables : Tables) (beat : RegionBeat) (move : Move) (from to have count : ℕ) → move.from ≡ from → move.to ≡ to → IsMoveOf kind tables beat move →
    have ≡ count_of kind from tables.held → count ≡ count_of kind to tables.held → move ≡ one_of beat from to (have - count)
one_move kind tables beat move from to have count f t moves h c =
    let first : count_of kind move.from tables.held ≡ have = ap (λ (store : ℕ). count_of kind store tables.held) f ∙ sym h in
    let second : count_of kind move.to tables.held ≡ count = ap (λ (store : ℕ). count_of kind store tables.held) t ∙ sym c in
    same_move move beat from to (have - count) moves.region f t (omega (arith, moves.difference, first, second))

pub allowed_of : (kind : Kind) (tables : Tables) (beat : RegionBeat) (move : Move) → IsMoveOf kind tables beat move → IsAllowed kind tables beat move
allowed_of kind tables beat move moves = record {
  goes = and_both (is_live move.from tables.now tables.stores) _ moves.from_live
      (and_both (is_live move.to tables.now tables.stores) _ moves.to_live (and_both (is_usable move.to tables.now tables.stores) _ moves.to_usable moves.target));
  after = moves.after;
}

-- a difference below 2 is none
pub too_narrow : (kind : Kind) (tables : Tables) (beat : RegionBeat) (from to have count : ℕ) (best : Option Move) → have ≡ count_of kind from tables.held → count ≡ count_of kind to tables.held →
    have - count < 2 → LoseBetween kind tables beat from to best
too_narrow kind tables beat from to have count best h c narrow = λ move f t moves.
    let same = one_move kind tables beat move from to have count f t moves h c in
    absurd (let e : move.difference ≡ have - count = ap (λ (m : Move). m.difference) same in omega (arith, e, narrow, moves.wide))

-- it doesn't go before what was found
pub too_late : (kind : Kind) (tables : Tables) (beat : RegionBeat) (from to have count : ℕ) (best : Option Move) → have ≡ count_of kind from tables.held → count ≡ count_of kind to tables.held →
    (Beats (one_of beat from to (have - count)) best → ⊥) → LoseBetween kind tables beat from to best
too_late kind tables beat from to have count best h c late = λ move f t moves.
    subst (λ (m : Move). Loses m best) (sym (one_move kind tables beat move from to have count f t moves h c)) (loses_by (one_of beat from to (have - count)) best late)

-- it isn't allowed
pub not_allowed : (kind : Kind) (tables : Tables) (beat : RegionBeat) (from to have count : ℕ) (best : Option Move) → have ≡ count_of kind from tables.held → count ≡ count_of kind to tables.held →
    (IsAllowed kind tables beat (one_of beat from to (have - count)) → ⊥) → LoseBetween kind tables beat from to best
not_allowed kind tables beat from to have count best h c barred = λ move f t moves.
    absurd (barred (subst (IsAllowed kind tables beat) (one_move kind tables beat move from to have count f t moves h c) (allowed_of kind tables beat move moves)))

-- it takes the place of what was found
pub taken : (kind : Kind) (tables : Tables) (beat : RegionBeat) (from to have count : ℕ) (best : Option Move) → have ≡ count_of kind from tables.held → count ≡ count_of kind to tables.held →
    2 ≤ have - count → is_source kind from beat ≡ true → (Contains tables.busy beat.region.id → ⊥) → FitsRules tables beat →
    IsAllowed kind tables beat (one_of beat from to (have - count)) → Beats (one_of beat from to (have - count)) best →
    Follows kind tables beat best (Some (one_of beat from to (have - count)))
taken kind tables beat from to have count best h c wide source idle fits allowed beats =
    let one : Move = one_of beat from to (have - count) in
    let goes = and_true (is_live from tables.now tables.stores) _ allowed.goes in
    let comes = and_true (is_live to tables.now tables.stores) _ goes.1 in
    let usable = and_true (is_usable to tables.now tables.stores) _ comes.1 in
    inr (
      one,
      (
        refl,
        record {
          region = refl;
          idle = idle;
          source = source;
          target = usable.1;
          from_live = goes.0;
          to_live = comes.0;
          to_usable = usable.0;
          difference = omega (arith, h, c, wide);
          wide = wide;
          fits = fits;
          after = allowed.after;
        },
        beats,
      ),
    )

pub taken_itself : (kind : Kind) (tables : Tables) (beat : RegionBeat) (from to have count : ℕ) → have ≡ count_of kind from tables.held → count ≡ count_of kind to tables.held →
    LoseBetween kind tables beat from to (Some (one_of beat from to (have - count)))
taken_itself kind tables beat from to have count h c = λ move f t moves.
    subst (λ (m : Move). Loses m (Some (one_of beat from to (have - count)))) (sym (one_move kind tables beat move from to have count f t moves h c)) (goes_self (one_of beat from to (have - count)))

-- no move has a greater difference than to the least count
pub too_low : (kind : Kind) (tables : Tables) (beat : RegionBeat) (from have least : ℕ) (best : Option Move) → IsLeast kind tables least → have ≡ count_of kind from tables.held →
    can_win best beat.region.id (have - least) ≡ false → (move : Move) → move.from ≡ from → IsMoveOf kind tables beat move → Loses move best
too_low kind tables beat from have least best bound h low = λ move f moves.
    let under : least ≤ count_of kind move.to tables.held = bound move.to moves.to_live moves.to_usable in
    let first : count_of kind move.from tables.held ≡ have = ap (λ (store : ℕ). count_of kind store tables.held) f ∙ sym h in
    cannot_win best beat.region.id (have - least) low move moves.region (omega (arith, under, first, moves.difference)) moves.wide
