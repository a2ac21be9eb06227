-- Where the tests of a plan, of a limit word and of a row lead.
use Rattle.std.proofs.Common.{◌≡◌, ◌≢◌, ℕ, ◌+◌, ◌-◌, ◌/◌, ◌%◌, ◌^◌, ◌<◌, ◌≤◌, leb, Bool, true, false, cond, refl, sym, subst, arith}
use Rattle.std.proofs.lemmas.Bool.Decides.{nat_tests}
use Rattle.std.specs.Prelude.{Option, None, Some, nat_lt, unwrap_or}
use mathlib.Core.Logic.{dite}
use native.Mathlib.Decide.{dec_le}
use Rattle.pd_types.specs.declared.oracle.Actor.{Actor}
use Rattle.pd_types.specs.declared.oracle.Actor.TheVariants.{Driver}
use Rattle.pd_types.specs.declared.oracle.CellWord.{CellWord}
use Rattle.tso_model.specs.declared.view.View.{View}
use Rattle.tso_model.specs.Plan.{end_of, past_clock, lead_next}
use Rattle.tso_model.specs.Steps.{held, fresh}
use Rattle.tso_model.proofs.Basics.{by_eq, by_lt}
use Rattle.tso_core.specs.declared.turn.Decided.{Decided}
use Rattle.tso_core.specs.declared.reply.Due.TheVariants.{Campaign, Save, Raise}
use Rattle.tso_core.specs.declared.reply.Kind.{Kind}
use Rattle.tso_core.specs.declared.reply.Kind.TheVariants.{Raise as ToRaise, Publish as ToPublish}
use Rattle.tso_core.specs.declared.reply.Reply.{Reply}
use Rattle.tso_core.specs.declared.reply.Reply.TheVariants.{TermsSpent, ClockRange, Idle, NotLeader, Stale, Moved, CellRead, Probed, Looked}
use Rattle.tso_core.specs.Whole.{Whole, view_at, turn_at}
use Rattle.tso_core.specs.Steps.{ends, goes, read_decides, moves_to, goes_to, looked_reply}
use Rattle.tso_core.specs.Rows.{told}

le_test : (n m : ℕ) → n ≤ m → leb n m ≡ true
le_test n m most = grind (arith, nat_tests)

gt_test : (n m : ℕ) → m < n → leb n m ≡ false
gt_test n m less = grind (arith, nat_tests)

pub by_le : (F : Bool → Type 0) (n m : ℕ) → (n ≤ m → F true) → (m < n → F false) → F (leb n m)
by_le F n m hit miss = dite (dec_le n m) (λ most. subst F (sym (le_test n m most)) (hit most)) (λ more. let less : m < n = omega (arith, more) in subst F (sym (gt_test n m less)) (miss less))

module _ (P : Decided → Type 0) where
  -- a read
  pub read_cases : (cell : CellWord) (now : ℕ) → (cell.term ≡ 262143 → P (ends TermsSpent)) → (cell.term ≢ 262143 → 2 ^ 45 ≤ end_of (lead_next cell.saved now) → P (ends ClockRange))
      → (cell.term ≢ 262143 → end_of (lead_next cell.saved now) < 2 ^ 45 → P (goes (CellRead cell) Campaign (lead_next cell.saved now) true)) → P (read_decides cell now)
  read_cases cell now spent over on =
      let next = lead_next cell.saved now in
      by_eq (λ b. P (cond b (ends TermsSpent) (cond (past_clock next) (ends ClockRange) (goes (CellRead cell) Campaign next true)))) cell.term 262143 spent
      (λ left. by_le (λ b. P (cond b (ends ClockRange) (goes (CellRead cell) Campaign next true))) (2 ^ 45) (end_of next) (over left) (on left))

  -- a probe that moves to this time
  pub moves_cases : (hi cursor next : ℕ) → (hi ≤ next + 1 → 2 ^ 45 ≤ end_of next → P (ends ClockRange)) → (hi ≤ next + 1 → end_of next < 2 ^ 45 → P (goes (Probed cursor) Save next true))
      → (next + 1 < hi → P (goes (Probed cursor) Raise next false)) → P (moves_to hi cursor next)
  moves_cases hi cursor next over near far = by_le (λ b. P (cond b (cond (past_clock next) (ends ClockRange) (goes (Probed cursor) Save next true)) (goes (Probed cursor) Raise next false))) (hi - next) 1
      (λ few. let most : hi ≤ next + 1 = omega (arith, few) in by_le (λ b. P (cond b (ends ClockRange) (goes (Probed cursor) Save next true))) (2 ^ 45) (end_of next) (over most) (near most))
      (λ many. far (omega (arith, many)))

  pub goes_cases : (hi cursor : ℕ) (o : Option ℕ) → (o ≡ None → P (ends Idle)) → ((next : ℕ) → o ≡ Some next → hi ≤ next + 1 → 2 ^ 45 ≤ end_of next → P (ends ClockRange))
      → ((next : ℕ) → o ≡ Some next → hi ≤ next + 1 → end_of next < 2 ^ 45 → P (goes (Probed cursor) Save next true)) → ((next : ℕ) → o ≡ Some next → next + 1 < hi → P (goes (Probed cursor) Raise next false)) → P (goes_to hi cursor o)
  goes_cases hi cursor None idle over near far = idle refl
  goes_cases hi cursor (Some next) idle over near far = moves_cases hi cursor next (over next refl) (near next refl) (far next refl)

-- a look: its answer, and whether the limit is in hand
pub look_cases : (P : Reply → Bool → Type 0) (word : ℕ) (v : View) → (word ≡ 0 → P NotLeader false) → (word ≢ 0 → word % 262144 < v.seen.term → P (Stale v.seen.term) false)
    → (word ≢ 0 → v.seen.term ≤ word % 262144 → P (Looked (word % 262144) (word / 262144)) true) → P (looked_reply word v.seen) (fresh word v)
look_cases P word v none stale on =
    by_eq (λ b. P (cond b NotLeader (cond (nat_lt (word % 262144) v.seen.term) (Stale v.seen.term) (Looked (word % 262144) (word / 262144)))) (cond b false (cond (nat_lt (word % 262144) v.seen.term) false true))) word 0 none
    (λ some. by_lt (λ b. P (cond b (Stale v.seen.term) (Looked (word % 262144) (word / 262144))) (cond b false true)) (word % 262144) v.seen.term (stale some) (on some))

-- what a row answers after a step
pub told_cases : (P : Reply → Type 0) (kind : Kind) (actor : Actor) (w : Whole) (before reply : Reply) → P before → ((next hi : ℕ) → P (Moved next hi)) → P reply → P (unwrap_or (told kind actor w before) reply)
told_cases P ToRaise (Driver d) w before reply stays goes own = goes (turn_at w d).next (held (view_at w d)).hi
told_cases P ToPublish actor w before reply stays goes own = stays
told_cases P kind actor w before reply stays goes own = own
