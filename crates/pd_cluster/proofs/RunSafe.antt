-- What a lawful run prints grants no timestamp twice.
use Rattle.std.proofs.Common.{◌≡◌, ◌<◌, ℕ, zero, suc, Bool, true, false, cond, nat_lt, List, [], ◌∷◌, refl, sym, subst, arith}
use Rattle.std.specs.Prelude.{Contains, filter}
use Rattle.std.proofs.lemmas.Bool.{lt-ltb}
use Rattle.std.proofs.lemmas.Bool.Decides.{nat_tests}
use Rattle.std.proofs.lemmas.List.Elements.{All-from_recursion, All-weaker}
use Rattle.std.specs.List.{AllByRecursion}
use Rattle.pd_types.specs.declared.oracle.Batch.{Batch}
use Rattle.pd_types.specs.declared.oracle.Window.{Window}
use Rattle.pd_script.specs.declared.script.Script.{Script}
use Rattle.tso_model.specs.OneHistory.{LiesInOne}
use Rattle.tso_outcome.proofs.Safe.{is_safe}
use Rattle.tso_outcome.specs.Runs.{Run, all_got}
use Rattle.pd_cluster.specs.RunOutcome.{RunsOver, RunsSafely}
use Rattle.pd_cluster.specs.RunText.{printed_windows, run_text}
use Rattle.pd_cluster.specs.Talks.{Benches}

-- an element that passes the test stays
module _ {A : Type 0} (test : A → Bool) where
  here : (x y : A) (xs : List A) → x ≡ y → test x ≡ true → Contains (cond (test x) (x ∷ filter test xs) (filter test xs)) y
  here x y xs same passes = subst (λ (b : Bool). Contains (cond b (x ∷ filter test xs) (filter test xs)) y) (sym passes) (zero, omega arith, same)

  behind : (b : Bool) (x y : A) (xs : List A) → Contains (filter test xs) y → Contains (cond b (x ∷ filter test xs) (filter test xs)) y
  behind true x y xs (k, low, same) = (suc k, omega (arith, low), same)
  behind false x y xs has = has

  stays : (xs : List A) (y : A) → Contains xs y → test y ≡ true → Contains (filter test xs) y
  stays [] y (k, low, same) passes = absurd (omega (arith, low))
  stays (x ∷ xs) y (zero, low, same) passes = here x y xs same (subst (λ (z : A). test z ≡ true) (sym same) passes)
  stays (x ∷ xs) y (suc k, low, same) passes = behind (test x) x y xs (stays xs y (k, omega (arith, low), same) passes)

-- those that stay pass it
abbrev HasLength : Window → Type 0
HasLength w = w.lo < w.hi

passed_front : (b : Bool) (w : Window) (rest : List Window) → nat_lt w.lo w.hi ≡ b → AllByRecursion HasLength rest → AllByRecursion HasLength (cond b (w ∷ rest) rest)
passed_front true w rest passes all = (grind (arith, nat_tests, passes), all)
passed_front false w rest fails all = all

all_passed : (windows : List Window) → AllByRecursion HasLength (printed_windows windows)
all_passed [] = tt
all_passed (w ∷ ws) = passed_front (nat_lt w.lo w.hi) w (printed_windows ws) refl (all_passed ws)

-- a window with a batch in it is printed
lies_printed : (windows : List Window) (b : Batch) → LiesInOne windows b → LiesInOne (printed_windows windows) b
lies_printed windows b lies = record {
  window = lies.window;
  one = stays (λ (w : Window). nat_lt w.lo w.hi) windows lies.window lies.one (lt-ltb lies.window.lo lies.window.hi lies.inside.2);
  inside = lies.inside;
}

pub runs_safely : (benches : Benches) (script : Script) → (ran : RunsOver benches script) → (Writes : List ℕ → Type 0) → Writes (run_text ran.run) → RunsSafely script Writes
runs_safely benches script ran Writes written =
    let oracle : Run = ran.run.oracle in
    let safe = is_safe oracle ran.lawful.oracle in
    record {
      run = ran.run;
      lines = ran.answers;
      printed = written;
      safe = safe;
      inside = All-weaker (LiesInOne oracle.windows) (LiesInOne (printed_windows oracle.windows)) (λ b lies. lies_printed oracle.windows b lies) (all_got oracle.clients) safe.history.inside;
      saved = All-from_recursion HasLength (printed_windows oracle.windows) (all_passed oracle.windows);
    }
