-- The state after a step, put together from its parts.
use Rattle.std.proofs.Common.{◌≡◌, ℕ, List, ap, ◌∙◌}
use Rattle.std.specs.Prelude.{slice_index, slice_set}
use Rattle.pd_types.specs.declared.oracle.Batch.{Batch}
use Rattle.pd_types.specs.declared.oracle.Window.{Window}
use Rattle.tso_model.specs.declared.view.View.{View}
use Rattle.tso_model.specs.declared.step.WordStep.{WordStep}
use Rattle.tso_model.specs.Steps.{word_of, word_after, view_after}
use Rattle.tso_model.specs.Ledger.{windows_after, batches_after}
use Rattle.tso_core.specs.Whole.{Whole, view_at, made}

-- the step at a view and a word
abbrev pub made_by : Whole → ℕ → WordStep → View → ℕ → Whole
made_by w id step v n = record w {
  words = slice_set w.words (word_of step v) (word_after step v n);
  views = slice_set w.views id (view_after step n v);
  windows = windows_after step n v w.windows;
  batches = batches_after step n v w.batches;
}

pub made_is : (w : Whole) (id : ℕ) (step : WordStep) (v : View) (n : ℕ) (words : List ℕ) (views : List View) (windows : List Window) (batches : List Batch)
    → v ≡ view_at w id → n ≡ slice_index w.words (word_of step v) → words ≡ slice_set w.words (word_of step v) (word_after step v n) → views ≡ slice_set w.views id (view_after step n v)
    → windows ≡ windows_after step n v w.windows → batches ≡ batches_after step n v w.batches → (let x : Whole = record w { words = words; views = views; windows = windows; batches = batches } in x) ≡ made w id step
made_is w id step v n words views windows batches same found words_are views_are windows_are batches_are =
    let parts : (let x : Whole = record w { words = words; views = views; windows = windows; batches = batches } in x) ≡ made_by w id step v n = λ i. record w { words = words_are i; views = views_are i; windows = windows_are i; batches = batches_are i } in
    parts ∙ ap (λ (m : ℕ). made_by w id step v m) found ∙ ap (λ (x : View). made_by w id step x (slice_index w.words (word_of step x))) same
