-- What every sound state says of its windows, batches and cursors, and of a batch that a client gets.
use Rattle.std.proofs.Common.{◌≡◌, ℕ, ◌<◌, Bool, true, false, cond, List, ◌∷◌, refl, sym, ap, subst, ◌∙◌, arith}
use Rattle.std.specs.Prelude.{reverse}
use Rattle.pd_types.specs.declared.oracle.Batch.{Batch}
use Rattle.tso_model.specs.Words.{opening_claim, passes}
use Rattle.tso_model.specs.Moves.{spent_view}
use Rattle.tso_model.specs.Steps.{hand, batch_of}
use Rattle.tso_model.specs.Sound.{IsUnseen}
use Rattle.tso_model.specs.Ledger.{IsDrawList, place}
use Rattle.tso_model.specs.declared.step.WordStep.TheVariants.{AddArmed}
use Rattle.tso_model.proofs.Ledgers.{window_list, draw_list}
use Rattle.tso_model.proofs.Learned.{unseen}
use Rattle.tso_core.specs.declared.reply.Reply.{Reply}
use Rattle.tso_core.specs.declared.reply.Reply.TheVariants.{Got, Again}
use Rattle.tso_core.specs.declared.reply.Due.TheVariants.{Draw}
use Rattle.tso_core.specs.Whole.{Whole, place_of_client, view_at, found_by}
use Rattle.tso_core.specs.Steps.{due_at}
use Rattle.tso_core.specs.Sound.{IsSound, HasClient}
use Rattle.tso_model.specs.OneHistory.{IsAbove}
use Rattle.tso_laws.specs.Laws.{AreLedger, AreBounded, IsGranted, DrawsGrant}
use Rattle.tso_core.proofs.Dues.{draws}
use Rattle.tso_core.proofs.Drawn.{own, inside}
use Rattle.tso_core.proofs.Places.{at_get}

abbrev IsAgain : Reply → Type 0
IsAgain (Again at hi n) = Unit {0}
IsAgain _ = ⊥

abbrev batch_in : Batch → Reply → Batch
batch_in other (Got b) = b
batch_in other _ = other

module _ (w : Whole) (s : IsSound w) where
  pub ledger : AreLedger w
  ledger =
      let r = s.recorded in record {
        claims = reverse (r.history.newest ∷ r.history.past);
        windows = r.windows_are;
        rise = window_list (opening_claim w.setup.cell) r.history.newest r.history.past r.a.chain;
        draws = subst (λ (bs : List Batch). IsDrawList (reverse (r.history.newest ∷ r.history.past)) bs) (sym r.batches_are) (draw_list w.setup w.words w.views r.history r.a r.b);
      }

  pub bounded : AreBounded w
  bounded d has = let r = s.recorded in omega (arith, r.b.cursors d has.pos has.low, r.a.cell, r.a.in_terms)

  module _ (c : ℕ) (has : HasClient w.setup c) (due : due_at w c ≡ Draw) where
    at : ℕ
    at = found_by w (place_of_client w c) AddArmed

    pos : 0 < (view_at w (place_of_client w c)).client
    pos = omega (arith, (own w s c has.pos has.low).client, has.pos)

    fresh : IsUnseen (view_at w (place_of_client w c)).seen (hand (view_at w (place_of_client w c))).term (found_by w (place_of_client w c) AddArmed)
    fresh = (unseen w.setup w.words w.views s.recorded.history (place_of_client w c) (view_at w (place_of_client w c)) s.recorded.a s.recorded.b (at_get w.views (place_of_client w c) spent_view (inside w s c has.pos has.low)) pos
        (draws (view_at w (place_of_client w c)) due).0).0

    above : IsAbove (view_at w (place_of_client w c)).seen (batch_of (found_by w (place_of_client w c) AddArmed) (view_at w (place_of_client w c)))
    above = record { term = fresh.0; last = omega (arith, fresh.1, (draws (view_at w (place_of_client w c)) due).1) }

    grant : (b : Batch) (test : Bool) → passes (found_by w (place_of_client w c) AddArmed) (hand (view_at w (place_of_client w c))).hi (view_at w (place_of_client w c)).armed ≡ test
        → cond test (Again (found_by w (place_of_client w c) AddArmed) (hand (view_at w (place_of_client w c))).hi (view_at w (place_of_client w c)).armed) (Got (batch_of (found_by w (place_of_client w c) AddArmed) (view_at w (place_of_client w c)))) ≡ Got b → IsGranted w c b
    grant b true is got = absurd (subst (λ (r : Reply). IsAgain r) got tt)
    grant b false is got =
        let same : batch_of (found_by w (place_of_client w c) AddArmed) (view_at w (place_of_client w c)) ≡ b = ap (λ (r : Reply). batch_in b r) got in record {
          above = subst (λ (x : Batch). IsAbove (view_at w (place_of_client w c)).seen x) same above;
          kept = ap (λ (test : Bool). cond test w.batches (place (batch_of (found_by w (place_of_client w c) AddArmed) (view_at w (place_of_client w c))) w.batches)) is ∙ ap (λ (x : Batch). place x w.batches) same;
        }

  pub grants : DrawsGrant w
  grants c has due b got =
      grant c has due b (passes (found_by w (place_of_client w c) AddArmed) (hand (view_at w (place_of_client w c))).hi (view_at w (place_of_client w c)).armed) refl got
