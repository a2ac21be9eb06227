-- The steps of a draw, and what they do to what the client knows.
use Rattle.std.proofs.Common.{◌≡◌, ℕ, ◌/◌, ◌%◌, ◌<◌, cond, true, false, [], ◌∷◌, ◌++◌, sym, refl, ap, ◌∙◌, subst, inl, inr, ⊎_elim, arith, ne_eqb, le-ltb}
use Rattle.std.specs.Prelude.{Some, None, Ok, Err, nat_lt}
use Rattle.std.proofs.lemmas.List.{append-nil}
use Rattle.pd_types.specs.declared.oracle.Batch.{Batch}
use Rattle.tso_model.specs.declared.view.View.{View}
use Rattle.tso_model.specs.Words.{passes}
use Rattle.tso_model.specs.History.{added_by}
use Rattle.tso_model.specs.Steps.{fresh, looked, refused, adds}
use Rattle.tso_board.specs.Told.{NotArmed, Drawn, NotDrawn}
use Rattle.tso_client.specs.declared.draw.DrawFault.TheVariants.{NotLeader, Stale, Again}
use Rattle.tso_client.specs.Draws.{Answer, Took, Adds}
use Rattle.tso_client.specs.Takes.{IsInHand, ArmsFirst, Takes}

-- the view with the looked up limit in hand, and with a count armed
abbrev pub with_limit : ℕ → ℕ → View → View
with_limit d word v = record v { hand = Some (record { driver = d; term = word % 262144; hi = word / 262144 }); looks = v.looks ++ record { client = v.client; driver = d; word = word; seen = v.seen } ∷ [] }

abbrev pub with_count : ℕ → View → View
with_count n v = record v { armed = n }

pub in_hand : (d word : ℕ) (v : View) → IsInHand word v → looked d word v ≡ with_limit d word v
in_hand d word v h =
    let is_fresh : fresh word v ≡ true = ap (λ b. cond b false (cond (nat_lt (word % 262144) v.seen.term) false true)) (ne_eqb word 0 h.0) ∙ ap (λ b. cond b false true) (le-ltb (word % 262144) v.seen.term h.1) in
    λ i. record v { hand = cond (is_fresh i) (Some (record { driver = d; term = word % 262144; hi = word / 262144 })) None; looks = v.looks ++ record { client = v.client; driver = d; word = word; seen = v.seen } ∷ [] }

-- A look that found 0 or a term below the seen one has nothing in hand
not_fresh : (d word : ℕ) (v : View) → fresh word v ≡ false → (looked d word v).hand ≡ None
not_fresh d word v e = ap (λ b. cond b (Some (record { driver = d; term = word % 262144; hi = word / 262144 })) None) e

module _ (d n : ℕ) (v : View) where
  refused_at : (word at : ℕ) (w : View) → IsInHand word v → passes at (word / 262144) n ≡ true → w.client ≡ v.client → w.seen ≡ v.seen → w.grants ≡ v.grants
      → w.refusals ≡ v.refusals ++ record { client = v.client; driver = d; at = at; hi = word / 262144; count = n; sum = added_by v.client d v.added } ∷ []
      → w.looks ≡ v.looks ++ record { client = v.client; driver = d; word = word; seen = v.seen } ∷ [] → Adds d n (Err (Again at (word / 262144) n)) v w
      → Took d n (Err (Again at (word / 262144) n)) v w
  refused_at word at w h p client seen grants refusals looks added = record {
    client = client;
    seen = seen;
    grants = grants ∙ sym (append-nil v.grants);
    refusals = refusals;
    word = word;
    looks = looks;
    added = added;
    tells = (h.0, h.1, refl, refl, p);
  }

  -- what the draw did, by its answer
  pub took : (answer : Answer) (w : View) → Takes d n answer v w → 0 < n → Took d n answer v w
  took (Err NotLeader) w t pos = subst (Took d n (Err NotLeader) v) (sym t.does.1) (record {
    client = refl;
    seen = refl;
    grants = sym (append-nil v.grants);
    refusals = sym (append-nil v.refusals);
    word = t.word;
    looks = refl;
    added = refl;
    tells = t.does.0;
  })
  took (Err (Stale term)) w t pos = subst (Took d n (Err (Stale term)) v) (sym t.does.3) (record {
    client = refl;
    seen = refl;
    grants = sym (append-nil v.grants);
    refusals = sym (append-nil v.refusals);
    word = t.word;
    looks = refl;
    added = refl;
    tells = (t.does.0, t.does.1, t.does.2);
  })
  took (Err (Again at hi m)) w t pos =
      let there = in_hand d t.word v t.does.0 in
      subst (λ (y : ℕ × ℕ). Took d n (Err (Again at y.0 y.1)) v w) (λ i. (sym t.does.1 i, sym t.does.2 i)) (⊎_elim
      (λ (a : NotArmed n at (looked d t.word v) w).
      let b = subst (λ x. NotArmed n at x w) there a in
      subst (Took d n (Err (Again at (t.word / 262144) n)) v) (sym b.view) (refused_at t.word at (refused at n (with_limit d t.word v)) t.does.0 b.passed refl refl refl refl refl (inl refl)))
      (λ (a : ArmsFirst d n t.word v (λ u. NotDrawn at u w)).
      let armed : a.armed ≡ with_count n (with_limit d t.word v) = a.fits.view ∙ ap (with_count n) there in
      let b = subst (λ x. NotDrawn at x w) armed a.then in
      subst (Took d n (Err (Again at (t.word / 262144) n)) v) (sym b.view) (refused_at t.word at (record (refused at n (with_count n (with_limit d t.word v))) { added = (adds (with_count n (with_limit d t.word v))).added }) t.does.0 b.passed refl refl refl refl refl (inr refl)))
      t.does.3)
  took (Ok b) w t pos =
      let there = in_hand d t.word v t.does.0 in
      let a = t.does.1 in
      let armed : a.armed ≡ with_count n (with_limit d t.word v) = a.fits.view ∙ ap (with_count n) there in
      let z = subst (λ x. Drawn b x w) armed a.then in
      subst (λ (y : Batch × View). Took d n (Ok y.0) v y.1) (λ i. (sym z.batch i, sym z.view i)) (record {
        client = refl;
        seen = refl;
        grants = refl;
        refusals = sym (append-nil v.refusals);
        word = t.word;
        looks = refl;
        added = refl;
        tells = (
          t.does.0.0,
          t.does.0.1,
          record {
            count = refl;
            within = omega arith;
            driver = refl;
            term = refl;
            above = record {
              term = omega (arith, z.unseen.0);
              last = omega (arith, z.unseen.1);
            };
          },
        );
      })
