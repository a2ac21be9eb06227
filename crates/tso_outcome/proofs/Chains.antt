-- Calls in a row: the split of a list of answers at one of them, and what all calls together do.
use Rattle.std.proofs.Common.{◌≡◌, ℕ, ◌+◌, ◌<◌, ◌≤◌, eqb, cond, List, [], ◌∷◌, ◌++◌, sym, refl, ap, ◌∙◌, subst, ⊎_elim, arith, append_assoc}
use Rattle.std.specs.Prelude.{Contains, map, Option, Some, None, Result, Ok, Err}
use Rattle.std.proofs.lemmas.List.Elements.{Contains-push_cases}
use Rattle.std.proofs.lemmas.List.{map-append}
use Rattle.pd_types.specs.declared.oracle.Batch.{Batch}
use Rattle.pd_types.specs.declared.oracle.Seen.{Seen}
use Rattle.tso_model.specs.declared.entries.Added.{Added}
use Rattle.tso_model.specs.declared.view.View.{View}
use Rattle.tso_model.specs.History.{added_at}
use Rattle.tso_model.specs.Moves.{greater, seen_of}
use Rattle.tso_model.proofs.Basics.{by_lt}
use Rattle.tso_model.proofs.Sums.{total-append}
use Rattle.tso_outcome.specs.declared.said.ClientSaid.{ClientSaid}
use Rattle.tso_outcome.specs.declared.said.ClientAnswer.{ClientAnswer}
use Rattle.tso_outcome.specs.declared.said.ClientSaid.TheVariants.{Took, Told, Heard}
use Rattle.tso_client.specs.declared.draw.DrawFault.TheVariants.{NotLeader, Stale, Again}
use Rattle.tso_driver.specs.Driving.{Keeps}
use Rattle.tso_outcome.specs.Clients.{Client, Drew, ClientDid, seen_after, seen_by, got, got_by, asked, asked_by, posts, posted}
use Rattle.tso_outcome.proofs.Passes.{pass_kept, ClientTold, grant_of, AddsAtMost}
use Rattle.tso_model.specs.OneHistory.{IsAbove}

-- CLIENTS

-- a list of calls, split at one of them
pub record ClientSplit (v : Client) (before : List ClientAnswer) (a : ClientAnswer) (after : List ClientAnswer) (w : Client) : Type 0 where
  pub old : Client
  pub new : Client
  pub to : Drew v before old
  pub did : ClientDid a.line a.said old new
  pub on : Drew new after w

pub drew_split : (v : Client) (before : List ClientAnswer) (a : ClientAnswer) (after : List ClientAnswer) (w : Client) → Drew v (before ++ a ∷ after) w → ClientSplit v before a after w
drew_split v [] a after w h = record { old = v; new = h.0; to = refl; did = h.1; on = h.2 }
drew_split v (b ∷ bs) a after w h = let s = drew_split h.0 bs a after w h.2 in record { old = s.old; new = s.new; to = (h.0, h.1, s.to); did = s.did; on = s.on }

pub drew_client : (v : Client) (answers : List ClientAnswer) (w : Client) → Drew v answers w → w.view.client ≡ v.view.client
drew_client v [] w h = sym (ap (λ (x : Client). x.view.client) h)
drew_client v (a ∷ rest) w h = drew_client h.0 rest w h.2 ∙ (pass_kept a.said v.view h.0.view h.1.pass).client

-- a batch that is above what was seen is the greatest then
pub greater_batch : (seen : Seen) (b : Batch) → (0 < b.count) × (b.count ≤ b.last) → IsAbove seen b → greater seen (seen_of b) ≡ seen_of b
greater_batch seen b some above = by_lt (λ t. cond t (seen_of b) (cond (Rattle.std.specs.Prelude.nat_lt b.term seen.term) seen (cond (Rattle.std.specs.Prelude.nat_lt seen.last b.last) (seen_of b) seen)) ≡ seen_of b) seen.term b.term
    (λ _. refl)
    (λ _. by_lt (λ t. cond t seen (cond (Rattle.std.specs.Prelude.nat_lt seen.last b.last) (seen_of b) seen) ≡ seen_of b) b.term seen.term
    (λ lt. absurd (omega (arith, lt, above.term)))
    (λ _. by_lt (λ t. cond t (seen_of b) seen ≡ seen_of b) seen.last b.last (λ _. refl) (λ high. absurd (omega (arith, high, above.last, some.0, some.1)))))

seen_step : (said : ClientSaid) (old new : View) → ClientTold said old new → new.seen ≡ seen_after said old.seen
seen_step (Took d n (Ok b)) old new t = t.0.seen ∙ sym (greater_batch old.seen b t.0.some t.0.above)
seen_step (Took d n (Err NotLeader)) old new t = t.1
seen_step (Took d n (Err (Stale term))) old new t = t.0.seen
seen_step (Took d n (Err (Again at hi m))) old new t = t.0.seen
seen_step (Told to) old new t = t.0
seen_step (Heard (Some pair)) old new t = t.0
seen_step (Heard None) old new t = t.0

pub drew_seen : (v : Client) (answers : List ClientAnswer) (w : Client) → Drew v answers w → w.view.seen ≡ seen_by v.view.seen answers
drew_seen v [] w h = sym (ap (λ (x : Client). x.view.seen) h)
drew_seen v (a ∷ rest) w h = drew_seen h.0 rest w h.2 ∙ ap (λ s. seen_by s rest) (seen_step a.said v.view h.0.view (pass_kept a.said v.view h.0.view h.1.pass).told)

pub drew_grants : (v : Client) (answers : List ClientAnswer) (w : Client) → Drew v answers w → w.view.grants ≡ v.view.grants ++ map (grant_of v.view.client) (got_by answers)
drew_grants v [] w h = sym (ap (λ (x : Client). x.view.grants) h) ∙ sym (append-nil v.view.grants)
  where
    append-nil : {A : Type 0} (xs : List A) → xs ++ [] ≡ xs
    append-nil [] = refl
    append-nil (x ∷ xs) = λ i. x ∷ append-nil xs i
drew_grants v (a ∷ rest) w h = drew_grants h.0 rest w h.2 ∙ (λ i. (pass_kept a.said v.view h.0.view h.1.pass).grants i ++ map (grant_of ((pass_kept a.said v.view h.0.view h.1.pass).client i)) (got_by rest)) ∙ append_assoc v.view.grants (map (grant_of v.view.client) (got a.said)) (map (grant_of v.view.client) (got_by rest)) ∙ ap (λ l. v.view.grants ++ l) (sym (map-append (grant_of v.view.client) (got a.said) (got_by rest)))

pub drew_slip : (v : Client) (answers : List ClientAnswer) (w : Client) → Drew v answers w → w.slip ≡ v.slip ++ posted v.view.client v.view.seen answers
drew_slip v [] w h = sym (ap (λ (x : Client). x.slip) h) ∙ sym (append-nil v.slip)
  where
    append-nil : {A : Type 0} (xs : List A) → xs ++ [] ≡ xs
    append-nil [] = refl
    append-nil (x ∷ xs) = λ i. x ∷ append-nil xs i
drew_slip v (a ∷ rest) w h = drew_slip h.0 rest w h.2 ∙ (λ i. h.1.slip i ++ posted ((pass_kept a.said v.view h.0.view h.1.pass).client i) (seen_step a.said v.view h.0.view (pass_kept a.said v.view h.0.view h.1.pass).told i) rest) ∙ append_assoc v.slip (posts v.view.client a.line a.said v.view.seen) (posted v.view.client (seen_after a.said v.view.seen) rest)

adds_step : (e d n : ℕ) (old new : View) → AddsAtMost d n old new → added_at e new.added ≤ added_at e old.added + cond (eqb d e) n 0
adds_step e d n old new h = ⊎_elim
    (λ (same : new.added ≡ old.added). omega (arith, ap (added_at e) same))
    (λ (more : new.added ≡ old.added ++ record { client = old.client; driver = d; count = n } ∷ []).
    omega (arith, ap (added_at e) more, total-append (λ (a : Added). cond (eqb a.driver e) a.count 0) old.added (record { client = old.client; driver = d; count = n } ∷ [])))
    h

asked_step : (e : ℕ) (said : ClientSaid) (old new : View) → ClientTold said old new → added_at e new.added ≤ added_at e old.added + asked e said
asked_step e (Took d n (Ok b)) old new t = adds_step e d n old new t.1
asked_step e (Took d n (Err NotLeader)) old new t = omega (arith, ap (added_at e) t.2)
asked_step e (Took d n (Err (Stale term))) old new t = omega (arith, ap (added_at e) t.1)
asked_step e (Took d n (Err (Again at hi m))) old new t = adds_step e d n old new t.1
asked_step e (Told to) old new t = omega (arith, ap (added_at e) t.1)
asked_step e (Heard (Some pair)) old new t = omega (arith, ap (added_at e) t.1)
asked_step e (Heard None) old new t = omega (arith, ap (added_at e) t.1)

pub drew_asked : (e : ℕ) (v : Client) (answers : List ClientAnswer) (w : Client) → Drew v answers w → added_at e w.view.added ≤ added_at e v.view.added + asked_by e answers
drew_asked e v [] w h = omega (arith, ap (λ (x : Client). added_at e x.view.added) h)
drew_asked e v (a ∷ rest) w h = omega (arith, drew_asked e h.0 rest w h.2, asked_step e a.said v.view h.0.view (pass_kept a.said v.view h.0.view h.1.pass).told)

-- the counts added are the client's own
own_adds : (d n : ℕ) (old new : View) → AddsAtMost d n old new → ((x : Added) → Contains old.added x → x.client ≡ old.client) → (x : Added) → Contains new.added x → x.client ≡ old.client
own_adds d n old new h own x there = ⊎_elim
    (λ (same : new.added ≡ old.added). own x (subst (λ l. Contains l x) same there))
    (λ (more : new.added ≡ old.added ++ record { client = old.client; driver = d; count = n } ∷ []).
    ⊎_elim (λ (z : Contains old.added x). own x z) (λ (e : record { client = old.client; driver = d; count = n } ≡ x). sym (ap (λ (y : Added). y.client) e))
    (Contains-push_cases old.added (record { client = old.client; driver = d; count = n }) x (subst (λ l. Contains l x) more there)))
    h

own_step : (said : ClientSaid) (old new : View) → ClientTold said old new → ((x : Added) → Contains old.added x → x.client ≡ old.client) → (x : Added) → Contains new.added x → x.client ≡ old.client
own_step (Took d n (Ok b)) old new t own = own_adds d n old new t.1 own
own_step (Took d n (Err NotLeader)) old new t own = λ x h. own x (subst (λ l. Contains l x) t.2 h)
own_step (Took d n (Err (Stale term))) old new t own = λ x h. own x (subst (λ l. Contains l x) t.1 h)
own_step (Took d n (Err (Again at hi m))) old new t own = own_adds d n old new t.1 own
own_step (Told to) old new t own = λ x h. own x (subst (λ l. Contains l x) t.1 h)
own_step (Heard (Some pair)) old new t own = λ x h. own x (subst (λ l. Contains l x) t.1 h)
own_step (Heard None) old new t own = λ x h. own x (subst (λ l. Contains l x) t.1 h)

pub drew_own : (v : Client) (answers : List ClientAnswer) (w : Client) → Drew v answers w → ((x : Added) → Contains v.view.added x → x.client ≡ v.view.client) → (x : Added) → Contains w.view.added x → x.client ≡ v.view.client
drew_own v [] w h own x there = own x (subst (λ (u : Client). Contains u.view.added x) (sym h) there)
drew_own v (a ∷ rest) w h own x there = drew_own h.0 rest w h.2 (λ y z. own_step a.said v.view h.0.view (pass_kept a.said v.view h.0.view h.1.pass).told own y z ∙ sym (pass_kept a.said v.view h.0.view h.1.pass).client) x there ∙ (pass_kept a.said v.view h.0.view h.1.pass).client

pub drew_looks : (v : Client) (answers : List ClientAnswer) (w : Client) → Drew v answers w → Keeps v.view.looks w.view.looks
drew_looks v [] w h x there = subst (λ (u : Client). Contains u.view.looks x) h there
drew_looks v (a ∷ rest) w h x there = drew_looks h.0 rest w h.2 x ((pass_kept a.said v.view h.0.view h.1.pass).looks x there)

pub drew_refusals : (v : Client) (answers : List ClientAnswer) (w : Client) → Drew v answers w → Keeps v.view.refusals w.view.refusals
drew_refusals v [] w h x there = subst (λ (u : Client). Contains u.view.refusals x) h there
drew_refusals v (a ∷ rest) w h x there = drew_refusals h.0 rest w h.2 x ((pass_kept a.said v.view h.0.view h.1.pass).refusals x there)
