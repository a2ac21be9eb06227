-- What a client's call does to its pass, field by field.
use Rattle.std.proofs.Common.{◌≡◌, ◌≢◌, ℕ, ◌%◌, ◌<◌, ◌≤◌, ◌⊎◌, List, [], ◌∷◌, ◌++◌, sym, refl, ap, ◌∙◌, subst, inr, arith}
use Rattle.std.specs.Prelude.{Contains, map, Some, None, Ok, Err}
use Rattle.std.proofs.lemmas.List.Elements.{Contains-append_left, Contains-append_right}
use Rattle.std.proofs.lemmas.List.{append-nil}
use Rattle.pd_types.specs.declared.oracle.Batch.{Batch}
use Rattle.tso_model.specs.declared.entries.Grant.{Grant}
use Rattle.tso_model.specs.declared.view.View.{View}
use Rattle.tso_model.specs.History.{added_by}
use Rattle.tso_model.specs.Moves.{greater, seen_of}
use Rattle.tso_model.specs.OneHistory.{IsAbove}
use Rattle.tso_model.proofs.Basics.{in_head}
use Rattle.tso_driver.specs.Driving.{Keeps}
use Rattle.tso_client.specs.declared.draw.DrawFault.TheVariants.{NotLeader, Stale, Again}
use Rattle.tso_client.specs.Draws.{Answer, Took as HasTaken, grants_by, refusals_by}
use Rattle.tso_outcome.specs.declared.said.ClientSaid.{ClientSaid}
use Rattle.tso_outcome.specs.declared.said.ClientSaid.TheVariants.{Took, Told, Heard}
use Rattle.tso_outcome.specs.Clients.{PassDid, got}

-- a batch of the client
abbrev pub grant_of : ℕ → Batch → Grant
grant_of c b = record { client = c; batch = b }

-- the draw added its count to the cursor, or it added nothing
abbrev pub AddsAtMost : ℕ → ℕ → View → View → Type 0
AddsAtMost d n old new = (new.added ≡ old.added) ⊎ (new.added ≡ old.added ++ record { client = old.client; driver = d; count = n } ∷ [])

-- a draw found this limit word, and the client had seen this then
abbrev pub HasLooked : ℕ → ℕ → View → View → Type 0
HasLooked d word old new = Contains new.looks (record { client = old.client; driver = d; word = word; seen = old.seen })

-- a batch of the count and the driver asked for, above all that was seen
pub record HasGot (d n : ℕ) (b : Batch) (old new : View) : Type 0 where
  pub some : (0 < b.count) × (b.count ≤ b.last)
  pub count : b.count ≡ n
  pub driver : b.driver ≡ d
  pub above : IsAbove old.seen b
  pub seen : new.seen ≡ seen_of b

-- a refusal of this count, with all that the client had added at that driver before
pub record HasRefused (d n at hi m : ℕ) (old new : View) : Type 0 where
  pub count : m ≡ n
  pub refusal : Contains new.refusals (record { client = old.client; driver = d; at = at; hi = hi; count = n; sum = added_by old.client d old.added })
  pub seen : new.seen ≡ old.seen

-- a limit word of a term below the seen one
pub record HasStale (d term : ℕ) (old new : View) : Type 0 where
  pub term_is : term ≡ old.seen.term
  pub word : ℕ
  pub some : word ≢ 0
  pub below : word % 262144 < term
  pub look : HasLooked d word old new
  pub seen : new.seen ≡ old.seen

-- what the answer tells of the view
abbrev pub ClientTold : ClientSaid → View → View → Type 0
ClientTold (Took d n (Ok b)) old new = HasGot d n b old new × AddsAtMost d n old new
ClientTold (Took d n (Err (Again at hi m))) old new = HasRefused d n at hi m old new × AddsAtMost d n old new
ClientTold (Took d n (Err NotLeader)) old new = HasLooked d 0 old new × (new.seen ≡ old.seen) × (new.added ≡ old.added)
ClientTold (Took d n (Err (Stale term))) old new = HasStale d term old new × (new.added ≡ old.added)
ClientTold (Told to) old new = (new.seen ≡ old.seen) × (new.added ≡ old.added)
ClientTold (Heard (Some note)) old new = (new.seen ≡ greater old.seen note) × (new.added ≡ old.added)
ClientTold (Heard None) old new = (new.seen ≡ old.seen) × (new.added ≡ old.added)

-- the batches gain the answered one, and the looks and refusals stay
pub record PassKept (said : ClientSaid) (old new : View) : Type 0 where
  pub client : new.client ≡ old.client
  pub grants : new.grants ≡ old.grants ++ map (grant_of old.client) (got said)
  pub looks : Keeps old.looks new.looks
  pub refusals : Keeps old.refusals new.refusals
  pub told : ClientTold said old new

-- what stood before stands in a longer list, and what was put behind it too
kept_by : {A : Type 0} (old new more : List A) → new ≡ old ++ more → (let k : Type 0 = Keeps old new in k)
kept_by old new more e = λ x h. subst (λ l. Contains l x) (sym e) (Contains-append_left old more x h)

put_there : {A : Type 0} (old new more : List A) (x : A) → new ≡ old ++ x ∷ more → Contains new x
put_there old new more x e = subst (λ l. Contains l x) (sym e) (Contains-append_right old (x ∷ more) x (in_head x more))

granted : (c : ℕ) (d n : ℕ) (answer : Answer) → grants_by c answer ≡ map (grant_of c) (got (Took d n answer))
granted c d n (Ok b) = refl
granted c d n (Err NotLeader) = refl
granted c d n (Err (Stale term)) = refl
granted c d n (Err (Again at hi m)) = refl

-- a draw whose word was found there
drawn : (d n : ℕ) (answer : Answer) (old new : View) → 0 < n → HasTaken d n answer old new → ClientTold (Took d n answer) old new
drawn d n (Ok b) old new some t = (
  record {
    some = (omega (arith, some, t.tells.2.count), t.tells.2.within);
    count = t.tells.2.count;
    driver = t.tells.2.driver;
    above = t.tells.2.above;
    seen = t.seen;
  },
  inr t.added,
)
drawn d n (Err NotLeader) old new some t = (subst (λ w. HasLooked d w old new) t.tells (put_there old.looks new.looks [] (record { client = old.client; driver = d; word = t.word; seen = old.seen }) t.looks), t.seen, t.added)
drawn d n (Err (Stale term)) old new some t = (
  record {
    term_is = t.tells.2;
    word = t.word;
    some = t.tells.0;
    below = omega (arith, t.tells.1, t.tells.2);
    look = put_there old.looks new.looks [] (record { client = old.client; driver = d; word = t.word; seen = old.seen }) t.looks;
    seen = t.seen;
  },
  t.added,
)
drawn d n (Err (Again at hi m)) old new some t = (
  record {
    count = t.tells.3;
    refusal = subst (λ k. Contains new.refusals (record { client = old.client; driver = d; at = at; hi = hi; count = k; sum = added_by old.client d old.added })) t.tells.3 (put_there old.refusals new.refusals [] (record { client = old.client; driver = d; at = at; hi = hi; count = m; sum = added_by old.client d old.added }) t.refusals);
    seen = t.seen;
  },
  t.added,
)

taken : (d n : ℕ) (answer : Answer) (old new : View) → 0 < n → HasTaken d n answer old new → PassKept (Took d n answer) old new
taken d n answer old new some t = record {
  client = t.client;
  grants = t.grants ∙ ap (λ l. old.grants ++ l) (granted old.client d n answer);
  looks = kept_by old.looks new.looks (record { client = old.client; driver = d; word = t.word; seen = old.seen } ∷ []) t.looks;
  refusals = kept_by old.refusals new.refusals (refusals_by d answer old) t.refusals;
  told = drawn d n answer old new some t;
}

-- a pass that is as it was
stayed : (said : ClientSaid) (old new : View) → got said ≡ [] → ClientTold said old old → new ≡ old → PassKept said old new
stayed said old new none told e = subst (λ v. PassKept said old v) (sym e) (record {
  client = refl;
  grants = sym (ap (λ l. old.grants ++ map (grant_of old.client) l) none ∙ append-nil old.grants);
  looks = λ x h. h;
  refusals = λ x h. h;
  told = told;
})

pub pass_kept : (said : ClientSaid) (old new : View) → PassDid said old new → PassKept said old new
pass_kept (Took d n answer) old new h = taken d n answer old new h.0 h.1
pass_kept (Told to) old new h = stayed (Told to) old new refl (refl, refl) h
pass_kept (Heard None) old new h = stayed (Heard None) old new refl (refl, refl) h
pass_kept (Heard (Some note)) old new h = subst (λ v. PassKept (Heard (Some note)) old v) (sym h.view) (record {
  client = refl;
  grants = refl;
  looks = λ x z. Contains-append_left old.looks [] x z;
  refusals = λ x z. Contains-append_left old.refusals [] x z;
  told = (refl, append-nil old.added);
})
