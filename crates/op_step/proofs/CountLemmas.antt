-- The voters of the region that a step leaves are counted over the peers of the region before it.
use Rattle.std.proofs.Common.{◌≡◌, ℕ, ◌+◌, Bool, true, false, cond, ◌&&◌, not, List, [], ◌∷◌, ◌++◌, map, filter, count_by, refl, sym, ap, ◌∙◌, arith}
use Rattle.std.proofs.lemmas.List.Sums.{sum_by-cons, sum_by-append}
use Rattle.pd_types.specs.declared.region.Role.TheVariants as roles
use Rattle.pd_types.specs.declared.region.Peer.{Peer}
use Rattle.pd_types.specs.declared.region.RegionBeat.{RegionBeat}
use Rattle.pd_types.specs.declared.step.Step.{Step}
use Rattle.pd_types.specs.declared.step.Step.TheVariants.{AddLearner, PromoteLearner, TransferLeader, RemovePeer}
use Rattle.store_table.specs.declared.entry.StoreEntry.{StoreEntry}
use Rattle.op_step.specs.Peers.{is_peer}
use Rattle.op_step.specs.Votes.{is_live_voter, is_voter, live_of, voters_of}
use Rattle.op_step.specs.After.{after, peers_after, promoted}
use Rattle.op_step.specs.Counts.{passes_after}

count-cons : {X : Type 0} (p : X → Bool) (x : X) (xs : List X) → count_by p (x ∷ xs) ≡ cond (p x) 1 0 + count_by p xs
count-cons p x xs = sum_by-cons (λ y. cond (p y) 1 0) x xs

count-map : {X : Type 0} (p : X → Bool) (f : X → X) (xs : List X) → count_by p (map f xs) ≡ count_by (λ x. p (f x)) xs
count-map p f [] = refl
count-map p f (x ∷ xs) = count-cons p (f x) (map f xs) ∙ ap (λ n. cond (p (f x)) 1 0 + n) (count-map p f xs) ∙ sym (count-cons (λ y. p (f y)) x xs)

kept : {X : Type 0} (b : Bool) (p : X → Bool) (x : X) (xs : List X) (n : ℕ) → count_by p xs ≡ n → count_by p (cond b (x ∷ xs) xs) ≡ cond (b && p x) 1 0 + n
kept true p x xs n e = count-cons p x xs ∙ ap (λ k. cond (p x) 1 0 + k) e
kept false p x xs n e = e ∙ omega arith

count-filter : {X : Type 0} (p q : X → Bool) (xs : List X) → count_by p (filter q xs) ≡ count_by (λ x. q x && p x) xs
count-filter p q [] = refl
count-filter p q (x ∷ xs) = kept (q x) p x (filter q xs) _ (count-filter p q xs) ∙ sym (count-cons (λ y. q y && p y) x xs)

count-push : {X : Type 0} (p : X → Bool) (xs : List X) (x : X) → p x ≡ false → count_by p (xs ++ x ∷ []) ≡ count_by p xs
count-push p xs x fails =
    sum_by-append (λ y. cond (p y) 1 0) xs (x ∷ []) ∙ ap (λ n. count_by p xs + n) (count-cons p x [] ∙ ap (λ b. cond b 1 0 + 0) fails) ∙ omega arith

maybe-push : {X : Type 0} (b : Bool) (p : X → Bool) (xs : List X) (x : X) → p x ≡ false → count_by p (cond b xs (xs ++ x ∷ [])) ≡ count_by p xs
maybe-push true p xs x fails = refl
maybe-push false p xs x fails = count-push p xs x fails

-- a test that no learner passes counts the same over the peers after the step
count-after : (step : Step) (p : Peer → Bool) (peers : List Peer) → ((id store : ℕ) → p (record { id = id; store = store; role = roles.Learner }) ≡ false) → count_by p (peers_after step peers) ≡ count_by (passes_after step p) peers
count-after (AddLearner id store) p peers learner = maybe-push _ p peers _ (learner id store)
count-after (PromoteLearner id store) p peers learner = count-map p (promoted id store) peers
count-after (TransferLeader id store) p peers learner = refl
count-after (RemovePeer id store) p peers learner = count-filter p (λ peer. not (is_peer id store peer)) peers

pub voters-after : (step : Step) (beat : RegionBeat) → voters_of (after step beat) ≡ count_by (passes_after step is_voter) beat.region.peers
voters-after step beat = count-after step is_voter beat.region.peers (λ id store. refl)

pub live-after : (step : Step) (beat : RegionBeat) (stores : List StoreEntry) (now : ℕ) → live_of (after step beat) stores now ≡ count_by (passes_after step (is_live_voter beat stores now)) beat.region.peers
live-after step beat stores now = count-after step (is_live_voter beat stores now) beat.region.peers (λ id store. refl)
