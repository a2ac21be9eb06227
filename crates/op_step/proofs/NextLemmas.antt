-- The scan over the voters that can take the lead finds the one of the least id.
use Rattle.std.proofs.Common.{◌≡◌, ℕ, ◌≤◌, Bool, true, false, cond, nat_le, List, [], ◌∷◌, filter, fold, suc, refl, sym, ap, ◌∙◌, ◌⊎◌, inl, inr, IsTrue, arith, Option, Some, None, All, Contains}
use Rattle.std.proofs.lemmas.Bool.{false≢true, leb-true, leb-false}
use Rattle.std.proofs.lemmas.List.Elements.{All-nil, All-cons}
use Rattle.pd_types.specs.declared.region.Peer.{Peer}
use Rattle.pd_types.specs.declared.region.RegionBeat.{RegionBeat}
use Rattle.store_table.specs.declared.entry.StoreEntry.{StoreEntry}
use Rattle.op_step.specs.Wishes.{lesser, may_lead, next_leader}
use Rattle.op_step.specs.NextLeader.{IsNext}

here : {X : Type 0} (x : X) (xs : List X) → Contains (x ∷ xs) x
here x xs = (0, omega arith, refl)

there : {X : Type 0} (x y : X) (xs : List X) → Contains xs y → Contains (x ∷ xs) y
there x y xs c = let less = c.1 in (suc c.0, omega arith, c.2)

-- where a peer passes, this one's id is no greater
abbrev AtMost : (Peer → Bool) → Peer → Peer → Type 0
AtMost p peer other = IsTrue (p other) → peer.id ≤ other.id

-- what a scan finds that begins with a best one
record Scanned (p : Peer → Bool) (best : Peer) (xs : List Peer) : Type 0 where
  peer : Peer
  is : fold lesser (Some best) (filter p xs) ≡ Some peer
  lower : peer.id ≤ best.id
  from : (peer ≡ best) ⊎ (Contains xs peer × IsTrue (p peer))
  least : All (AtMost p peer) xs

later : (p : Peer → Bool) (x m best : Peer) (xs : List Peer) → (m ≡ best) ⊎ (Contains xs m × IsTrue (p m)) → (m ≡ best) ⊎ (Contains (x ∷ xs) m × IsTrue (p m))
later p x m best xs (inl same) = inl same
later p x m best xs (inr found) = inr (there x m xs found.0, found.1)

-- the one that passes is found, or an earlier one
taken : (p : Peer → Bool) (x m : Peer) (xs : List Peer) → p x ≡ true → (m ≡ x) ⊎ (Contains xs m × IsTrue (p m)) → Contains (x ∷ xs) m × IsTrue (p m)
taken p x m xs passes (inl same) = rw same (here x xs, passes)
taken p x m xs passes (inr found) = (there x m xs found.0, found.1)

scan-step : (p : Peer → Bool) (x best : Peer) (xs : List Peer) (b c : Bool) → p x ≡ b → nat_le best.id x.id ≡ c → Scanned p best xs → Scanned p x xs → Scanned p best (x ∷ xs)
scan-step p x best xs false c fails order kept replaced = record {
  peer = kept.peer;
  is = rw fails kept.is;
  lower = kept.lower;
  from = later p x kept.peer best xs kept.from;
  least = All-cons (AtMost p kept.peer) x xs (λ passes. absurd (false≢true (sym fails ∙ passes))) kept.least;
}
scan-step p x best xs true true passes order kept replaced = record {
  peer = kept.peer;
  is = ap (λ b. fold lesser (Some best) (cond b (x ∷ filter p xs) (filter p xs))) passes ∙ ap (λ b. fold lesser (cond b (Some best) (Some x)) (filter p xs)) order ∙ kept.is;
  lower = kept.lower;
  from = later p x kept.peer best xs kept.from;
  least = All-cons (AtMost p kept.peer) x xs (λ _. let first = kept.lower in let second = leb-true best.id x.id order in omega arith) kept.least;
}
scan-step p x best xs true false passes order kept replaced = record {
  peer = replaced.peer;
  is = ap (λ b. fold lesser (Some best) (cond b (x ∷ filter p xs) (filter p xs))) passes ∙ ap (λ b. fold lesser (cond b (Some best) (Some x)) (filter p xs)) order ∙ replaced.is;
  lower = let first = replaced.lower in let second = leb-false best.id x.id order in omega arith;
  from = inr (taken p x replaced.peer xs passes replaced.from);
  least = All-cons (AtMost p replaced.peer) x xs (λ _. replaced.lower) replaced.least;
}

scan : (p : Peer → Bool) (xs : List Peer) (best : Peer) → Scanned p best xs
scan p [] best = record { peer = best; is = refl; lower = omega arith; from = inl refl; least = All-nil (AtMost p best) }
scan p (x ∷ xs) best = scan-step p x best xs (p x) (nat_le best.id x.id) refl refl (scan p xs best) (scan p xs x)

-- the same, of any test
record Least (p : Peer → Bool) (xs : List Peer) (peer : Peer) : Type 0 where
  held : Contains xs peer
  able : IsTrue (p peer)
  least : All (AtMost p peer) xs

abbrev Found : (Peer → Bool) → List Peer → Option Peer → Type 0
Found p xs None = All (λ (peer : Peer). p peer ≡ false) xs
Found p xs (Some peer) = Least p xs peer

found-later : (p : Peer → Bool) (x : Peer) (xs : List Peer) (o : Option Peer) → p x ≡ false → Found p xs o → Found p (x ∷ xs) o
found-later p x xs None fails none = All-cons (λ (peer : Peer). p peer ≡ false) x xs fails none
found-later p x xs (Some peer) fails some = record {
  held = there x peer xs some.held;
  able = some.able;
  least = All-cons (AtMost p peer) x xs (λ passes. absurd (false≢true (sym fails ∙ passes))) some.least;
}

found-first : (p : Peer → Bool) (x : Peer) (xs : List Peer) → p x ≡ true → (s : Scanned p x xs) → Found p (x ∷ xs) (fold lesser (Some x) (filter p xs))
found-first p x xs passes s =
    let both = taken p x s.peer xs passes s.from in
    rw s.is (record { held = both.0; able = both.1; least = All-cons (AtMost p s.peer) x xs (λ _. s.lower) s.least })

found-step : (p : Peer → Bool) (x : Peer) (xs : List Peer) (b : Bool) → p x ≡ b → Found p xs (fold lesser None (filter p xs)) → Found p (x ∷ xs) (fold lesser None (cond b (x ∷ filter p xs) (filter p xs)))
found-step p x xs false fails rest = found-later p x xs _ fails rest
found-step p x xs true passes rest = found-first p x xs passes (scan p xs x)

found : (p : Peer → Bool) (xs : List Peer) → Found p xs (fold lesser None (filter p xs))
found p [] = All-nil (λ (peer : Peer). p peer ≡ false)
found p (x ∷ xs) = found-step p x xs (p x) refl (found p xs)

next : (beat : RegionBeat) (stores : List StoreEntry) (now : ℕ) (o : Option Peer) → Found (may_lead beat stores now) beat.region.peers o → IsNext beat stores now o
next beat stores now None none = none
next beat stores now (Some peer) some = record { held = some.held; able = some.able; least = some.least }

-- the next leader is of the least id among those that can take the lead
pub next-is-least : (beat : RegionBeat) (stores : List StoreEntry) (now : ℕ) → IsNext beat stores now (next_leader beat stores now)
next-is-least beat stores now = next beat stores now _ (found (may_lead beat stores now) beat.region.peers)
