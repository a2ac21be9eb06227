-- What the lock keeps, over one request more.
use Rattle.std.proofs.Common.{◌≡◌, ◌+◌, ℕ, eqb, List, [], ◌∷◌, ◌++◌, length, reverse, sym, ap, ◌∙◌, subst, arith}
use Rattle.std.specs.Prelude.{All, None}
use Rattle.std.specs.List.{AllZip, flat_map}
use Rattle.std.specs.List.Sorted.{IsPermutation}
use Rattle.std.proofs.lemmas.List.{append-nil, map-append, reverse-append}
use Rattle.std.proofs.lemmas.List.Elements.{All-cons, All-head, All-nil, All-tail, filter-append}
use Rattle.std.proofs.lemmas.Grind.{flat_map-append}
use Rattle.pd_turn.specs.Turns.{AreApart, TurnValue, made_by}
use Rattle.pd_types.specs.declared.oracle.Actor.{Actor}
use Rattle.pd_types.specs.declared.request.Request.{Request}
use Rattle.pd_types.specs.declared.step.StepMsg.{StepMsg}
use Rattle.meta_store.specs.Seats.{SeatValue}
use Rattle.pd_state.specs.declared.entry.Entry.{Entry}
use Rattle.pd_state.specs.declared.reply.Reply.{Reply}
use Rattle.pd_state.specs.Clusters.{ClusterValue, Died, Served}
use Rattle.pd_state.specs.Legal.{IsLegal, IsLegalAfter}
use Rattle.sched_api.specs.Benches.{Seats}
use Rattle.pd_shared.specs.Kept.{IsKept, answers_in, number_of, tale_of}
use Rattle.pd_shared.specs.Names.{StreamName, streams_of}
use Rattle.pd_shared.specs.Outlets.{AreOutletsOf, ArePushed, IsServed, OutletValue, TookUp, sends_to, to_store}
use Rattle.pd_shared.proofs.Pushing.{pushed_more, same_names, same_stores}

-- a journal with one entry more
legal_more : (driver : ℕ) (entries new : List Entry) (e : Entry) → new ≡ entries ++ e ∷ [] → IsLegal driver (reverse entries) → IsLegalAfter driver (reverse entries) e → IsLegal driver (reverse new)
legal_more driver entries new e is legal here =
    let both : IsLegal driver (e ∷ reverse entries) = (here, legal) in
    subst (IsLegal driver) (sym (ap reverse is ∙ reverse-append entries (e ∷ []))) both

pub answers_more : (entries new : List Entry) (e : Entry) → new ≡ entries ++ e ∷ [] → answers_in new ≡ answers_in entries ++ e.answers
answers_more entries new e is =
    ap answers_in is ∙ flat_map-append (λ (x : Entry). x.answers) entries (e ∷ []) ∙ ap (λ l. answers_in entries ++ l) (append-nil e.answers)

pub sends_more : (store : ℕ) (entries new : List Entry) (e : Entry) → new ≡ entries ++ e ∷ [] → sends_to store new ≡ sends_to store entries ++ to_store store e.sends
sends_more store entries new e is =
    ap (sends_to store) is
    ∙ ap (to_store store) (flat_map-append (λ (x : Entry). x.sends) entries (e ∷ []) ∙ ap (λ l. flat_map (λ (x : Entry). x.sends) entries ++ l) (append-nil e.sends))
    ∙ filter-append (λ (msg : StepMsg). eqb msg.to store) (flat_map (λ (x : Entry). x.sends) entries) e.sends

pub tale_more : (entries new : List Entry) (e : Entry) → new ≡ entries ++ e ∷ [] → tale_of new ≡ tale_of entries ++ made_by (number_of e.actor) (e ∷ [])
tale_more entries new e is = ap tale_of is ∙ map-append (λ (x : Entry). (number_of x.actor, x)) entries (e ∷ [])

-- an outlet that took up what the entry sent
served_one : (entries new : List Entry) (e : Entry) → new ≡ entries ++ e ∷ [] → (o p : OutletValue) → IsServed entries o → TookUp e.sends o p → IsServed new p
served_one entries new e is o p served took =
    let sends : sends_to p.store new ≡ sends_to o.store entries ++ to_store o.store e.sends = ap (λ s. sends_to s new) took.store_is ∙ sends_more o.store entries new e is in
    subst (λ (y : List StepMsg × List StepMsg). ArePushed 0 y.0 y.1) (λ i. (sym sends i, sym took.pushed_is i))
    (pushed_more 0 (sends_to o.store entries) o.pushed (to_store o.store e.sends) took.added served
    (let same : length o.pushed ≡ 0 + length o.pushed = omega arith in subst (λ n. ArePushed n (to_store o.store e.sends) took.added) same took.are_pushed))

served_more : (entries new : List Entry) (e : Entry) → new ≡ entries ++ e ∷ [] → (os ps : List OutletValue) → All (IsServed entries) os → AllZip (TookUp e.sends) os ps → All (IsServed new) ps
served_more entries new e is [] [] served took = All-nil (IsServed new)
served_more entries new e is [] (p ∷ ps) served took = absurd took
served_more entries new e is (o ∷ os) [] served took = absurd took
served_more entries new e is (o ∷ os) (p ∷ ps) served took =
    All-cons (IsServed new) p ps (served_one entries new e is o p (All-head (IsServed entries) o os served) took.0)
    (served_more entries new e is os ps (All-tail (IsServed entries) o os served) took.1)

-- outlets that took up steps are still those that are listed
pub outlets_stay : (streams : List StreamName) (driver after : ℕ) (sends : List StepMsg) (os ps : List OutletValue) → after ≡ driver → AreOutletsOf streams driver os → AllZip (TookUp sends) os ps → AreOutletsOf streams after ps
outlets_stay streams driver after sends os ps is h took = subst (λ d. AreOutletsOf streams d ps) (sym is) (record {
  listed = subst (λ l. IsPermutation l (streams_of driver streams)) (sym (same_names driver sends os ps took)) h.listed;
  apart = subst AreApart (sym (same_stores sends os ps took)) h.apart;
})

module _ (meta : TurnValue) (streams : List StreamName) (old new : ClusterValue) (seat seat' : SeatValue) (os ps : List OutletValue)
    (turn : seat'.turn ≡ seat.turn) (driver : seat'.driver ≡ seat.driver) (kept : IsKept meta streams old seat os) where
  pub kept_more : {one other : Seats} (actor : Actor) (line : ℕ) (request : Request) (reply : Reply)
      → (s : Served old new (record { said_old = seat.list; said_new = seat'.list; told_old = None; told_new = None }) one other actor line request reply)
      → AllZip (TookUp s.entry.sends) os ps → IsKept meta streams new seat' ps
  kept_more actor line request reply s took = record {
    turn_is = turn ∙ kept.turn_is;
    driver_is = driver ∙ kept.driver_is ∙ sym s.driver_is;
    outlets_are = outlets_stay streams old.driver new.driver s.entry.sends os ps s.driver_is kept.outlets_are took;
    legal = subst (λ d. IsLegal d (reverse new.entries)) (sym s.driver_is) (legal_more old.driver old.entries new.entries s.entry s.appended kept.legal s.legal);
    replays = λ _. s.replays;
    answers = λ _. s.said ∙ ap (λ l. l ++ s.entry.answers) (kept.answers s.alive) ∙ sym (answers_more old.entries new.entries s.entry s.appended);
    served = served_more old.entries new.entries s.entry s.appended os ps kept.served took;
  }

  pub kept_died : Died old new → IsKept meta streams new seat' os
  kept_died d = record {
    turn_is = turn ∙ kept.turn_is;
    driver_is = driver ∙ kept.driver_is ∙ sym d.driver_is;
    outlets_are = subst (λ n. AreOutletsOf streams n os) (sym d.driver_is) kept.outlets_are;
    legal = subst (λ (y : ℕ × List Entry). IsLegal y.0 (reverse y.1)) (λ i. (sym d.driver_is i, sym d.entries_is i)) kept.legal;
    replays = λ alive. absurd (cc (d.dead_is, alive));
    answers = λ alive. absurd (cc (d.dead_is, alive));
    served = subst (λ l. All (IsServed l) os) (sym d.entries_is) kept.served;
  }
