-- One call more in the tale of shared metadata, and the tickets of its turn.
use Rattle.std.proofs.Common.{refl, ◌≡◌, ◌≢◌, ℕ, suc, true, List, [], ◌∷◌, ◌++◌, map, reverse, Result, Ok, Err, IfOk, ap, sym, ◌∙◌, arith}
use Rattle.std.specs.Prelude.{All, IfErr, IsTrue, OnOk}
use Rattle.std.proofs.lemmas.List.{append-nil, map-append}
use Rattle.std.proofs.lemmas.List.Elements.{All-cons, All-map, All-nil}
use Rattle.pd_turn.specs.Turns.{IsFree, IsToldBy, TurnValue, made_by}
use Rattle.meta_store.specs.declared.fault.MetaFault.{MetaFault}
use Rattle.meta_store.specs.declared.fault.MetaFault.TheVariants as faults
use Rattle.meta_store.specs.declared.record.Cell.{Cell}
use Rattle.meta_store.specs.declared.record.MetaCall.{MetaCall}
use Rattle.meta_store.specs.declared.record.MetaCall.TheVariants as calls
use Rattle.meta_store.specs.declared.record.MetaEntry.{MetaEntry}
use Rattle.meta_store.specs.declared.record.MetaVerdict.{MetaVerdict}
use Rattle.meta_store.specs.declared.record.MetaVerdict.TheVariants as verdicts
use Rattle.pd_turn.proofs.Items.{items_of-append, items_of-other, items_of-own}
use Rattle.meta_store.specs.declared.record.MetaAnswer.{MetaAnswer}
use Rattle.meta_store.specs.Doors.{answer_of, said_of, said_refused}
use Rattle.meta_store.specs.Past.{Refused, entry_of, is_accepted, noted, records_of, verdict_of}
use Rattle.meta_store.specs.Seats.{AreSeatsOf, IsHeard, SeatValue, heard_by, heard_of, lead_adds, tale_of, ticket_by, write_adds}
use Rattle.meta_store.proofs.Refines.{latest}

-- the tale with one call more
noted_tale : (journal : List MetaEntry) (driver : ℕ) (call : MetaCall)
    → tale_of (reverse (noted journal driver call)) ≡ tale_of (reverse journal) ++ (driver, heard_of (reverse journal) (entry_of driver call (verdict_of (reverse journal) call))) ∷ []
noted_tale journal driver call = ap tale_of (latest journal (entry_of driver call (verdict_of (reverse journal) call)))

-- a call that was refused
refused_tale : (old new : List MetaEntry) (driver : ℕ) (call : MetaCall) (fault : MetaFault)
    → Refused old new driver call fault → tale_of (reverse new) ≡ tale_of (reverse old) ++ made_by driver (said_refused fault call [])
refused_tale old new driver call (faults.OldTerm fence) h =
    ap (λ (l : List MetaEntry). tale_of (reverse l)) h.1 ∙ noted_tale old driver call
    ∙ ap (λ (v : MetaVerdict). tale_of (reverse old) ++ (driver, heard_of (reverse old) (entry_of driver call v)) ∷ []) h.0
refused_tale old new driver call (faults.Conflict found) h =
    ap (λ (l : List MetaEntry). tale_of (reverse l)) h.1 ∙ noted_tale old driver call
    ∙ ap (λ (v : MetaVerdict). tale_of (reverse old) ++ (driver, heard_of (reverse old) (entry_of driver call v)) ∷ []) h.0
refused_tale old new driver call faults.Limit h =
    ap (λ (l : List MetaEntry). tale_of (reverse l)) h.1 ∙ noted_tale old driver call
    ∙ ap (λ (v : MetaVerdict). tale_of (reverse old) ++ (driver, heard_of (reverse old) (entry_of driver call v)) ∷ []) h.0
refused_tale old new driver call faults.NoMemory h = ap (λ (l : List MetaEntry). tale_of (reverse l)) h ∙ sym (append-nil (tale_of (reverse old)))

-- an accepted lead hands out all records
accepted_lead : (past : List MetaEntry) (driver term : ℕ) (v : MetaVerdict)
    → is_accepted v ≡ true → heard_of past (entry_of driver (calls.Lead term) v) ≡ answer_of (calls.Lead term) (verdicts.Accepted 0) (records_of past)
accepted_lead past driver term (verdicts.Accepted revision) h = refl
accepted_lead past driver term (verdicts.OldTerm fence) h = absurd (cc h)
accepted_lead past driver term (verdicts.Conflict found) h = absurd (cc h)
accepted_lead past driver term verdicts.Limit h = absurd (cc h)

pub lead_tale : (old new : List MetaEntry) (driver term : ℕ) (result : Result (List Cell) MetaFault)
    → OnOk result (new ≡ noted old driver (calls.Lead term))
    → OnOk result (IsTrue (is_accepted (verdict_of (reverse old) (calls.Lead term))))
    → IfOk result (λ cells. cells ≡ records_of (reverse old))
    → IfErr result (Refused old new driver (calls.Lead term))
    → tale_of (reverse new) ≡ tale_of (reverse old) ++ made_by driver (lead_adds term result)
lead_tale old new driver term (Ok cells) ok accepted value refused =
    ap (λ (l : List MetaEntry). tale_of (reverse l)) ok ∙ noted_tale old driver (calls.Lead term)
    ∙ ap (λ a. tale_of (reverse old) ++ (driver, a) ∷ [])
    (accepted_lead (reverse old) driver term (verdict_of (reverse old) (calls.Lead term)) accepted ∙ ap (answer_of (calls.Lead term) (verdicts.Accepted 0)) (sym value))
lead_tale old new driver term (Err fault) ok accepted value refused = refused_tale old new driver (calls.Lead term) fault refused

pub put_tale : (old new : List MetaEntry) (driver term : ℕ) (key : List ℕ) (expected : ℕ) (bytes : List ℕ) (result : Result ℕ MetaFault)
    → OnOk result (new ≡ noted old driver (calls.Put term key expected bytes))
    → IfOk result (λ revision. verdict_of (reverse old) (calls.Put term key expected bytes) ≡ verdicts.Accepted revision)
    → IfErr result (Refused old new driver (calls.Put term key expected bytes))
    → tale_of (reverse new) ≡ tale_of (reverse old) ++ made_by driver (write_adds (calls.Put term key expected bytes) result)
put_tale old new driver term key expected bytes (Ok revision) ok value refused =
    ap (λ (l : List MetaEntry). tale_of (reverse l)) ok ∙ noted_tale old driver (calls.Put term key expected bytes)
    ∙ ap (λ (v : MetaVerdict). tale_of (reverse old) ++ (driver, heard_of (reverse old) (entry_of driver (calls.Put term key expected bytes) v)) ∷ []) value
put_tale old new driver term key expected bytes (Err fault) ok value refused = refused_tale old new driver (calls.Put term key expected bytes) fault refused

pub delete_tale : (old new : List MetaEntry) (driver term : ℕ) (key : List ℕ) (expected : ℕ) (result : Result ℕ MetaFault)
    → OnOk result (new ≡ noted old driver (calls.Delete term key expected))
    → IfOk result (λ revision. verdict_of (reverse old) (calls.Delete term key expected) ≡ verdicts.Accepted revision)
    → IfErr result (Refused old new driver (calls.Delete term key expected))
    → tale_of (reverse new) ≡ tale_of (reverse old) ++ made_by driver (write_adds (calls.Delete term key expected) result)
delete_tale old new driver term key expected (Ok revision) ok value refused =
    ap (λ (l : List MetaEntry). tale_of (reverse l)) ok ∙ noted_tale old driver (calls.Delete term key expected)
    ∙ ap (λ (v : MetaVerdict). tale_of (reverse old) ++ (driver, heard_of (reverse old) (entry_of driver (calls.Delete term key expected) v)) ∷ []) value
delete_tale old new driver term key expected (Err fault) ok value refused = refused_tale old new driver (calls.Delete term key expected) fault refused

-- tickets of seats
pub are_free : (turn : TurnValue) (seats : List SeatValue) → AreSeatsOf turn seats → All (IsFree turn) (map ticket_by seats)
are_free turn seats h = All-map (IsFree turn) ticket_by seats (λ k d lt. record { turn_is = h k d lt; none = refl })

pub are_told : (journal : List MetaEntry) (seats : List SeatValue) → All (IsToldBy (tale_of (reverse journal))) (map ticket_by seats) → All (IsHeard journal) seats
are_told journal [] h = All-nil (IsHeard journal)
are_told journal (s ∷ ss) h = All-cons (IsHeard journal) s ss (h 0 (ticket_by s) (omega arith)) (are_told journal ss (λ k d lt. h (suc k) d (omega (arith, lt))))

-- WHAT DRIVERS HEAR
pub all_said : (past : List MetaEntry) → map (λ (x : ℕ × MetaAnswer). x.1) (tale_of past) ≡ said_of past
all_said [] = refl
all_said (entry ∷ past) =
    map-append (λ (x : ℕ × MetaAnswer). x.1) (tale_of past) ((entry.driver, heard_of past entry) ∷ [])
    ∙ ap (λ l. l ++ heard_of past entry ∷ []) (all_said past)

pub own_heard : (past : List MetaEntry) (entry : MetaEntry) → heard_by entry.driver (entry ∷ past) ≡ heard_by entry.driver past ++ heard_of past entry ∷ []
own_heard past entry =
    items_of-append entry.driver (tale_of past) (made_by entry.driver (heard_of past entry ∷ []))
    ∙ ap (λ l. heard_by entry.driver past ++ l) (items_of-own entry.driver (heard_of past entry ∷ []))

pub other_heard : (past : List MetaEntry) (entry : MetaEntry) (driver : ℕ) → entry.driver ≢ driver → heard_by driver (entry ∷ past) ≡ heard_by driver past
other_heard past entry driver other =
    items_of-append driver (tale_of past) (made_by entry.driver (heard_of past entry ∷ []))
    ∙ ap (λ l. heard_by driver past ++ l) (items_of-other driver entry.driver (heard_of past entry ∷ []) other)
    ∙ append-nil (heard_by driver past)
