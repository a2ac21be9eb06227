-- What a patrol and a command of pd-ctl leave of the stores: each is as it was, or in the one other state.
use Rattle.std.proofs.Common.{refl, ◌≡◌, ℕ, Bool, true, false, cond, nat_eq, List, [], ◌∷◌, map, ap, sym, ◌∙◌, subst, Option, Some, None, ◌⊎◌, inl, inr}
use Rattle.pd_types.specs.declared.store.StoreRec.{StoreRec}
use Rattle.pd_types.specs.declared.store.StoreState.{StoreState}
use Rattle.pd_types.specs.declared.store.StoreState.TheVariants.{Offline, Tombstone}
use Rattle.store_table.specs.declared.entry.StoreEntry.{StoreEntry}
use Rattle.store_table.specs.Calls.{in_state}
use Rattle.store_table.specs.Entries.{changed, entry_at}
use Rattle.store_limit.specs.declared.limits.LimitKind.{LimitKind}
use Rattle.op_control.specs.Table.{active_at}
use Rattle.op_control.specs.declared.operator.Operator.{Operator}
use Rattle.pd_ctl.specs.declared.command.Command.{Command}
use Rattle.pd_ctl.specs.declared.command.Command.TheVariants as commands
use Rattle.pd_ctl.specs.declared.fault.CtlFault.{CtlFault}
use Rattle.std.specs.Prelude.{Result, Ok, Err}
use Rattle.meta_store.specs.declared.record.MetaAnswer.{MetaAnswer}
use Rattle.meta_store.specs.declared.record.MetaVerdict.{MetaVerdict}
use Rattle.meta_store.specs.declared.record.MetaVerdict.TheVariants as verdicts
use Rattle.meta_store.specs.Stores.{store_bytes, store_key}
use Rattle.pd_state.specs.Adding.{Around, Planning, Work, around_at, planning_of}
use Rattle.pd_state.specs.Asking.{Hearing, done, hearing, write}
use Rattle.pd_state.specs.Checking.{Burial, Deed, Round, burial_after, bury, bury_all, bury_one, deed_of, first_round, graves_in, idle, patrol, patrol_deed, patrol_of, plans_in, sweep}
use Rattle.pd_state.specs.Ctl.{added_by_hand, admin, command_done, ctl_of, delete_by, delete_found, deleted_by, deletion, limit_found, remove_found, words_done}
use Rattle.pd_state.specs.HandedOut.{record_at}
use Rattle.pd_state.specs.Reports.{command_told}
use Rattle.pd_state.specs.Wishing.{steps_in, try_wished, wished}
use Rattle.pd_state.specs.State.{part_of, store_of}
use Rattle.pd_state.specs.declared.entry.Entry.{Entry}
use Rattle.pd_state.specs.declared.reply.Reply.{Reply}
use Rattle.pd_state.specs.declared.reply.Reply.TheVariants as replies
use Rattle.pd_state.proofs.Ends.{Ends, ends_any, ends_if, ends_on, ends_or}
use Rattle.pd_state.proofs.Records.{records_of}

-- each store is as it was, or in this state
abbrev pub AreRestated : StoreState → List StoreEntry → List StoreEntry → Type 0
AreRestated state [] [] = Unit {0}
AreRestated state [] (entry ∷ after) = ⊥
AreRestated state (entry ∷ before) [] = ⊥
AreRestated state (one ∷ before) (entry ∷ after) = ((entry ≡ one) ⊎ (entry ≡ in_state state one)) × AreRestated state before after

-- each store is as it was, or a tombstone
abbrev pub AreBuried : List StoreEntry → List StoreEntry → Type 0
AreBuried before after = AreRestated Tombstone before after

restated_same : (state : StoreState) (stores : List StoreEntry) → AreRestated state stores stores
restated_same state [] = tt
restated_same state (one ∷ stores) = (inl refl, restated_same state stores)

pub buried_same : (stores : List StoreEntry) → AreBuried stores stores
buried_same stores = restated_same Tombstone stores

one_more : (state : StoreState) (t : Bool) (one entry : StoreEntry) → (entry ≡ one) ⊎ (entry ≡ in_state state one) → (cond t (in_state state entry) entry ≡ one) ⊎ (cond t (in_state state entry) entry ≡ in_state state one)
one_more state true one entry (inl is) = inr (ap (in_state state) is)
one_more state true one entry (inr is) = inr (ap (in_state state) is)
one_more state false one entry h = h

restated_more : (state : StoreState) (before after : List StoreEntry) (id : ℕ) → AreRestated state before after → AreRestated state before (changed id (in_state state) after)
restated_more state [] [] id h = tt
restated_more state [] (entry ∷ after) id h = absurd h
restated_more state (one ∷ before) [] id h = absurd h
restated_more state (one ∷ before) (entry ∷ after) id h = (one_more state (nat_eq entry.store.id id) one entry h.0, restated_more state before after id h.1)

pub buried_more : (before after : List StoreEntry) (id : ℕ) → AreBuried before after → AreBuried before (changed id (in_state Tombstone) after)
buried_more before after id h = restated_more Tombstone before after id h

after_buried : (before : List StoreEntry) (rec : StoreRec) (burial : Burial) (verdict : MetaVerdict) → AreBuried before burial.stores → AreBuried before (burial_after rec burial verdict).stores
after_buried before rec burial (verdicts.Accepted revision) h = buried_more before burial.stores rec.id h
after_buried before rec burial (verdicts.OldTerm fence) h = h
after_buried before rec burial (verdicts.Conflict found) h = h
after_buried before rec burial verdicts.Limit h = h

abbrev Buries : List StoreEntry → Burial → Type 0
Buries before burial = AreBuried before burial.stores

one_buried : (before : List StoreEntry) (term : ℕ) (rec : StoreRec) (burial : Burial) (at : Hearing) → Buries before burial → Ends Burial (Buries before) (bury_one term rec burial at)
one_buried before term rec burial at h =
    ends_if Burial (Buries before) burial.stopped (done burial) _ at (λ s. h)
    (λ s. ends_on MetaVerdict Burial (λ v. Unit {0}) (Buries before) (λ verdict. done (burial_after rec burial verdict)) (write term (store_key rec.id) (store_bytes rec) at) (ends_any MetaVerdict _) (λ verdict then u. after_buried before rec burial verdict h))

all_buried : (before : List StoreEntry) (term : ℕ) (recs : List StoreRec) (burial : Burial) (at : Hearing) → Buries before burial → Ends Burial (Buries before) (bury term recs burial at)
all_buried before term [] burial at h = h
all_buried before term (rec ∷ recs) burial at h =
    ends_on Burial Burial (Buries before) (Buries before) (λ next. bury term recs next) (bury_one term rec burial at) (one_buried before term rec burial at h) (λ next then k. all_buried before term recs next then k)

abbrev DeedBuries : List StoreEntry → Deed → Type 0
DeedBuries before deed = AreBuried before deed.stores

pub patrol_buried : (around : Around) (planning : Planning) (at : Hearing) → Ends Deed (DeedBuries around.stores) (patrol around planning at)
patrol_buried around planning at =
    ends_on Round Deed (λ round. Unit {0}) (DeedBuries around.stores) _ (sweep around (plans_in around) (first_round planning) at) (ends_any Round _)
    (λ round then u. ends_on Burial Deed (Buries around.stores) (DeedBuries around.stores) (λ burial. done (patrol_deed around round burial)) (bury_all around then)
    (all_buried around.stores around.term (graves_in around) (record { stores = around.stores; buried = 0; stopped = false }) then (buried_same around.stores))
    (λ burial last h. h))

pub deed_buried : (es : List Entry) (moment : ℕ) (answers : List MetaAnswer) → AreBuried (part_of es).stores (deed_of (patrol_of (part_of es) moment) (part_of es) moment answers).stores
deed_buried es moment answers =
    ends_or Deed (DeedBuries (part_of es).stores) (idle (around_at (part_of es) moment) (planning_of (part_of es)) replies.NotLeading) (patrol_of (part_of es) moment (hearing (part_of es).known answers))
    (buried_same (part_of es).stores) (patrol_buried (around_at (part_of es) moment) (planning_of (part_of es)) (hearing (part_of es).known answers))

-- each entry has the beginning of the term and its store's last heartbeat
abbrev pub AreRows : List Entry → List StoreEntry → Type 0
AreRows es [] = Unit {0}
AreRows es (entry ∷ stores) = (entry ≡ store_of es entry.store) × AreRows es stores

row_is : (state : StoreState) (es : List Entry) (rec : StoreRec) (entry : StoreEntry) → (entry ≡ store_of es rec) ⊎ (entry ≡ in_state state (store_of es rec)) → entry ≡ store_of es entry.store
row_is state es rec entry (inl is) = subst (λ (e : StoreEntry). e ≡ store_of es e.store) (sym is) refl
row_is state es rec entry (inr is) = subst (λ (e : StoreEntry). e ≡ store_of es e.store) (sym is) refl

rows_are : (state : StoreState) (es : List Entry) (recs : List StoreRec) (stores : List StoreEntry) → AreRestated state (map (store_of es) recs) stores → AreRows es stores
rows_are state es [] [] h = tt
rows_are state es [] (entry ∷ stores) h = absurd h
rows_are state es (rec ∷ recs) [] h = absurd h
rows_are state es (rec ∷ recs) (entry ∷ stores) h = (row_is state es rec entry h.0, rows_are state es recs stores h.1)

pub patrol_rows : (es : List Entry) (moment : ℕ) (answers : List MetaAnswer) → AreRows es (deed_of (patrol_of (part_of es) moment) (part_of es) moment answers).stores
patrol_rows es moment answers = rows_are Tombstone es (records_of es) _ (deed_buried es moment answers)

-- the same stores are known
pub id_is : (state : StoreState) (es : List Entry) (rec : StoreRec) (entry : StoreEntry) → (entry ≡ store_of es rec) ⊎ (entry ≡ in_state state (store_of es rec)) → entry.store.id ≡ rec.id
id_is state es rec entry (inl is) = ap (λ (e : StoreEntry). e.store.id) is
id_is state es rec entry (inr is) = ap (λ (e : StoreEntry). e.store.id) is

none_first : (t : Bool) (x : StoreRec) (rest : Option StoreRec) → cond t (Some x) rest ≡ None → t ≡ false × rest ≡ None
none_first true x rest h = absurd cc
none_first false x rest h = (refl, h)

unknown_are : (state : StoreState) (es : List Entry) (store : ℕ) (recs : List StoreRec) (stores : List StoreEntry) → AreRestated state (map (store_of es) recs) stores → record_at store (map (λ (entry : StoreEntry). entry.store) stores) ≡ None → record_at store recs ≡ None
unknown_are state es store [] stores h none = refl
unknown_are state es store (rec ∷ recs) [] h none = absurd h
unknown_are state es store (rec ∷ recs) (entry ∷ stores) h none =
    let both = none_first (nat_eq entry.store.id store) entry.store (record_at store (map (λ (e : StoreEntry). e.store) stores)) none in
    let here : nat_eq rec.id store ≡ false = ap (λ (n : ℕ). nat_eq n store) (sym (id_is state es rec entry h.0)) ∙ both.0 in
    ap (λ (t : Bool). cond t (Some rec) (record_at store recs)) here ∙ unknown_are state es store recs stores h.1 both.1

pub patrol_unknown : (es : List Entry) (moment store : ℕ) (answers : List MetaAnswer) → record_at store (map (λ (entry : StoreEntry). entry.store) (deed_of (patrol_of (part_of es) moment) (part_of es) moment answers).stores) ≡ None → record_at store (records_of es) ≡ None
patrol_unknown es moment store answers none = unknown_are Tombstone es store (records_of es) _ (deed_buried es moment answers) none

-- a command of pd-ctl leaves each store as it was, or Offline
abbrev DeedDeletes : List StoreEntry → Deed → Type 0
DeedDeletes before deed = AreRestated Offline before deed.stores

verdict_deletes : (around : Around) (planning : Planning) (id : ℕ) (verdict : MetaVerdict) → DeedDeletes around.stores (deleted_by around planning id verdict)
verdict_deletes around planning id (verdicts.Accepted revision) = restated_more Offline around.stores around.stores id (restated_same Offline around.stores)
verdict_deletes around planning id (verdicts.OldTerm fence) = restated_same Offline around.stores
verdict_deletes around planning id (verdicts.Conflict found) = restated_same Offline around.stores
verdict_deletes around planning id verdicts.Limit = restated_same Offline around.stores

by_deletes : (r : Result StoreRec Reply) (around : Around) (planning : Planning) (at : Hearing) → Ends Deed (DeedDeletes around.stores) (delete_by r around planning at)
by_deletes (Ok rec) around planning at =
    ends_on MetaVerdict Deed (λ v. Unit {0}) (DeedDeletes around.stores) (λ verdict. done (deleted_by around planning rec.id verdict)) (write around.term (store_key rec.id) (store_bytes rec) at) (ends_any MetaVerdict _)
    (λ verdict then u. verdict_deletes around planning rec.id verdict)
by_deletes (Err reply) around planning at = restated_same Offline around.stores

found_deletes : (o : Option StoreEntry) (around : Around) (planning : Planning) (at : Hearing) → Ends Deed (DeedDeletes around.stores) (delete_found o around planning at)
found_deletes o around planning at = by_deletes (deletion o) around planning at

limit_deletes : (o : Option StoreEntry) (around : Around) (planning : Planning) (id rate : ℕ) (kind : LimitKind) (at : Hearing) → Ends Deed (DeedDeletes around.stores) (limit_found o around planning id rate kind at)
limit_deletes None around planning id rate kind at = restated_same Offline around.stores
limit_deletes (Some entry) around planning id rate kind at = restated_same Offline around.stores

remove_deletes : (o : Option Operator) (around : Around) (planning : Planning) (region : ℕ) (at : Hearing) → Ends Deed (DeedDeletes around.stores) (remove_found o around planning region at)
remove_deletes None around planning region at = restated_same Offline around.stores
remove_deletes (Some op) around planning region at = restated_same Offline around.stores

command_deletes : (around : Around) (planning : Planning) (command : Command) (at : Hearing) → Ends Deed (DeedDeletes around.stores) (command_done around planning command at)
command_deletes around planning (commands.StoreDelete id) at = found_deletes (entry_at id around.stores) around planning at
command_deletes around planning (commands.StoreLimit id rate kind) at = limit_deletes (entry_at id around.stores) around planning id rate kind at
command_deletes around planning (commands.OperatorAdd region wish) at =
    ends_on Work Deed (λ work. Unit {0}) (DeedDeletes around.stores) (λ work. done (added_by_hand around (steps_in (wished around region wish)) work)) (try_wished around admin planning (wished around region wish) at) (ends_any Work _)
    (λ work then u. restated_same Offline around.stores)
command_deletes around planning (commands.OperatorRemove region) at = remove_deletes (active_at planning.operators region) around planning region at
command_deletes around planning command at = restated_same Offline around.stores

words_delete : (around : Around) (planning : Planning) (told : Result Command CtlFault) (at : Hearing) → Ends Deed (DeedDeletes around.stores) (words_done around planning told at)
words_delete around planning (Ok command) at = command_deletes around planning command at
words_delete around planning (Err fault) at = restated_same Offline around.stores

pub deed_deleted : (es : List Entry) (moment : ℕ) (words : List ℕ) (answers : List MetaAnswer) → AreRestated Offline (part_of es).stores (deed_of (ctl_of (part_of es) moment words) (part_of es) moment answers).stores
deed_deleted es moment words answers =
    ends_or Deed (DeedDeletes (part_of es).stores) (idle (around_at (part_of es) moment) (planning_of (part_of es)) replies.NotLeading) (ctl_of (part_of es) moment words (hearing (part_of es).known answers))
    (restated_same Offline (part_of es).stores) (words_delete (around_at (part_of es) moment) (planning_of (part_of es)) (command_told words) (hearing (part_of es).known answers))

pub ctl_rows : (es : List Entry) (moment : ℕ) (words : List ℕ) (answers : List MetaAnswer) → AreRows es (deed_of (ctl_of (part_of es) moment words) (part_of es) moment answers).stores
ctl_rows es moment words answers = rows_are Offline es (records_of es) _ (deed_deleted es moment words answers)

pub ctl_unknown : (es : List Entry) (moment store : ℕ) (words : List ℕ) (answers : List MetaAnswer) → record_at store (map (λ (entry : StoreEntry). entry.store) (deed_of (ctl_of (part_of es) moment words) (part_of es) moment answers).stores) ≡ None
    → record_at store (records_of es) ≡ None
ctl_unknown es moment store words answers none = unknown_are Offline es store (records_of es) _ (deed_deleted es moment words answers) none
