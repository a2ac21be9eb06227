-- What a command of pd-ctl leaves of a store's state: it is as it was, or Offline, where the command deletes the store and it was no tombstone.
use Rattle.std.proofs.Common.{refl, ◌≡◌, ℕ, Bool, true, false, cond, nat_eq, List, [], ◌∷◌, ap, sym, ◌∙◌, subst, Option, Some, None, ◌⊎◌, inl, inr}
use Rattle.std.specs.Option.{option_map}
use Rattle.std.specs.Prelude.{Result, Ok, Err}
use Rattle.pd_types.proofs.Numbers.{other_number, same_number}
use Rattle.pd_types.specs.declared.store.StoreState.{StoreState}
use Rattle.pd_types.specs.declared.store.StoreState.TheVariants.{Up, Offline, Tombstone}
use Rattle.store_table.specs.declared.entry.StoreEntry.{StoreEntry}
use Rattle.store_table.specs.Calls.{in_state}
use Rattle.store_table.specs.Entries.{changed, entry_at, state_at}
use Rattle.store_table.proofs.MapLemmas.{entry_changed, entry_kept}
use Rattle.store_limit.specs.declared.limits.LimitKind.{LimitKind}
use Rattle.op_control.specs.Table.{active_at}
use Rattle.op_control.specs.declared.operator.Operator.{Operator}
use Rattle.meta_store.specs.declared.record.MetaAnswer.{MetaAnswer}
use Rattle.meta_store.specs.declared.record.MetaVerdict.{MetaVerdict}
use Rattle.meta_store.specs.declared.record.MetaVerdict.TheVariants as verdicts
use Rattle.meta_store.specs.Stores.{store_bytes, store_key}
use Rattle.pd_ctl.specs.declared.command.Command.{Command}
use Rattle.pd_ctl.specs.declared.command.Command.TheVariants as commands
use Rattle.pd_ctl.specs.declared.fault.CtlFault.{CtlFault}
use Rattle.pd_state.specs.Adding.{Around, Planning, Work, around_at, planning_of}
use Rattle.pd_state.specs.Asking.{Hearing, done, hearing, write}
use Rattle.pd_state.specs.Checking.{Deed, deed_of, idle}
use Rattle.pd_state.specs.Ctl.{added_by_hand, admin, command_done, ctl_of, delete_by, delete_found, deleted_by, deletion_by, limit_found, offline, remove_found, words_done}
use Rattle.pd_state.specs.Known.{has_tombstone, is_tombstone, names_store}
use Rattle.pd_state.specs.Reports.{command_told}
use Rattle.pd_state.specs.State.{part_of}
use Rattle.pd_state.specs.Wishing.{steps_in, try_wished, wished}
use Rattle.pd_state.specs.declared.entry.Entry.{Entry}
use Rattle.pd_state.specs.declared.reply.Reply.TheVariants as replies
use Rattle.pd_state.proofs.Ends.{Ends, ends_any, ends_on, ends_or}

-- the store's state stays, or the command deleted the store
abbrev pub Left : ℕ → Result Command CtlFault → List StoreEntry → List StoreEntry → Type 0
Left store told before after = (state_at store after ≡ state_at store before) ⊎ ((names_store store told ≡ true) × (state_at store after ≡ Some Offline) × (has_tombstone (state_at store before) ≡ false))

-- a store that is found has the id that was looked for
pub found_id : (id : ℕ) (stores : List StoreEntry) (entry : StoreEntry) → entry_at id stores ≡ Some entry → entry.store.id ≡ id
found_id id [] entry is = absurd cc
found_id id (one ∷ stores) entry is = by (nat_eq one.store.id id) refl is (found_id id stores entry)
  where
    by : (t : Bool) → nat_eq one.store.id id ≡ t → cond t (Some one) (entry_at id stores) ≡ Some entry → (entry_at id stores ≡ Some entry → entry.store.id ≡ id) → entry.store.id ≡ id
    by true here h rest = let same : one ≡ entry = cc in ap (λ (e : StoreEntry). e.store.id) (sym same) ∙ same_number one.store.id id here
    by false here h rest = rest h

module _ (around : Around) (planning : Planning) (store : ℕ) where
  abbrev DeedLeft : Result Command CtlFault → Deed → Type 0
  DeedLeft told deed = Left store told around.stores deed.stores

  offline_left : (id : ℕ) (entry : StoreEntry) (t : Bool) → nat_eq id store ≡ t → entry_at id around.stores ≡ Some entry → is_tombstone entry.store.state ≡ false → Left store (Ok (commands.StoreDelete id)) around.stores (changed id (in_state Offline) around.stores)
  offline_left id entry true here found alive =
      let at : entry_at store around.stores ≡ Some entry = ap (λ (n : ℕ). entry_at n around.stores) (sym (same_number id store here)) ∙ found in
      inr (
        here,
        ap (λ (n : ℕ). state_at store (changed n (in_state Offline) around.stores)) (same_number id store here)
            ∙ ap (option_map (λ (e : StoreEntry). e.store.state)) (entry_changed store (in_state Offline) around.stores (λ e. refl) ∙ ap (option_map (in_state Offline)) at),
        ap (λ (o : Option StoreEntry). has_tombstone (option_map (λ (e : StoreEntry). e.store.state) o)) at ∙ alive,
      )
  offline_left id entry false here found alive = inl (ap (option_map (λ (e : StoreEntry). e.store.state)) (entry_kept id store (in_state Offline) around.stores (λ e. refl) (other_number id store here)))

  verdict_left : (id : ℕ) (entry : StoreEntry) (verdict : MetaVerdict) → entry_at id around.stores ≡ Some entry → is_tombstone entry.store.state ≡ false → DeedLeft (Ok (commands.StoreDelete id)) (deleted_by around planning entry.store.id verdict)
  verdict_left id entry (verdicts.Accepted revision) found alive =
      subst (λ (n : ℕ). Left store (Ok (commands.StoreDelete id)) around.stores (changed n (in_state Offline) around.stores)) (sym (found_id id around.stores entry found)) (offline_left id entry (nat_eq id store) refl found alive)
  verdict_left id entry (verdicts.OldTerm fence) found alive = inl refl
  verdict_left id entry (verdicts.Conflict reached) found alive = inl refl
  verdict_left id entry verdicts.Limit found alive = inl refl

  by_left : (id : ℕ) (entry : StoreEntry) (state : StoreState) (at : Hearing) → entry.store.state ≡ state → entry_at id around.stores ≡ Some entry → Ends Deed (DeedLeft (Ok (commands.StoreDelete id))) (delete_by (deletion_by state entry.store) around planning at)
  by_left id entry Up at is found =
      ends_on MetaVerdict Deed (λ v. Unit {0}) (DeedLeft (Ok (commands.StoreDelete id))) (λ verdict. done (deleted_by around planning entry.store.id verdict)) (write around.term (store_key entry.store.id) (store_bytes (offline entry.store)) at)
      (ends_any MetaVerdict _) (λ verdict then u. verdict_left id entry verdict found (ap is_tombstone is))
  by_left id entry Offline at is found =
      ends_on MetaVerdict Deed (λ v. Unit {0}) (DeedLeft (Ok (commands.StoreDelete id))) (λ verdict. done (deleted_by around planning entry.store.id verdict)) (write around.term (store_key entry.store.id) (store_bytes (offline entry.store)) at)
      (ends_any MetaVerdict _) (λ verdict then u. verdict_left id entry verdict found (ap is_tombstone is))
  by_left id entry Tombstone at is found = inl refl

  delete_left : (id : ℕ) (o : Option StoreEntry) (at : Hearing) → entry_at id around.stores ≡ o → Ends Deed (DeedLeft (Ok (commands.StoreDelete id))) (delete_found o around planning at)
  delete_left id None at found = inl refl
  delete_left id (Some entry) at found = by_left id entry entry.store.state at refl found

  limit_left : (o : Option StoreEntry) (id rate : ℕ) (kind : LimitKind) (told : Result Command CtlFault) (at : Hearing) → Ends Deed (DeedLeft told) (limit_found o around planning id rate kind at)
  limit_left None id rate kind told at = inl refl
  limit_left (Some entry) id rate kind told at = inl refl

  remove_left : (o : Option Operator) (region : ℕ) (told : Result Command CtlFault) (at : Hearing) → Ends Deed (DeedLeft told) (remove_found o around planning region at)
  remove_left None region told at = inl refl
  remove_left (Some op) region told at = inl refl

  command_left : (command : Command) (at : Hearing) → Ends Deed (DeedLeft (Ok command)) (command_done around planning command at)
  command_left (commands.StoreDelete id) at = delete_left id (entry_at id around.stores) at refl
  command_left (commands.StoreLimit id rate kind) at = limit_left (entry_at id around.stores) id rate kind (Ok (commands.StoreLimit id rate kind)) at
  command_left (commands.OperatorAdd region wish) at =
      ends_on Work Deed (λ work. Unit {0}) (DeedLeft (Ok (commands.OperatorAdd region wish))) (λ work. done (added_by_hand around (steps_in (wished around region wish)) work)) (try_wished around admin planning (wished around region wish) at) (ends_any Work _)
      (λ work then u. inl refl)
  command_left (commands.OperatorRemove region) at = remove_left (active_at planning.operators region) region (Ok (commands.OperatorRemove region)) at
  command_left command at = inl refl

  words_left : (told : Result Command CtlFault) (at : Hearing) → Ends Deed (DeedLeft told) (words_done around planning told at)
  words_left (Ok command) at = command_left command at
  words_left (Err fault) at = inl refl

pub deed_left : (es : List Entry) (moment store : ℕ) (words : List ℕ) (answers : List MetaAnswer) → Left store (command_told words) (part_of es).stores (deed_of (ctl_of (part_of es) moment words) (part_of es) moment answers).stores
deed_left es moment store words answers =
    ends_or Deed (DeedLeft (around_at (part_of es) moment) (planning_of (part_of es)) store (command_told words)) (idle (around_at (part_of es) moment) (planning_of (part_of es)) replies.NotLeading) (ctl_of (part_of es) moment words (hearing (part_of es).known answers)) (inl refl)
    (words_left (around_at (part_of es) moment) (planning_of (part_of es)) store (command_told words) (hearing (part_of es).known answers))
