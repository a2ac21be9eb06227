-- What pd-ctl's commands do and report.
use Rattle.std.specs.Prelude.{◌≡◌, ℕ, ◌≤◌, ⊤, codes, Bool, true, false, List, [], max, Option, Some, None, Result, Ok, Err}
use Rattle.std.specs.Borrow.{Bor}
use Rattle.pd_types.specs.declared.store.StoreRec.{StoreRec}
use Rattle.pd_types.specs.declared.store.StoreState.{StoreState}
use Rattle.pd_types.specs.declared.store.StoreState.TheVariants as states
use Rattle.store_table.specs.Calls.{in_state}
use Rattle.store_table.specs.Entries.{changed, entry_at}
use Rattle.store_table.specs.declared.entry.StoreEntry.{StoreEntry}
use Rattle.store_limit.specs.Limits.{with_rate}
use Rattle.store_limit.specs.declared.bucket.TheConstants.{MAX_RATE}
use Rattle.store_limit.specs.declared.limits.LimitKind.{LimitKind}
use Rattle.op_control.specs.Table.{active_at, canceled}
use Rattle.op_control.specs.declared.operator.Operator.{Operator}
use Rattle.op_step.specs.declared.wishes.Wish.{Wish}
use Rattle.meta_store.specs.Stores.{store_bytes, store_key}
use Rattle.meta_store.specs.declared.record.MetaVerdict.{MetaVerdict}
use Rattle.meta_store.specs.declared.record.MetaVerdict.TheVariants as verdicts
use Rattle.serde_json.specs.Data.{Data}
use Rattle.pd_ctl.specs.Reports.{only_reads, report_of}
use Rattle.pd_ctl.specs.Trees.{fault_tree}
use Rattle.pd_ctl.specs.declared.command.Command.{Command}
use Rattle.pd_ctl.specs.declared.command.Command.TheVariants as commands
use Rattle.pd_ctl.specs.declared.fault.CtlFault.{CtlFault}
use Rattle.pd_ctl.specs.declared.parts.Parts.{Parts}
use Rattle.pd_state.specs.Adding.{Around, Planning, Work, around_at, around_of, planning_of}
use Rattle.pd_state.specs.Asking.{Asking, Ear, Talks, and_then, done, write}
use Rattle.pd_state.specs.Checking.{Deed, idle}
use Rattle.pd_state.specs.ReplyText.{reply_text}
use Rattle.pd_state.specs.Reports.{adding_tree, command_told, ctl_fault_text, done_tree, removal_tree, reported}
use Rattle.pd_state.specs.Wishing.{steps_in, try_wished, wished}
use Rattle.pd_state.specs.declared.ctl_changes.TheConstants.{ADMIN_PRIORITY}
use Rattle.pd_state.specs.declared.heard.Done.{Done}
use Rattle.pd_state.specs.declared.part.Part.{Part}
use Rattle.pd_state.specs.declared.reply.Reply.{Reply}
use Rattle.pd_state.specs.declared.reply.Reply.TheVariants as replies
use Rattle.pd_state.specs.declared.wishing.Asker.{Asker}

-- whoever asks by pd-ctl
abbrev pub admin : Asker
admin = record { kind = codes "admin"; priority = ADMIN_PRIORITY }

-- nothing was done but a fault reported
abbrev pub faulted : Around → Planning → List ℕ → Deed
faulted around planning text = idle around planning (reported (fault_tree text))

-- the record, Offline
abbrev pub offline : StoreRec → StoreRec
offline rec = record { id = rec.id; address = rec.address; labels = rec.labels; state = states.Offline }

-- once the write of a store's record has this verdict
abbrev pub deleted_by : Around → Planning → ℕ → MetaVerdict → Deed
deleted_by around planning id (verdicts.Accepted revision) =
    record { planning = planning; stores = changed id (in_state states.Offline) around.stores; sents = []; reply = reported (done_tree (codes "Offline")) }
deleted_by around planning id (verdicts.OldTerm fence) = faulted around planning (reply_text (replies.OldTerm fence))
deleted_by around planning id (verdicts.Conflict found) = faulted around planning (reply_text (replies.Conflict found))
deleted_by around planning id verdicts.Limit = faulted around planning (reply_text replies.MetaLimit)

-- the record that the deletion of a known store writes: that of a tombstone isn't written
abbrev pub deletion_by : StoreState → StoreRec → Result StoreRec Reply
deletion_by states.Up rec = Ok (offline rec)
deletion_by states.Offline rec = Ok (offline rec)
deletion_by states.Tombstone rec = Err (reported (fault_tree (codes "tombstone")))

-- the same, where the store is known
abbrev pub deletion : Option StoreEntry → Result StoreRec Reply
deletion None = Err (reported (fault_tree (codes "unknown-store")))
deletion (Some entry) = deletion_by entry.store.state entry.store

-- a record is written before its store is Offline, also where it is so already
abbrev pub delete_by : Result StoreRec Reply → Around → Planning → Asking Deed
delete_by (Ok rec) around planning = and_then (write around.term (store_key rec.id) (store_bytes rec)) (λ verdict. done (deleted_by around planning rec.id verdict))
delete_by (Err reply) around planning = done (idle around planning reply)

-- `store delete`
abbrev pub delete_found : Option StoreEntry → Around → Planning → Asking Deed
delete_found found around planning = delete_by (deletion found) around planning

-- the store with another rate of one of its limits
abbrev pub rated : Around → Planning → ℕ → ℕ → LimitKind → Deed
rated around planning id rate kind = record {
  planning = record { operators = planning.operators; limits = with_rate planning.limits id kind rate around.now; window = planning.window };
  stores = around.stores;
  sents = [];
  reply = reported (done_tree (codes "Limit"));
}

-- `store limit`, where the store is known
abbrev pub limit_found : Option StoreEntry → Around → Planning → ℕ → ℕ → LimitKind → Asking Deed
limit_found None around planning id rate kind = done (faulted around planning (codes "unknown-store"))
limit_found (Some entry) around planning id rate kind = done (rated around planning id rate kind)

-- an operator by hand was carried as far as this
abbrev pub added_by_hand : Around → ℕ → Work → Deed
added_by_hand around steps work = record { planning = work.planning; stores = around.stores; sents = work.sents; reply = reported (adding_tree steps work.adding) }

-- `operator add`
abbrev pub add_by_hand : Around → Planning → ℕ → Wish → Asking Deed
add_by_hand around planning region wish =
    and_then (try_wished around admin planning (wished around region wish)) (λ work. done (added_by_hand around (steps_in (wished around region wish)) work))

-- the region's operator is canceled
abbrev pub removed : Around → Planning → ℕ → Deed
removed around planning region = record {
  planning = record { operators = canceled planning.operators region; limits = planning.limits; window = planning.window };
  stores = around.stores;
  sents = [];
  reply = reported (done_tree (codes "Canceled"));
}

-- `operator remove`, where the region has an operator that hasn't ended
abbrev pub remove_found : Option Operator → Around → Planning → ℕ → Asking Deed
remove_found None around planning region = done (faulted around planning (codes "absent"))
remove_found (Some op) around planning region = done (removed around planning region)

-- a command that leaves the tables does nothing here; what it reports is `told`'s
abbrev pub left : Around → Planning → Asking Deed
left around planning = done (idle around planning (replies.Report []))

-- what a command does to the tables
abbrev pub command_done : Around → Planning → Command → Asking Deed
command_done around planning (commands.StoreDelete id) = delete_found (entry_at id around.stores) around planning
command_done around planning (commands.StoreLimit id rate kind) = limit_found (entry_at id around.stores) around planning id rate kind
command_done around planning (commands.OperatorAdd region wish) = add_by_hand around planning region wish
command_done around planning (commands.OperatorRemove region) = remove_found (active_at planning.operators region) around planning region
command_done around planning commands.Stores = left around planning
command_done around planning (commands.Store id) = left around planning
command_done around planning (commands.Region id) = left around planning
command_done around planning (commands.RegionKey key) = left around planning
command_done around planning commands.OperatorShow = left around planning
command_done around planning (commands.OperatorCheck region) = left around planning
command_done around planning commands.SchedulerShow = left around planning
command_done around planning (commands.SchedulerRemove name) = left around planning
command_done around planning commands.LeaderShow = left around planning
command_done around planning commands.LeaderResign = left around planning
command_done around planning (commands.Tso ts) = left around planning

-- the same of words, which may be none
abbrev pub words_done : Around → Planning → Result Command CtlFault → Asking Deed
words_done around planning (Ok command) = command_done around planning command
words_done around planning (Err fault) = left around planning

-- a table as a report reads it; where it lies plays no part
abbrev pub lent : {X : Type 0} → X → Bor X
lent table = record { ref_ptr = (0, 0); now = table }

-- what a report reads, at this moment and beside these names of schedulers
abbrev pub parts_of : ℕ → Part → ℕ → List (List ℕ) → Parts
parts_of driver part now names = record {
  stores = lent part.stores;
  standing = lent part.standing;
  operators = lent part.operators;
  limits = lent part.limits;
  names = lent names;
  clock = now;
  driver = driver;
  term = part.term;
}

-- the report of a command that leaves the tables: of one that only reads, of a scheduler's removal and of a resignation. The others have none
abbrev pub command_report : ℕ → Part → ℕ → List (List ℕ) → Command → Option Data
command_report driver part now names (commands.SchedulerRemove name) = Some (removal_tree name names)
command_report driver part now names commands.LeaderResign = Some (done_tree (codes "Resigned"))
command_report driver part now names command = report_of command (parts_of driver part now names)

-- the same of words: those that are no command report their fault
abbrev pub words_report : ℕ → Part → ℕ → List (List ℕ) → Result Command CtlFault → Option Data
words_report driver part now names (Ok command) = command_report driver part now names command
words_report driver part now names (Err fault) = Some (fault_tree (ctl_fault_text fault))

-- the report, else what was done
abbrev pub reply_or : Option Data → Reply → Reply
reply_or (Some tree) other = reported tree
reply_or None other = other

-- what the words of a request of this moment do to a term's tables
abbrev pub ctl_of : Part → ℕ → List ℕ → Asking Deed
ctl_of part moment words = words_done (around_at part moment) (planning_of part) (command_told words)

-- the report of words that leave a term's tables
abbrev pub report_told : ℕ → Part → ℕ → List ℕ → List (List ℕ) → Option Data
report_told driver part moment words names = words_report driver part (max part.clock moment) names (command_told words)

-- a rate that a command sets is one that a limit may have
abbrev pub HasRate : Command → Type 0
HasRate (commands.StoreLimit id rate kind) = rate ≤ MAX_RATE
HasRate _ = ⊤

-- the same of words
abbrev pub HaveRate : Result Command CtlFault → Type 0
HaveRate (Ok command) = HasRate command
HaveRate (Err fault) = ⊤

-- the command gives the term up
abbrev pub resigns_by : Result Command CtlFault → Bool
resigns_by (Ok commands.LeaderResign) = true
resigns_by _ = false

-- the same of words
abbrev pub resigns : List ℕ → Bool
resigns words = resigns_by (command_told words)

-- the words are no command, or one that only reads
abbrev pub reads_by : Result Command CtlFault → Bool
reads_by (Ok command) = only_reads command
reads_by (Err fault) = true

-- the same of words
abbrev pub reads_only : List ℕ → Bool
reads_only words = reads_by (command_told words)

-- words were carried out over a door: this is planned then, the stores are these, and it sent and replied this
pub record Carries (driver : ℕ) (part : Part) (names : List (List ℕ)) (told : Result Command CtlFault) (planning : Planning) (stores : List StoreEntry) (did : Done) (ear_old ear_new : Ear) : Type 0 where
  pub reply : Reply
  pub reports : did.reply ≡ reply_or (words_report driver part part.clock names told) reply
  pub talks : Talks Deed (words_done (around_of part) (planning_of part) told) (record { planning = planning; stores = stores; sents = did.sents; reply = reply }) driver ear_old ear_new
