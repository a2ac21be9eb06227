-- From what a command of pd-ctl did over a door to what is said of the request.
use Rattle.std.proofs.Common.{refl, IfOk, ◌≡◌, ℕ, max, List, [], ◌∷◌, ◌++◌, ap, sym, ◌∙◌, subst, Option, Some, None}
use Rattle.std.specs.Option.{option_map}
use Rattle.std.specs.Prelude.{Result, Ok, Err, codes}
use Rattle.pd_types.specs.declared.memory.NoMemory.{NoMemory}
use Rattle.pd_types.specs.declared.request.Request.TheVariants as ask
use Rattle.pd_types.specs.declared.store.StoreRec.{StoreRec}
use Rattle.pd_types.specs.declared.store.StoreState.{StoreState}
use Rattle.pd_types.specs.declared.store.StoreState.TheVariants as states
use Rattle.serde_json.specs.Data.{Data}
use Rattle.store_table.specs.Calls.{in_state, known_refusal}
use Rattle.store_table.specs.Entries.{changed, entry_at, state_at}
use Rattle.store_table.specs.declared.entry.StoreEntry.{StoreEntry}
use Rattle.store_limit.specs.Limits.{with_rate}
use Rattle.store_limit.specs.declared.limits.LimitKind.{LimitKind}
use Rattle.op_control.specs.Table.{canceled}
use Rattle.op_control.specs.declared.operator.Operator.{Operator}
use Rattle.op_step.specs.declared.wishes.Wish.{Wish}
use Rattle.meta_store.specs.Asked.{AreAsked, Asks}
use Rattle.meta_store.specs.Cells.{cell_at, revision_in}
use Rattle.meta_store.specs.Stores.{store_bytes, store_key}
use Rattle.meta_store.specs.declared.record.Cell.{Cell}
use Rattle.meta_store.specs.declared.record.MetaAnswer.{MetaAnswer}
use Rattle.meta_store.specs.declared.record.MetaCall.TheVariants as calls
use Rattle.meta_store.specs.declared.record.MetaEntry.{MetaEntry}
use Rattle.meta_store.specs.declared.record.MetaVerdict.{MetaVerdict}
use Rattle.meta_store.specs.declared.record.MetaVerdict.TheVariants as verdicts
use Rattle.pd_ctl.specs.Trees.{fault_tree}
use Rattle.pd_ctl.specs.declared.command.Command.{Command}
use Rattle.pd_ctl.specs.declared.command.Command.TheVariants as commands
use Rattle.pd_ctl.specs.declared.fault.CtlFault.{CtlFault}
use Rattle.pd_state.specs.Adding.{Around, Planning, around_at, around_of, planning_of, replanned, work}
use Rattle.pd_state.specs.Asking.{Asking, Talks, and_then, done, ear, hearing, wanted, write}
use Rattle.pd_state.specs.Checking.{Deed, Does, deed_of, idle}
use Rattle.pd_state.specs.Ctl.{Carries, HasRate, HaveRate, add_by_hand, added_by_hand, admin, command_done, command_report, ctl_of, delete_by, delete_found, deleted_by, deletion, deletion_by, faulted, limit_found, offline, rated, remove_found, removed, reply_or, report_told, words_done, words_report}
use Rattle.pd_state.specs.Heard.{known_after, known_more, told_all}
use Rattle.pd_state.specs.Replies.{verdict_refusal}
use Rattle.pd_state.specs.ReplyText.{reply_text}
use Rattle.pd_state.specs.Reports.{adding_tree, command_told, done_tree, reported}
use Rattle.pd_state.specs.Steps.{changed_part, rewritten}
use Rattle.pd_state.specs.Wishing.{Tries, steps_in, try_wished, wished}
use Rattle.pd_state.specs.declared.adding.Adding.{Adding}
use Rattle.pd_state.specs.declared.heard.Done.{Done}
use Rattle.pd_state.specs.declared.part.Part.{Part}
use Rattle.pd_state.specs.declared.patrol.Planned.{Planned}
use Rattle.pd_state.specs.declared.reply.Reply.{Reply}
use Rattle.pd_state.specs.declared.reply.Reply.TheVariants as replies
use Rattle.pd_state.specs.declared.sent.Sent.{Sent}
use Rattle.pd_state.specs.declared.wishing.Asker.{Asker}
use Rattle.pd_state.proofs.Asking.{talks_done, talks_then}
use Rattle.pd_state.proofs.Carried.{at_moment}
use Rattle.pd_state.proofs.Deeds.{did, did_ask, talks_write}
use Rattle.pd_state.proofs.Deleted.{found_id}
use Rattle.pd_state.proofs.Scheduled.{deed_at, work_does}

-- a deed that asks nothing
pub only_does : (asking : Asking Deed) (deed : Deed) (planning : Planning) (stores : List StoreEntry) (d : Done) (driver : ℕ) (known : List Cell) (said : List MetaAnswer) (told : Option (List MetaEntry)) → asking ≡ done deed
    → deed ≡ record { planning = planning; stores = stores; sents = d.sents; reply = d.reply } → d.heard.answers ≡ [] → Does asking planning stores d driver (ear [] known said told) (ear d.heard.answers known said told)
only_does asking deed planning stores d driver known said told asking_is deed_is heard_is =
    subst (λ (l : List MetaAnswer). Talks Deed asking (record { planning = planning; stores = stores; sents = d.sents; reply = d.reply }) driver (ear [] known said told) (ear l known said told)) (sym heard_is)
    (subst (λ (v : Deed). Talks Deed asking v driver (ear [] known said told) (ear [] known said told)) deed_is
    (subst (λ (a : Asking Deed). Talks Deed a deed driver (ear [] known said told) (ear [] known said told)) (sym asking_is) (talks_done Deed deed driver (ear [] known said told))))

-- the deletion of a store
pub by_state : (state : StoreState) (rec : StoreRec) (other : Reply) → deletion_by state rec ≡ Err other → state ≡ states.Tombstone
by_state states.Up rec other is = absurd cc
by_state states.Offline rec other is = absurd cc
by_state states.Tombstone rec other is = refl

alive_state : (state : StoreState) (old rec : StoreRec) → deletion_by state old ≡ Ok rec → (known_refusal (Some state) ≡ None) × (rec.id ≡ old.id)
alive_state states.Up old rec is = (refl, let same : offline old ≡ rec = cc in ap (λ (r : StoreRec). r.id) (sym same))
alive_state states.Offline old rec is = (refl, let same : offline old ≡ rec = cc in ap (λ (r : StoreRec). r.id) (sym same))
alive_state states.Tombstone old rec is = absurd cc

pub may_delete : (id : ℕ) (stores : List StoreEntry) (rec : StoreRec) (o : Option StoreEntry) → entry_at id stores ≡ o → deletion o ≡ Ok rec → known_refusal (state_at rec.id stores) ≡ None
may_delete id stores rec None found is = absurd cc
may_delete id stores rec (Some entry) found is =
    let (alive, own) = alive_state entry.store.state entry.store rec is in
    let at : entry_at rec.id stores ≡ Some entry = ap (λ (n : ℕ). entry_at n stores) (own ∙ found_id id stores entry found) ∙ found in
    ap (λ (p : Option StoreEntry). known_refusal (option_map (λ (e : StoreEntry). e.store.state) p)) at ∙ alive

pub delete_refused : (found : Option StoreEntry) (reply : Reply) (old : Part) (d : Done) (driver : ℕ) (said : List MetaAnswer) (told : Option (List MetaEntry)) → deletion found ≡ Err reply → d.reply ≡ reply → d.sents ≡ [] → d.heard.answers ≡ []
    → Does (delete_found found (around_of old) (planning_of old)) (planning_of old) old.stores d driver (ear [] old.known said told) (ear d.heard.answers old.known said told)
delete_refused found reply old d driver said told is reply_is sents_is heard_is =
    only_does (delete_found found (around_of old) (planning_of old)) (idle (around_of old) (planning_of old) reply) (planning_of old) old.stores d driver old.known said told (ap (λ (r : Result StoreRec Reply). delete_by r (around_of old) (planning_of old)) is)
    (λ i. record { planning = planning_of old; stores = old.stores; sents = sym sents_is i; reply = sym reply_is i }) heard_is

refused_is : (around : Around) (planning : Planning) (id : ℕ) (verdict : MetaVerdict) (reply : Reply) → verdict_refusal verdict ≡ Some reply → deleted_by around planning id verdict ≡ faulted around planning (reply_text reply)
refused_is around planning id (verdicts.Accepted revision) reply is = absurd cc
refused_is around planning id (verdicts.OldTerm fence) reply is = let same : replies.OldTerm fence ≡ reply = cc in ap (λ (r : Reply). faulted around planning (reply_text r)) same
refused_is around planning id (verdicts.Conflict found) reply is = let same : replies.Conflict found ≡ reply = cc in ap (λ (r : Reply). faulted around planning (reply_text r)) same
refused_is around planning id verdicts.Limit reply is = let same : replies.MetaLimit ≡ reply = cc in ap (λ (r : Reply). faulted around planning (reply_text r)) same

deleted_is : (around : Around) (planning : Planning) (id : ℕ) (verdict : MetaVerdict) → verdict_refusal verdict ≡ None
    → deleted_by around planning id verdict ≡ record { planning = planning; stores = changed id (in_state states.Offline) around.stores; sents = []; reply = reported (done_tree (codes "Offline")) }
deleted_is around planning id (verdicts.Accepted revision) is = refl
deleted_is around planning id (verdicts.OldTerm fence) is = absurd cc
deleted_is around planning id (verdicts.Conflict found) is = absurd cc
deleted_is around planning id verdicts.Limit is = absurd cc

-- its record was written
delete_wrote : (found : Option StoreEntry) (rec : StoreRec) (old : Part) (known : List Cell) (answer : MetaAnswer) (planning : Planning) (stores : List StoreEntry) (d : Done) (driver : ℕ) (said_old said_new : List MetaAnswer) (told_old told_new : Option (List MetaEntry))
    → deletion found ≡ Ok rec → Asks said_old said_new told_old told_new driver (calls.Put old.term (store_key rec.id) (revision_in (cell_at (store_key rec.id) old.known)) (store_bytes rec)) answer → known ≡ known_more old.known answer
    → deleted_by (around_of old) (planning_of old) rec.id answer.verdict ≡ record { planning = planning; stores = stores; sents = d.sents; reply = d.reply } → d.heard.answers ≡ answer ∷ []
    → Does (delete_found found (around_of old) (planning_of old)) planning stores d driver (ear [] old.known said_old told_old) (ear d.heard.answers known said_new told_new)
delete_wrote found rec old known answer planning stores d driver said_old said_new told_old told_new is asks known_is deed_is heard_is =
    let x = ear [] old.known said_old told_old in
    let y = ear (answer ∷ []) known said_new told_new in
    let wrote = talks_write old.term (store_key rec.id) (store_bytes rec) answer driver x y asks refl known_is in
    let whole : Talks Deed (delete_by (Ok rec) (around_of old) (planning_of old)) (deleted_by (around_of old) (planning_of old) rec.id answer.verdict) driver x y =
    talks_then MetaVerdict Deed (write old.term (store_key rec.id) (store_bytes rec)) (λ verdict. done (deleted_by (around_of old) (planning_of old) rec.id verdict)) answer.verdict _ driver x y y wrote
    (talks_done Deed (deleted_by (around_of old) (planning_of old) rec.id answer.verdict) driver y) in
    subst (λ (l : List MetaAnswer). Talks Deed (delete_found found (around_of old) (planning_of old)) (record { planning = planning; stores = stores; sents = d.sents; reply = d.reply }) driver x (ear l known said_new told_new)) (sym heard_is)
    (subst (λ (v : Deed). Talks Deed (delete_found found (around_of old) (planning_of old)) v driver x y) deed_is
    (subst (λ (r : Result StoreRec Reply). Talks Deed (delete_by r (around_of old) (planning_of old)) (deleted_by (around_of old) (planning_of old) rec.id answer.verdict) driver x y) (sym is) whole))

-- its key and its bytes are those that were made of the record
pub asked_for : (key own bytes text : List ℕ) (term driver : ℕ) (known : List Cell) (answer : MetaAnswer) (said_old said_new : List MetaAnswer) (told_old told_new : Option (List MetaEntry)) → key ≡ own → bytes ≡ text
    → Asks said_old said_new told_old told_new driver (calls.Put term key (revision_in (cell_at key known)) bytes) answer → Asks said_old said_new told_old told_new driver (calls.Put term own (revision_in (cell_at own known)) text) answer
asked_for key own bytes text term driver known answer said_old said_new told_old told_new key_is bytes_is asks =
    subst (λ (b : List ℕ). Asks said_old said_new told_old told_new driver (calls.Put term own (revision_in (cell_at own known)) b) answer) bytes_is
    (subst (λ (k : List ℕ). Asks said_old said_new told_old told_new driver (calls.Put term k (revision_in (cell_at k known)) bytes) answer) key_is asks)

-- what holds of a reply beside one answer, wherever there is one
pub with_answered : (r : Result Done NoMemory) (reply : Reply) (answer : MetaAnswer) (Q : Done → Type 0) → IfOk r (λ (d : Done). d.reply ≡ reply) → IfOk r (λ (d : Done). d.sents ≡ []) → IfOk r (λ (d : Done). d.heard.answers ≡ answer ∷ [])
    → ((d : Done) → d.reply ≡ reply → d.sents ≡ [] → d.heard.answers ≡ answer ∷ [] → Q d) → IfOk r Q
with_answered (Ok d) reply answer Q reply_is sents_is heard_is f = f d reply_is sents_is heard_is
with_answered (Err e) reply answer Q reply_is sents_is heard_is f = tt

-- and refused
pub delete_denied : (found : Option StoreEntry) (rec : StoreRec) (old new : Part) (answer : MetaAnswer) (refused : Reply) (d : Done) (driver : ℕ) (said_old said_new : List MetaAnswer) (told_old told_new : Option (List MetaEntry)) → deletion found ≡ Ok rec
    → Asks said_old said_new told_old told_new driver (calls.Put old.term (store_key rec.id) (revision_in (cell_at (store_key rec.id) old.known)) (store_bytes rec)) answer → new.known ≡ known_more old.known answer
    → planning_of new ≡ planning_of old → new.stores ≡ old.stores → verdict_refusal answer.verdict ≡ Some refused → d.reply ≡ reported (fault_tree (reply_text refused)) → d.sents ≡ [] → d.heard.answers ≡ answer ∷ []
    → Does (delete_found found (around_of old) (planning_of old)) (planning_of new) new.stores d driver (ear [] old.known said_old told_old) (ear d.heard.answers new.known said_new told_new)
delete_denied found rec old new answer refused d driver said_old said_new told_old told_new is asks known_is planning_is stores_is verdict_is reply_is sents_is heard_is =
    delete_wrote found rec old new.known answer (planning_of new) new.stores d driver said_old said_new told_old told_new is asks known_is
    (refused_is (around_of old) (planning_of old) rec.id answer.verdict refused verdict_is ∙ (λ i. record { planning = sym planning_is i; stores = sym stores_is i; sents = sym sents_is i; reply = sym reply_is i })) heard_is

-- and accepted
pub delete_done : (found : Option StoreEntry) (rec : StoreRec) (old new : Part) (answer : MetaAnswer) (d : Done) (driver : ℕ) (said_old said_new : List MetaAnswer) (told_old told_new : Option (List MetaEntry)) → deletion found ≡ Ok rec
    → Asks said_old said_new told_old told_new driver (calls.Put old.term (store_key rec.id) (revision_in (cell_at (store_key rec.id) old.known)) (store_bytes rec)) answer → new.known ≡ known_more old.known answer
    → planning_of new ≡ planning_of old → new.stores ≡ changed rec.id (in_state states.Offline) old.stores → verdict_refusal answer.verdict ≡ None → d.reply ≡ reported (done_tree (codes "Offline")) → d.sents ≡ [] → d.heard.answers ≡ answer ∷ []
    → Does (delete_found found (around_of old) (planning_of old)) (planning_of new) new.stores d driver (ear [] old.known said_old told_old) (ear d.heard.answers new.known said_new told_new)
delete_done found rec old new answer d driver said_old said_new told_old told_new is asks known_is planning_is stores_is verdict_is reply_is sents_is heard_is =
    delete_wrote found rec old new.known answer (planning_of new) new.stores d driver said_old said_new told_old told_new is asks known_is
    (deleted_is (around_of old) (planning_of old) rec.id answer.verdict verdict_is ∙ (λ i. record { planning = sym planning_is i; stores = sym stores_is i; sents = sym sents_is i; reply = sym reply_is i })) heard_is

-- the rate of a limit
pub limit_none : (found : Option StoreEntry) (old : Part) (id rate : ℕ) (kind : LimitKind) (d : Done) (driver : ℕ) (said : List MetaAnswer) (told : Option (List MetaEntry)) → found ≡ None → d.reply ≡ reported (fault_tree (codes "unknown-store")) → d.sents ≡ [] → d.heard.answers ≡ []
    → Does (limit_found found (around_of old) (planning_of old) id rate kind) (planning_of old) old.stores d driver (ear [] old.known said told) (ear d.heard.answers old.known said told)
limit_none found old id rate kind d driver said told is reply_is sents_is heard_is =
    only_does _ (faulted (around_of old) (planning_of old) (codes "unknown-store")) (planning_of old) old.stores d driver old.known said told (ap (λ (o : Option StoreEntry). limit_found o (around_of old) (planning_of old) id rate kind) is)
    (λ i. record { planning = planning_of old; stores = old.stores; sents = sym sents_is i; reply = sym reply_is i }) heard_is

pub limit_some : (found : Option StoreEntry) (entry : StoreEntry) (old new : Part) (id rate : ℕ) (kind : LimitKind) (d : Done) (driver : ℕ) (said : List MetaAnswer) (told : Option (List MetaEntry)) → found ≡ Some entry
    → new ≡ record old { limits = with_rate old.limits id kind rate old.clock } → d.reply ≡ reported (done_tree (codes "Limit")) → d.sents ≡ [] → d.heard.answers ≡ []
    → Does (limit_found found (around_of old) (planning_of old) id rate kind) (planning_of new) new.stores d driver (ear [] old.known said told) (ear d.heard.answers new.known said told)
limit_some found entry old new id rate kind d driver said told is new_is reply_is sents_is heard_is =
    subst (λ (p : Part). Does (limit_found found (around_of old) (planning_of old) id rate kind) (planning_of p) p.stores d driver (ear [] old.known said told) (ear d.heard.answers p.known said told)) (sym new_is)
    (only_does _ (rated (around_of old) (planning_of old) id rate kind) _ _ d driver old.known said told (ap (λ (o : Option StoreEntry). limit_found o (around_of old) (planning_of old) id rate kind) is)
    (λ i. record { planning = record { operators = old.operators; limits = with_rate old.limits id kind rate old.clock; window = old.window }; stores = old.stores; sents = sym sents_is i; reply = sym reply_is i }) heard_is)

-- a region's operator
pub remove_none : (found : Option Operator) (old new : Part) (region : ℕ) (d : Done) (driver : ℕ) (said : List MetaAnswer) (told : Option (List MetaEntry)) → found ≡ None → new ≡ old → d.reply ≡ reported (fault_tree (codes "absent")) → d.sents ≡ [] → d.heard.answers ≡ []
    → Does (remove_found found (around_of old) (planning_of old) region) (planning_of new) new.stores d driver (ear [] old.known said told) (ear d.heard.answers new.known said told)
remove_none found old new region d driver said told is new_is reply_is sents_is heard_is =
    subst (λ (p : Part). Does (remove_found found (around_of old) (planning_of old) region) (planning_of p) p.stores d driver (ear [] old.known said told) (ear d.heard.answers p.known said told)) (sym new_is)
    (only_does _ (faulted (around_of old) (planning_of old) (codes "absent")) (planning_of old) old.stores d driver old.known said told (ap (λ (o : Option Operator). remove_found o (around_of old) (planning_of old) region) is)
    (λ i. record { planning = planning_of old; stores = old.stores; sents = sym sents_is i; reply = sym reply_is i }) heard_is)

pub remove_some : (found : Option Operator) (op : Operator) (old new : Part) (region : ℕ) (d : Done) (driver : ℕ) (said : List MetaAnswer) (told : Option (List MetaEntry)) → found ≡ Some op → new ≡ record old { operators = canceled old.operators region }
    → d.reply ≡ reported (done_tree (codes "Canceled")) → d.sents ≡ [] → d.heard.answers ≡ []
    → Does (remove_found found (around_of old) (planning_of old) region) (planning_of new) new.stores d driver (ear [] old.known said told) (ear d.heard.answers new.known said told)
remove_some found op old new region d driver said told is new_is reply_is sents_is heard_is =
    subst (λ (p : Part). Does (remove_found found (around_of old) (planning_of old) region) (planning_of p) p.stores d driver (ear [] old.known said told) (ear d.heard.answers p.known said told)) (sym new_is)
    (only_does _ (removed (around_of old) (planning_of old) region) _ _ d driver old.known said told (ap (λ (o : Option Operator). remove_found o (around_of old) (planning_of old) region) is)
    (λ i. record { planning = record { operators = canceled old.operators region; limits = old.limits; window = old.window }; stores = old.stores; sents = sym sents_is i; reply = sym reply_is i }) heard_is)

-- an operator by hand
pub add_does : (old new : Part) (region : ℕ) (wish : Wish) (asker : Asker) (found : Result Planned Adding) (steps : ℕ) (d : Done) (came : Adding) (none sents : List Sent) (quiet answers : List MetaAnswer) (driver : ℕ) (said_old said_new : List MetaAnswer) (told_old told_new : Option (List MetaEntry))
    → asker ≡ admin → found ≡ wished (around_of old) region wish → steps ≡ steps_in found → none ≡ [] → quiet ≡ [] → new ≡ replanned old (planning_of new) new.known
    → Tries (around_of old) asker found (planning_of old) (planning_of new) none sents came driver (ear quiet old.known said_old told_old) (ear answers new.known said_new told_new)
    → d.reply ≡ reported (adding_tree steps came) → d.sents ≡ sents → d.heard.answers ≡ answers
    → Does (add_by_hand (around_of old) (planning_of old) region wish) (planning_of new) new.stores d driver (ear [] old.known said_old told_old) (ear d.heard.answers new.known said_new told_new)
add_does old new region wish asker found steps d came none sents quiet answers driver said_old said_new told_old told_new asker_is found_is steps_is none_is quiet_is rest t reply_is sents_is heard_is =
    let stores : old.stores ≡ new.stores = sym (ap (λ (p : Part). p.stores) rest) in
    let deed_is : added_by_hand (around_of old) steps (work (planning_of new) d.sents came) ≡ deed_at new d = λ i. record { planning = planning_of new; stores = stores i; sents = d.sents; reply = sym reply_is i } in
    subst (λ (a : Asking Deed). Does a (planning_of new) new.stores d driver (ear [] old.known said_old told_old) (ear d.heard.answers new.known said_new told_new))
    (λ i. and_then (try_wished (around_of old) (asker_is i) (planning_of old) (found_is i)) (λ w. done (added_by_hand (around_of old) ((steps_is ∙ ap steps_in found_is) i) w)))
    (work_does (try_wished (around_of old) asker (planning_of old) found) (λ w. added_by_hand (around_of old) steps w) old.known new d came none t.sents sents quiet answers driver said_old said_new told_old told_new none_is quiet_is t.sent t.talks deed_is sents_is heard_is)

-- words that have a report leave the tables
command_left : (driver : ℕ) (part : Part) (now : ℕ) (names : List (List ℕ)) (around : Around) (planning : Planning) (command : Command) (tree : Data) → command_report driver part now names command ≡ Some tree → command_done around planning command ≡ done (idle around planning (replies.Report []))
command_left driver part now names around planning (commands.StoreDelete id) tree is = absurd cc
command_left driver part now names around planning (commands.StoreLimit id rate kind) tree is = absurd cc
command_left driver part now names around planning (commands.OperatorAdd region wish) tree is = absurd cc
command_left driver part now names around planning (commands.OperatorRemove region) tree is = absurd cc
command_left driver part now names around planning command tree is = refl

words_left : (driver : ℕ) (part : Part) (now : ℕ) (names : List (List ℕ)) (around : Around) (planning : Planning) (told : Result Command CtlFault) (tree : Data) → words_report driver part now names told ≡ Some tree → words_done around planning told ≡ done (idle around planning (replies.Report []))
words_left driver part now names around planning (Ok command) tree is = command_left driver part now names around planning command tree is
words_left driver part now names around planning (Err fault) tree is = refl

some_report : (o : Option Data) (reply : Reply) → Some reply ≡ option_map reported o → (tree : Data) × (o ≡ Some tree) × (reply ≡ reported tree)
some_report None reply is = absurd cc
some_report (Some tree) reply is = (tree, refl, cc)

none_report : (o : Option Data) → None ≡ option_map reported o → o ≡ None
none_report None is = refl
none_report (Some tree) is = absurd cc

pub carries_report : (driver : ℕ) (part : Part) (names : List (List ℕ)) (told : Result Command CtlFault) (reply : Reply) (d : Done) (said : List MetaAnswer) (spoken : Option (List MetaEntry)) → Some reply ≡ option_map reported (words_report driver part part.clock names told)
    → d.reply ≡ reply → d.sents ≡ [] → d.heard.answers ≡ [] → Carries driver part names told (planning_of part) part.stores d (ear [] part.known said spoken) (ear d.heard.answers part.known said spoken)
carries_report driver part names told reply d said spoken is reply_is sents_is heard_is =
    let (tree, tree_is, own) = some_report (words_report driver part part.clock names told) reply is in record {
      reply = replies.Report [];
      reports = reply_is ∙ own ∙ ap (λ (o : Option Data). reply_or o (replies.Report [])) (sym tree_is);
      talks =
          subst (λ (l : List MetaAnswer). Talks Deed (words_done (around_of part) (planning_of part) told) (record { planning = planning_of part; stores = part.stores; sents = d.sents; reply = replies.Report [] }) driver (ear [] part.known said spoken) (ear l part.known said spoken)) (sym heard_is)
          (subst (λ (a : Asking Deed). Talks Deed a (record { planning = planning_of part; stores = part.stores; sents = d.sents; reply = replies.Report [] }) driver (ear [] part.known said spoken) (ear [] part.known said spoken))
          (sym (words_left driver part part.clock names (around_of part) (planning_of part) told tree tree_is))
          (subst (λ (l : List Sent). Talks Deed (done (idle (around_of part) (planning_of part) (replies.Report []))) (record { planning = planning_of part; stores = part.stores; sents = l; reply = replies.Report [] }) driver (ear [] part.known said spoken) (ear [] part.known said spoken)) (sym sents_is)
          (talks_done Deed (idle (around_of part) (planning_of part) (replies.Report [])) driver (ear [] part.known said spoken))));
    }

pub carries_change : (driver : ℕ) (old new : Part) (names : List (List ℕ)) (told : Result Command CtlFault) (command : Command) (d : Done) (said_old said_new : List MetaAnswer) (told_old told_new : Option (List MetaEntry)) → None ≡ option_map reported (words_report driver old old.clock names told)
    → told ≡ Ok command → Does (command_done (around_of old) (planning_of old) command) (planning_of new) new.stores d driver (ear [] old.known said_old told_old) (ear d.heard.answers new.known said_new told_new)
    → Carries driver old names told (planning_of new) new.stores d (ear [] old.known said_old told_old) (ear d.heard.answers new.known said_new told_new)
carries_change driver old new names told command d said_old said_new told_old told_new none is t = record {
  reply = d.reply;
  reports = ap (λ (o : Option Data). reply_or o d.reply) (sym (none_report (words_report driver old old.clock names told) none));
  talks = subst (λ (r : Result Command CtlFault). Talks Deed (words_done (around_of old) (planning_of old) r) (deed_at new d) driver (ear [] old.known said_old told_old) (ear d.heard.answers new.known said_new told_new)) (sym is) t;
}

-- a rate of words is one of their command
pub has_rate : (told : Result Command CtlFault) (command : Command) → told ≡ Ok command → HaveRate told → HasRate command
has_rate told command is h = subst HaveRate is h

-- of the request, from what its words did
module _ (old mid new : Part) (moment : ℕ) (words : List ℕ) (told : Result Command CtlFault) (driver : ℕ) (d : Done) (said_old said_new : List MetaAnswer) (told_old told_new : Option (List MetaEntry)) (mid_is : mid ≡ at_moment old moment) (told_is : told ≡ command_told words)
    (c : Carries driver mid d.heard.names told (planning_of new) new.stores d (ear [] mid.known said_old told_old) (ear d.heard.answers new.known said_new told_new)) where
  abbrev left_deed : Reply → Deed
  left_deed reply = record { planning = planning_of new; stores = new.stores; sents = d.sents; reply = reply }

  talked : Talks Deed (ctl_of old moment words) (left_deed c.reply) driver (ear [] old.known said_old told_old) (ear d.heard.answers new.known said_new told_new)
  talked =
      subst (λ (r : Result Command CtlFault). Talks Deed (words_done (around_at old moment) (planning_of old) r) (left_deed c.reply) driver (ear [] old.known said_old told_old) (ear d.heard.answers new.known said_new told_new)) told_is
      (subst (λ (p : Part). Talks Deed (words_done (around_of p) (planning_of p) told) (left_deed c.reply) driver (ear [] p.known said_old told_old) (ear d.heard.answers new.known said_new told_new)) mid_is c.talks)

  deed_is : deed_of (ctl_of old moment words) old moment d.heard.answers ≡ left_deed c.reply
  deed_is = did (ctl_of old moment words) old moment (left_deed c.reply) driver (ear [] old.known said_old told_old) (ear d.heard.answers new.known said_new told_new) refl refl talked

  pub ctl_reply : d.reply ≡ reply_or (report_told driver old moment words d.heard.names) (deed_of (ctl_of old moment words) old moment d.heard.answers).reply
  ctl_reply =
      c.reports ∙ ap (λ (p : Part). reply_or (words_report driver p p.clock d.heard.names told) c.reply) mid_is
      ∙ (λ i. reply_or (words_report driver old (max old.clock moment) d.heard.names (told_is i)) (sym (ap (λ (x : Deed). x.reply) deed_is) i))

  pub ctl_sents : d.sents ≡ (deed_of (ctl_of old moment words) old moment d.heard.answers).sents
  ctl_sents = sym (ap (λ (x : Deed). x.sents) deed_is)

  pub ctl_asked : AreAsked (λ before. wanted (ctl_of old moment words (hearing old.known before))) [] d.heard.answers
  ctl_asked = did_ask (ctl_of old moment words) old (left_deed c.reply) driver (ear [] old.known said_old told_old) (ear d.heard.answers new.known said_new told_new) refl refl talked

  pub ctl_said : said_new ≡ said_old ++ d.heard.answers
  ctl_said = c.talks.said ∙ ap (λ (l : List MetaAnswer). said_old ++ l) (sym c.talks.answers)

  pub ctl_told : told_new ≡ told_all told_old driver d.heard.answers
  ctl_told = c.talks.told ∙ ap (told_all told_old driver) (sym c.talks.answers)

  ctl_known : new.known ≡ known_after d.heard.answers old.known
  ctl_known = talked.known ∙ ap (λ (l : List MetaAnswer). known_after l old.known) (sym talked.answers)

  pub ctl_after : new ≡ rewritten mid new → new ≡ changed_part old (ask.Ctl moment words) d.reply d.heard
  ctl_after rest =
      let stores : new.stores ≡ (deed_of (ctl_of old moment words) old moment d.heard.answers).stores = sym (ap (λ (x : Deed). x.stores) deed_is) in
      let planning : planning_of new ≡ (deed_of (ctl_of old moment words) old moment d.heard.answers).planning = sym (ap (λ (x : Deed). x.planning) deed_is) in
      let last : rewritten (at_moment old moment) new ≡ changed_part old (ask.Ctl moment words) d.reply d.heard = λ i. record {
        term = old.term;
        began = old.began;
        clock = max old.clock moment;
        stores = stores i;
        standing = old.standing;
        rules = old.rules;
        known = ctl_known i;
        operators = (planning i).operators;
        limits = (planning i).limits;
        window = (planning i).window;
      } in
      rest ∙ ap (λ (p : Part). rewritten p new) mid_is ∙ last
