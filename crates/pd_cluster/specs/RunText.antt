-- The text of a run, section by section: the windows that were saved; each driver's, each client's and each store's answers, which print as those of `replay`; and
-- the journals of the drivers' clusters, of the metadata and of the post (own choice).
use Rattle.std.specs.Prelude.{ℕ, ◌+◌, List, [], ◌∷◌, ◌++◌, codes, true, false, nat_lt, filter, flat_map, Some, None, Ok, Err, if◌then◌else◌}
use Rattle.std.specs.Fmt.{decimal}
use Rattle.std.specs.Str.{is_utf8}
use Rattle.pd_types.specs.declared.oracle.Window.{Window}
use Rattle.meta_store.specs.declared.record.MetaCall.{MetaCall}
use Rattle.meta_store.specs.declared.record.MetaCall.TheVariants as calls
use Rattle.meta_store.specs.declared.record.MetaEntry.{MetaEntry}
use Rattle.meta_store.specs.declared.record.MetaVerdict.{MetaVerdict}
use Rattle.meta_store.specs.declared.record.MetaVerdict.TheVariants as verdicts
use Rattle.tso_core.specs.declared.reply.Reply.{Reply}
use Rattle.tso_core.specs.declared.reply.Reply.TheVariants.{Won, Beaten, Lost, TermsSpent, ClockRange, Moved, Idle, NotLeading, Resigned, Got, Again, NotLeader, Stale, Told, Heard, Nothing}
use Rattle.tso_driver.specs.declared.reply.LeadReply.{LeadReply}
use Rattle.tso_driver.specs.declared.reply.LeadReply.TheVariants.{Won as LeadWon, Beaten as LeadBeaten, Lost as LeadLost, TermsSpent as LeadSpent, ClockRange as LeadPast}
use Rattle.tso_driver.specs.declared.reply.TickReply.{TickReply}
use Rattle.tso_driver.specs.declared.reply.TickReply.TheVariants.{Moved as TickMoved, Idle as TickIdle, Lost as TickLost, ClockRange as TickPast, NotLeading as TickNone}
use Rattle.tso_driver.specs.declared.said.DriverSaid.{DriverSaid}
use Rattle.tso_driver.specs.declared.said.DriverSaid.TheVariants.{Led, Ticked, Resigned as GaveUp}
use Rattle.tso_client.specs.declared.draw.DrawFault.{DrawFault}
use Rattle.tso_client.specs.declared.draw.DrawFault.TheVariants.{NotLeader as FaultNone, Stale as FaultStale, Again as FaultAgain}
use Rattle.tso_client.specs.declared.entry.PostEntry.{PostEntry}
use Rattle.tso_client.specs.declared.entry.PostWhat.{PostWhat}
use Rattle.tso_client.specs.declared.entry.PostWhat.TheVariants.{Told as ToldThere, Heard as HeardThere, Nothing as NothingThere}
use Rattle.tso_outcome.specs.declared.said.ClientAnswer.{ClientAnswer}
use Rattle.tso_outcome.specs.declared.said.ClientSaid.{ClientSaid}
use Rattle.tso_outcome.specs.declared.said.ClientSaid.TheVariants.{Took, Told as LeftOne, Heard as HeardOne}
use Rattle.tso_outcome.specs.Runs.{ClientPart}
use Rattle.pd_state.specs.ReplyText.{reply_text as told_text}
use Rattle.pd_state.specs.declared.entry.Entry.{Entry}
use Rattle.pd_run.specs.declared.answer.DriverAnswer.{DriverAnswer}
use Rattle.pd_run.specs.declared.answer.DriverSays.{DriverSays}
use Rattle.pd_run.specs.declared.answer.DriverSays.TheVariants as drivers
use Rattle.pd_run.specs.declared.answer.StoreAnswer.{StoreAnswer}
use Rattle.pd_run.specs.declared.answer.StoreSays.{StoreSays}
use Rattle.pd_run.specs.declared.answer.StoreSays.TheVariants as stores
use Rattle.pd_run.specs.Runs.{DriverPart, Journal, Run, StorePart}
use Rattle.pd_cluster.specs.Answers.{said_text}
use Rattle.pd_cluster.specs.declared.said.Said.{Said}
use Rattle.pd_cluster.specs.declared.said.Said.TheVariants.{ByOracle, ByCluster, Popped}

-- THE ANSWERS, which print as those of `replay`

-- the answer of a lead
abbrev pub lead_reply : LeadReply → Reply
lead_reply (LeadWon term lo hi) = Won term lo hi
lead_reply (LeadBeaten found) = Beaten found
lead_reply (LeadLost found) = Lost found
lead_reply LeadSpent = TermsSpent
lead_reply LeadPast = ClockRange

-- the answer of a tick
abbrev pub tick_reply : TickReply → Reply
tick_reply (TickMoved next hi) = Moved next hi
tick_reply TickIdle = Idle
tick_reply (TickLost found) = Lost found
tick_reply TickPast = ClockRange
tick_reply TickNone = NotLeading

-- what the oracle answers a driver
abbrev pub driver_reply : DriverSaid → Reply
driver_reply (Led now reply) = lead_reply reply
driver_reply (Ticked now reply) = tick_reply reply
driver_reply (GaveUp true) = Resigned
driver_reply (GaveUp false) = NotLeading

-- the answer of a draw that grants nothing
abbrev pub fault_reply : DrawFault → Reply
fault_reply FaultNone = NotLeader
fault_reply (FaultStale seen_term) = Stale seen_term
fault_reply (FaultAgain at hi n) = Again at hi n

-- what a client answers
abbrev pub client_reply : ClientSaid → Reply
client_reply (Took d n (Ok batch)) = Got batch
client_reply (Took d n (Err fault)) = fault_reply fault
client_reply (LeftOne to) = Told
client_reply (HeardOne (Some seen)) = Heard seen
client_reply (HeardOne None) = Nothing

-- what a driver answers: what the oracle answered, or what its cluster replied, also where its term was given up by that
abbrev pub driver_said : DriverSays → Said
driver_said (drivers.Oracle said) = ByOracle (driver_reply said)
driver_said (drivers.Cluster reply) = ByCluster reply
driver_said (drivers.Resigned reply held) = ByCluster reply

-- what a store answers: what a cluster replied, or the step that it took
abbrev pub store_said : StoreSays → Said
store_said (stores.Cluster reply) = ByCluster reply
store_said (stores.Popped message) = Popped message

-- THE LINES

-- `L ANSWER`: a line's number, its answer, a line feed
abbrev pub said_line : ℕ → Said → List ℕ
said_line line said = decimal line ++ codes " " ++ said_text said ++ codes "\n"

-- a driver's answer
abbrev pub driver_line : DriverAnswer → List ℕ
driver_line a = said_line a.line (driver_said a.says)

-- a client's answer
abbrev pub client_line : ClientAnswer → List ℕ
client_line a = said_line a.line (ByOracle (client_reply a.said))

-- a store's answer
abbrev pub store_line : StoreAnswer → List ℕ
store_line a = said_line a.line (store_said a.says)

-- the windows that are printed: those in which a save succeeded. The opening window, and one whose term was lost before its first
-- save, end where they begin.
abbrev pub printed_windows : List Window → List Window
printed_windows windows = filter (λ (w : Window). nat_lt w.lo w.hi) windows

-- `window T D LO HI`
abbrev pub window_line : Window → List ℕ
window_line w = codes "window " ++ decimal w.term ++ codes " " ++ decimal w.driver ++ codes " " ++ decimal w.lo ++ codes " " ++ decimal w.hi ++ codes "\n"

-- `N line L ANSWER`: an entry of a cluster's journal with its number in the journal
abbrev pub entry_line : ℕ → Entry → List ℕ
entry_line n entry = decimal n ++ codes " line " ++ decimal entry.line ++ codes " " ++ told_text entry.reply ++ codes "\n"

-- a key of the metadata: its bytes, where they are text, as those of all keys are
abbrev pub key_text : List ℕ → List ℕ
key_text key = if is_utf8 key then key else []

-- `lead T`, `put T KEY` or `delete T KEY`
abbrev pub call_text : MetaCall → List ℕ
call_text (calls.Lead term) = codes "lead " ++ decimal term
call_text (calls.Put term key expected bytes) = codes "put " ++ decimal term ++ codes " " ++ key_text key
call_text (calls.Delete term key expected) = codes "delete " ++ decimal term ++ codes " " ++ key_text key

-- what the metadata answered
abbrev pub verdict_text : MetaVerdict → List ℕ
verdict_text (verdicts.Accepted revision) = codes "accepted " ++ decimal revision
verdict_text (verdicts.OldTerm fence) = codes "old-term " ++ decimal fence
verdict_text (verdicts.Conflict found) = codes "conflict " ++ decimal found
verdict_text verdicts.Limit = codes "meta-limit"

-- `N driver D CALL VERDICT`: a call of a driver to the metadata with its number in the journal
abbrev pub meta_line : ℕ → MetaEntry → List ℕ
meta_line n entry = decimal n ++ codes " driver " ++ decimal entry.driver ++ codes " " ++ call_text entry.call ++ codes " " ++ verdict_text entry.verdict ++ codes "\n"

-- what was done at the post
abbrev pub post_what : PostWhat → List ℕ
post_what (ToldThere to seen) = codes "told"
post_what (HeardThere seen) = codes "heard " ++ decimal seen.term ++ codes " " ++ decimal seen.last
post_what NothingThere = codes "nothing"

-- `N line L WHAT`: an entry of the post with its number in the journal
abbrev pub post_line : ℕ → PostEntry → List ℕ
post_line n entry = decimal n ++ codes " line " ++ decimal entry.line ++ codes " " ++ post_what entry.what ++ codes "\n"

-- THE SECTIONS

-- the text of each of these, which are numbered from n on
abbrev pub numbered : {A : Type 0} → (ℕ → A → List ℕ) → ℕ → List A → List ℕ
numbered text n [] = []
numbered text n (x ∷ xs) = text n x ++ numbered text (n + 1) xs

-- the lines of the printed windows
abbrev pub windows_text : List Window → List ℕ
windows_text windows = flat_map window_line (printed_windows windows)

-- a driver's answers behind their head `driver D`; nothing where it has none
abbrev pub driver_section : ℕ → List DriverAnswer → List ℕ
driver_section d [] = []
driver_section d (a ∷ rest) = codes "driver " ++ decimal d ++ codes "\n" ++ flat_map driver_line (a ∷ rest)

-- a client's answers behind their head `client C`; nothing where it has none
abbrev pub client_section : ℕ → List ClientAnswer → List ℕ
client_section c [] = []
client_section c (a ∷ rest) = codes "client " ++ decimal c ++ codes "\n" ++ flat_map client_line (a ∷ rest)

-- the answers of a store that acts behind their head `store S`
abbrev pub store_section : ℕ → List StoreAnswer → List ℕ
store_section s answers = codes "store " ++ decimal s ++ codes "\n" ++ flat_map store_line answers

-- the journal of the cluster of the driver d behind its head `journal D`, also where it has no entries
abbrev pub journal_section : ℕ → Journal → List ℕ
journal_section d journal = codes "journal " ++ decimal d ++ codes "\n" ++ numbered entry_line 1 journal.entries

-- the calls to the metadata behind their head
abbrev pub meta_section : List MetaEntry → List ℕ
meta_section entries = codes "meta\n" ++ numbered meta_line 1 entries

-- what was done at the post behind its head
abbrev pub post_section : List PostEntry → List ℕ
post_section entries = codes "post\n" ++ numbered post_line 1 entries

-- The text of a run. The journals are those of the drivers from the first one on
abbrev pub run_text : Run → List ℕ
run_text run =
    windows_text run.oracle.windows
    ++ flat_map (λ (p : DriverPart). driver_section p.number p.answers) run.drivers
    ++ flat_map (λ (p : ClientPart). client_section p.number p.answers) run.oracle.clients
    ++ flat_map (λ (p : StorePart). store_section p.store p.answers) run.stores
    ++ numbered journal_section 1 run.journals
    ++ meta_section run.metadata
    ++ post_section run.oracle.post
