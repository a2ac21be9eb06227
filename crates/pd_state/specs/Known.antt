-- What a cluster knows in its term: the stores that it was handed and those that said hello (kvproto pdpb, `PutStore`). Each list of entries has the latest first.
use Rattle.std.specs.Prelude.{◌≡◌, ◌⊎◌, ℕ, ◌≤◌, Bool, true, false, ◌&&◌, ◌||◌, nat_eq, List, [], ◌∷◌, ◌++◌, length, map, Option, Some, None, Result, Ok, All, Contains, filter_map}
use Rattle.std.specs.List.{Any, list_any}
use Rattle.std.specs.Option.{is_some}
use Rattle.pd_types.specs.declared.request.Request.{Request}
use Rattle.pd_types.specs.declared.request.Request.TheVariants as ask
use Rattle.pd_types.specs.declared.rule.Rule.{Rule}
use Rattle.pd_types.specs.declared.rule.TheConstants.{MAX_RULES}
use Rattle.pd_types.specs.declared.store.Label.{Label}
use Rattle.pd_types.specs.declared.store.StoreRec.{StoreRec}
use Rattle.pd_types.specs.declared.store.StoreState.{StoreState}
use Rattle.pd_types.specs.declared.store.StoreState.TheVariants as states
use Rattle.meta_store.specs.declared.record.Cell.{Cell}
use Rattle.meta_store.specs.Cells.{AreRising as AreInKeyOrder}
use Rattle.store_table.specs.declared.entry.StoreEntry.{StoreEntry}
use Rattle.store_table.specs.declared.table.TheConstants.{MOST_STORES}
use Rattle.store_table.specs.Entries.{AreRising, entry_at, state_at}
use Rattle.id_alloc.specs.Windows.{window_in}
use Rattle.op_control.specs.Table.{state_of}
use Rattle.pd_state.specs.HandedOut.{limits_of, or_default, record_at, rules_told, store_in, stores_told}
use Rattle.pd_ctl.specs.declared.command.Command.{Command}
use Rattle.pd_ctl.specs.declared.command.Command.TheVariants as commands
use Rattle.pd_ctl.specs.declared.fault.CtlFault.{CtlFault}
use Rattle.pd_state.specs.Checking.{deed_of, patrol_of}
use Rattle.pd_state.specs.Ctl.{ctl_of}
use Rattle.pd_state.specs.Reports.{command_told}
use Rattle.pd_state.specs.Heard.{handed_out, heard_of}
use Rattle.pd_state.specs.State.{part_of}
use Rattle.pd_state.specs.declared.heard.Heard.{Heard}
use Rattle.pd_state.specs.StoredRules.{rule_in}
use Rattle.pd_state.specs.declared.entry.Entry.{Entry}
use Rattle.pd_state.specs.declared.part.Part.{Part}
use Rattle.pd_state.specs.declared.reply.Reply.{Reply}
use Rattle.pd_state.specs.declared.reply.Reply.TheVariants as replies

-- a fact of an accepted hello
abbrev pub where_put : Reply → Bool → Bool
where_put replies.StorePut fact = fact
where_put _ fact = false

-- the request is a hello of this store, and was accepted
abbrev pub greets : ℕ → Request → Reply → Bool
greets store (ask.Hello at moment address labels) reply = where_put reply (nat_eq at store)
greets store _ reply = false

-- an accepted hello of this store
abbrev pub is_hello : ℕ → Entry → Bool
is_hello store entry = greets store entry.request entry.reply

-- the last accepted hello of a store told this address and these labels
pub record LastHello (entries : List Entry) (store : ℕ) (address : List ℕ) (labels : List Label) : Type 0 where
  pub later : List Entry
  pub hello : Entry
  pub earlier : List Entry
  pub moment : ℕ
  pub among : entries ≡ later ++ hello ∷ earlier
  pub asked : hello.request ≡ ask.Hello store moment address labels
  pub put : hello.reply ≡ replies.StorePut
  pub last : list_any (is_hello store) later ≡ false

-- the records that the Term was handed, which is the first of these entries
abbrev pub begun_with : Request → List Cell → List Cell → List Cell
begun_with (ask.Term term moment) own before = own
begun_with _ own before = before

-- the records that a term part was handed
abbrev pub handed_to : List Entry → List Cell
handed_to [] = []
handed_to (entry ∷ entries) = begun_with entry.request (handed_out entry.answers) (handed_to entries)

-- the state that a store had among the records; a new store is Up
abbrev pub state_or_up : Option StoreRec → StoreState
state_or_up None = states.Up
state_or_up (Some rec) = rec.state

-- the state is a tombstone's
abbrev pub is_tombstone : StoreState → Bool
is_tombstone states.Up = false
is_tombstone states.Offline = false
is_tombstone states.Tombstone = true

-- where there is a state
abbrev pub has_tombstone : Option StoreState → Bool
has_tombstone None = false
has_tombstone (Some state) = is_tombstone state

-- a patrol that stood on this and heard this left the store a tombstone
abbrev pub entombs : ℕ → Request → Heard → Part → Bool
entombs store (ask.Patrol moment workers) heard part = has_tombstone (state_at store (deed_of (patrol_of part moment) part moment heard.answers).stores)
entombs store _ heard part = false

-- the state is Offline
abbrev pub is_offline : StoreState → Bool
is_offline states.Up = false
is_offline states.Offline = true
is_offline states.Tombstone = false

-- where there is a state
abbrev pub has_offline : Option StoreState → Bool
has_offline None = false
has_offline (Some state) = is_offline state

-- the command deletes this store
abbrev pub names_store : ℕ → Result Command CtlFault → Bool
names_store store (Ok (commands.StoreDelete id)) = nat_eq id store
names_store store _ = false

-- a command of pd-ctl that stood on this and heard this deleted the store, and left it Offline
abbrev pub deletes : ℕ → Request → Heard → Part → Bool
deletes store (ask.Ctl moment words) heard part = names_store store (command_told words) && has_offline (state_at store (deed_of (ctl_of part moment words) part moment heard.answers).stores)
deletes store _ heard part = false

-- one of these entries deleted the store
abbrev pub is_deleted : ℕ → List Entry → Bool
is_deleted store [] = false
is_deleted store (entry ∷ entries) = deletes store entry.request (heard_of entry) (part_of entries) || is_deleted store entries

-- the state of a store that pd-ctl deleted, or didn't
abbrev pub deleted_state : Bool → StoreState → StoreState
deleted_state true state = states.Offline
deleted_state false state = state

-- one of these entries is a patrol that left the store a tombstone
abbrev pub is_entombed : ℕ → List Entry → Bool
is_entombed store [] = false
is_entombed store (entry ∷ entries) = entombs store entry.request (heard_of entry) (part_of entries) || is_entombed store entries

-- the state of a store that a patrol buried, or didn't
abbrev pub buried_state : Bool → StoreState → StoreState
buried_state true state = states.Tombstone
buried_state false state = state

-- no hello of the store was accepted, and this is its record as it was handed out, but for the state
pub record WasHanded (entries : List Entry) (store : ℕ) (rec : StoreRec) : Type 0 where
  pub unheard : list_any (is_hello store) entries ≡ false
  pub known : StoreRec
  pub handed : record_at store (stores_told (handed_to entries)) ≡ Some known
  pub address : rec.address ≡ known.address
  pub labels : rec.labels ≡ known.labels

-- The stores that a term part knows: exactly those that it was handed and those of which a hello was accepted. Each has the address
-- and the labels of its last accepted hello, or else those that were handed out, and the state that was, Up for a new one, unless
-- pd-ctl deleted the store or a patrol buried it; they stand by rising ids
pub record AreKnown (entries : List Entry) (stores : List StoreEntry) : Type 0 where
  pub known : (store : ℕ) → is_some (entry_at store stores) ≡ (list_any (is_hello store) entries || is_some (record_at store (stores_told (handed_to entries))))
  pub told : (store : ℕ) (found : StoreEntry) → entry_at store stores ≡ Some found → LastHello entries store found.store.address found.store.labels ⊎ WasHanded entries store found.store
  pub state : (store : ℕ) (found : StoreEntry) → entry_at store stores ≡ Some found → found.store.state ≡ buried_state (is_entombed store entries) (deleted_state (is_deleted store entries) (state_or_up (record_at store (stores_told (handed_to entries)))))
  pub rising : AreRising stores

-- The stores that records tell: each is told by one of them; where the records rise by key and no more than `MOST_STORES` tell a store, each that
-- one of them tells is there; never more than those are
pub record AreTold (cells : List Cell) (recs : List StoreRec) : Type 0 where
  pub only : (store : ℕ) (rec : StoreRec) → record_at store recs ≡ Some rec → Any (λ cell. store_in cell ≡ Some rec) cells
  pub every : AreInKeyOrder cells → length (filter_map store_in cells) ≤ MOST_STORES → All (λ cell. (rec : StoreRec) → store_in cell ≡ Some rec → record_at rec.id recs ≡ Some rec) cells
  pub few : length recs ≤ MOST_STORES

-- The rules that records tell: each is told by one of them; where the records rise by key and no more than `MAX_RULES` tell a rule, each that
-- one of them tells is there; never more than those are
pub record AreRulesTold (cells : List Cell) (rules : List Rule) : Type 0 where
  pub only : (rule : Rule) → Contains rules rule → Any (λ cell. rule_in cell ≡ Some rule) cells
  pub every : AreInKeyOrder cells → length (filter_map rule_in cells) ≤ MAX_RULES → All (λ cell. (rule : Rule) → rule_in cell ≡ Some rule → Contains rules rule) cells
  pub few : length rules ≤ MAX_RULES

-- a term that begins knows the stores and rules that it was handed, has heard of no store and has no region and no operator; the limits of its stores are
-- full, and its window of ids is the one that its records tell, which is used up
pub record BeginsAnew (part : Part) (term moment : ℕ) (cells : List Cell) : Type 0 where
  pub term_is : part.term ≡ term
  pub began_is : part.began ≡ moment
  pub clock_is : part.clock ≡ moment
  pub stores : map (λ (entry : StoreEntry). entry.store) part.stores ≡ stores_told cells
  pub silent : All (λ entry. entry.beat ≡ None) part.stores
  pub regions : part.standing ≡ []
  pub rules : part.rules ≡ or_default (rules_told cells)
  pub idle : (region : ℕ) → state_of part.operators region ≡ None
  pub free : part.operators.busy ≡ []
  pub limits : part.limits ≡ limits_of moment (stores_told cells)
  pub window : part.window ≡ window_in cells
