-- The records of stores, by who said hello.
use Rattle.std.proofs.Common.{refl, ◌≡◌, ◌≢◌, ℕ, zero, suc, ◌<◌, Bool, true, false, cond, ◌&&◌, ◌||◌, ◌⊎◌, inl, inr, fold, nat_eq, nat_le, nat_lt, List, [], ◌∷◌, ◌++◌, length, get_or, map, ap, sym, subst, ◌∙◌, Option, Some, None, arith}
use Rattle.std.proofs.lemmas.Bool.Decides.{nat_tests}
use Rattle.std.proofs.lemmas.List.Elements.{All-append, filter_passes}
use Rattle.std.proofs.lemmas.List.Kept.{AllPairs-cons, AllPairs-filter}
use Rattle.std.specs.List.{All, AllPairs, filter, list_any}
use Rattle.std.specs.Option.{is_some, option_map}
use Rattle.pd_types.proofs.Numbers.{other_number, same_number}
use Rattle.pd_types.specs.declared.request.Request.{Request}
use Rattle.pd_types.specs.declared.request.Request.TheVariants as ask
use Rattle.pd_types.specs.declared.store.Label.{Label}
use Rattle.pd_types.specs.declared.store.StoreRec.{StoreRec}
use Rattle.pd_types.specs.declared.store.StoreState.{StoreState}
use Rattle.pd_types.specs.declared.store.StoreState.TheVariants.{Up, Offline, Tombstone}
use Rattle.store_table.specs.Calls.{in_state}
use Rattle.meta_store.specs.declared.record.MetaAnswer.{MetaAnswer}
use Rattle.store_table.specs.declared.entry.StoreEntry.{StoreEntry}
use Rattle.store_table.specs.Entries.{AreRising, entry_at, placed, state_at}
use Rattle.store_table.proofs.MapLemmas.{entry_placed, entry_others}
use Rattle.pd_state.specs.declared.entry.Entry.{Entry}
use Rattle.pd_state.specs.declared.reply.Reply.{Reply}
use Rattle.pd_state.specs.declared.reply.Reply.TheVariants as replies
use Rattle.store_table.specs.declared.table.TheConstants.{MOST_STORES}
use Rattle.meta_store.specs.declared.record.Cell.{Cell}
use Rattle.pd_state.specs.declared.heard.Heard.{Heard}
use Rattle.pd_state.specs.HandedOut.{record_at, store_in, store_more, stores_told, with_record}
use Rattle.pd_state.specs.Heard.{handed_out, heard_of}
use Rattle.pd_state.specs.Since.{begun, since, since_by}
use Rattle.pd_state.specs.State.{greeted_by, greeting, kept_state, records_by, store_of, part_of}
use Rattle.pd_state.specs.Checking.{deed_of, patrol_of}
use Rattle.pd_state.specs.Ctl.{ctl_of, resigns}
use Rattle.pd_state.specs.Known.{begun_with, buried_state, deleted_state, deletes, entombs, handed_to, has_offline, has_tombstone, is_deleted, is_entombed, is_offline, is_tombstone, names_store, state_or_up, where_put, greets, is_hello, LastHello, WasHanded, AreKnown}
use Rattle.pd_state.specs.Reports.{command_told}
use Rattle.pd_state.proofs.Buried.{AreRestated, deed_buried, deed_deleted, id_is}
use Rattle.pd_state.proofs.Deleted.{Left, deed_left}
use Rattle.pd_state.proofs.Records.{records_of}
use Rattle.pd_state.proofs.Rows.{entry_map, placed_map}

-- a record is found once it is placed, and those of other ids as before
abbrev plain : StoreRec → StoreEntry
plain rec = record { store = rec; began = 0; beat = None }

bare : (o : Option StoreRec) → option_map (λ (e : StoreEntry). e.store) (option_map plain o) ≡ o
bare None = refl
bare (Some rec) = refl

found_with : (id : ℕ) (rec : StoreRec) (recs : List StoreRec) → option_map plain (record_at id (with_record rec recs)) ≡ entry_at id (placed (plain rec) (map plain recs))
found_with id rec recs = sym (entry_map plain (λ r. refl) id (with_record rec recs)) ∙ ap (entry_at id) (sym (placed_map plain plain (λ r. refl) rec (plain rec) refl refl (λ r h. refl) recs))

pub with_own : (rec : StoreRec) (recs : List StoreRec) → record_at rec.id (with_record rec recs) ≡ Some rec
with_own rec recs = sym (bare (record_at rec.id (with_record rec recs))) ∙ ap (option_map (λ (e : StoreEntry). e.store)) (found_with rec.id rec recs ∙ entry_placed (plain rec) (map plain recs))

pub with_other : (id : ℕ) (rec : StoreRec) (recs : List StoreRec) → id ≢ rec.id → record_at id (with_record rec recs) ≡ record_at id recs
with_other id rec recs other =
    sym (bare (record_at id (with_record rec recs)))
    ∙ ap (option_map (λ (e : StoreEntry). e.store)) (found_with id rec recs ∙ entry_others id (plain rec) (map plain recs) other ∙ entry_map plain (λ r. refl) id recs) ∙ bare (record_at id recs)

kept_id : (o : Option StoreRec) (rec : StoreRec) → (kept_state o rec).id ≡ rec.id
kept_id None rec = refl
kept_id (Some known) rec = refl

-- the record of a store after an accepted hello of it, and of another
hello_own : (rec : StoreRec) (recs : List StoreRec) (store : ℕ) → rec.id ≡ store → record_at store (with_record (kept_state (record_at rec.id recs) rec) recs) ≡ Some (kept_state (record_at rec.id recs) rec)
hello_own rec recs store is =
    ap (λ n. record_at n (with_record (kept_state (record_at rec.id recs) rec) recs)) (sym (kept_id (record_at rec.id recs) rec ∙ is)) ∙ with_own (kept_state (record_at rec.id recs) rec) recs

hello_other : (rec : StoreRec) (recs : List StoreRec) (store : ℕ) → store ≢ rec.id → record_at store (with_record (kept_state (record_at rec.id recs) rec) recs) ≡ record_at store recs
hello_other rec recs store other = with_other store (kept_state (record_at rec.id recs) rec) recs (λ h. other (h ∙ kept_id (record_at rec.id recs) rec))

-- a term part: a Term, and behind it no other
abbrev pub part_by : Request → List Entry → Type 0 → Type 0
part_by (ask.Term term moment) entries rest = entries ≡ []
part_by _ entries rest = rest

abbrev pub TermPart : List Entry → Type 0
TermPart [] = ⊥
TermPart (e ∷ entries) = part_by e.request entries (TermPart entries)

cons_same : (e : Entry) (fs entries : List Entry) → Some (e ∷ fs) ≡ Some entries → e ∷ fs ≡ entries
cons_same e fs entries h = cc

-- a command goes on with the term, unless it gives it up
no_part : (t : Bool) (entries : List Entry) → cond t None None ≡ Some entries → ⊥
no_part true entries h = cc
no_part false entries h = cc

goes_on : (t : Bool) (e : Entry) (fs entries : List Entry) → cond t None (Some (e ∷ fs)) ≡ Some entries → Some (e ∷ fs) ≡ Some entries
goes_on true e fs entries h = absurd cc
goes_on false e fs entries h = h

part_one : (e : Entry) (r : Request) (s : Option (List Entry)) (entries : List Entry) → e.request ≡ r → ((fs : List Entry) → s ≡ Some fs → TermPart fs) → since_by r e s ≡ Some entries → TermPart entries
part_one e (ask.Term term moment) s entries is rest h = begun_one e.reply h
  where
    alone : TermPart (e ∷ [])
    alone = subst (λ (r : Request). part_by r [] ⊥) (sym is) refl

    begun_one : (p : Reply) → begun p e ≡ Some entries → TermPart entries
    begun_one (replies.Term n a b) h = subst TermPart (cons_same e [] entries h) alone
    begun_one p h = absurd cc
part_one e ask.Retire s entries is rest h = absurd cc
part_one e (ask.Ctl moment words) None entries is rest h = absurd (no_part (resigns words) entries h)
part_one e (ask.Ctl moment words) (Some fs) entries is rest h = subst TermPart (cons_same e fs entries (goes_on (resigns words) e fs entries h)) (subst (λ (r : Request). part_by r fs (TermPart fs)) (sym is) (rest fs refl))
part_one e _ None entries is rest h = absurd cc
part_one e _ (Some fs) entries is rest h = subst TermPart (cons_same e fs entries h) (subst (λ (r : Request). part_by r fs (TermPart fs)) (sym is) (rest fs refl))

pub term_part : (past entries : List Entry) → since past ≡ Some entries → TermPart entries
term_part [] entries h = absurd cc
term_part (e ∷ past) entries h = part_one e e.request (since past) entries refl (term_part past) h

-- known
or_twice : (a b c : Bool) → a || (b || c) ≡ (a || b) || c
or_twice true b c = refl
or_twice false b c = refl

abbrev Knows : Request → Entry → List Entry → ℕ → Type 0
Knows r e entries store =
    is_some (record_at store (records_by r e.reply (heard_of e) (part_of entries) (records_of entries))) ≡ (greets store r e.reply || list_any (is_hello store) entries) || is_some (record_at store (stores_told (begun_with r (handed_out e.answers) (handed_to entries))))

hello_knows : (p : Reply) (at moment : ℕ) (address : List ℕ) (labels : List Label) (recs : List StoreRec) (store : ℕ) (b : Bool) → is_some (record_at store recs) ≡ b
    → is_some (record_at store (greeted_by p (greeting at address labels) recs)) ≡ where_put p (nat_eq at store) || b
hello_knows replies.StorePut at moment address labels recs store b h = by (nat_eq at store) refl
  where
    by : (t : Bool) → nat_eq at store ≡ t → is_some (record_at store (with_record (kept_state (record_at at recs) (greeting at address labels)) recs)) ≡ t || b
    by true is = ap is_some (hello_own (greeting at address labels) recs store (same_number at store is))
    by false is = ap is_some (hello_other (greeting at address labels) recs store (other_number at store is)) ∙ h
hello_knows p at moment address labels recs store b h = h

-- a patrol leaves which stores are known
known_rows : (state : StoreState) (es : List Entry) (store : ℕ) (recs : List StoreRec) (stores : List StoreEntry) → AreRestated state (map (store_of es) recs) stores → is_some (record_at store (map (λ (entry : StoreEntry). entry.store) stores)) ≡ is_some (record_at store recs)
known_rows state es store [] [] h = refl
known_rows state es store [] (entry ∷ stores) h = absurd h
known_rows state es store (rec ∷ recs) [] h = absurd h
known_rows state es store (rec ∷ recs) (entry ∷ stores) h =
    ap (λ (n : ℕ). is_some (cond (nat_eq n store) (Some entry.store) (record_at store (map (λ (e : StoreEntry). e.store) stores)))) (id_is state es rec entry h.0)
    ∙ by (nat_eq rec.id store) (known_rows state es store recs stores h.1)
  where
    by : (t : Bool) → is_some (record_at store (map (λ (e : StoreEntry). e.store) stores)) ≡ is_some (record_at store recs) → is_some (cond t (Some entry.store) (record_at store (map (λ (e : StoreEntry). e.store) stores))) ≡ is_some (cond t (Some rec) (record_at store recs))
    by true rest = refl
    by false rest = rest

known_patrol : (entries : List Entry) (moment store : ℕ) (answers : List MetaAnswer)
    → is_some (record_at store (map (λ (entry : StoreEntry). entry.store) (deed_of (patrol_of (part_of entries) moment) (part_of entries) moment answers).stores)) ≡ is_some (record_at store (records_of entries))
known_patrol entries moment store answers = known_rows Tombstone entries store (records_of entries) _ (deed_buried entries moment answers)

-- so does a command of pd-ctl
known_ctl : (entries : List Entry) (moment store : ℕ) (words : List ℕ) (answers : List MetaAnswer)
    → is_some (record_at store (map (λ (entry : StoreEntry). entry.store) (deed_of (ctl_of (part_of entries) moment words) (part_of entries) moment answers).stores)) ≡ is_some (record_at store (records_of entries))
known_ctl entries moment store words answers = known_rows Offline entries store (records_of entries) _ (deed_deleted entries moment words answers)

known_one : (r : Request) (e : Entry) (entries : List Entry) (store : ℕ) → part_by r entries (TermPart entries)
    → (TermPart entries → is_some (record_at store (records_of entries)) ≡ list_any (is_hello store) entries || is_some (record_at store (stores_told (handed_to entries)))) → Knows r e entries store
known_one (ask.Term term moment) e entries store part rest = ap (λ (es : List Entry). list_any (is_hello store) es || is_some (record_at store (stores_told (handed_out e.answers)))) (sym part)
known_one (ask.Hello at moment address labels) e entries store part rest =
    hello_knows e.reply at moment address labels (records_of entries) store _ (rest part) ∙ or_twice (where_put e.reply (nat_eq at store)) (list_any (is_hello store) entries) (is_some (record_at store (stores_told (handed_to entries))))
known_one (ask.Patrol moment workers) e entries store part rest = known_patrol entries moment store e.answers ∙ rest part
known_one (ask.Ctl moment words) e entries store part rest = known_ctl entries moment store words e.answers ∙ rest part
known_one _ e entries store part rest = rest part

known_all : (entries : List Entry) → TermPart entries → (store : ℕ) → is_some (record_at store (records_of entries)) ≡ list_any (is_hello store) entries || is_some (record_at store (stores_told (handed_to entries)))
known_all [] part store = absurd part
known_all (e ∷ entries) part store = known_one e.request e entries store part (λ p. known_all entries p store)

-- told
kept_address : (o : Option StoreRec) (rec : StoreRec) → ((kept_state o rec).address ≡ rec.address) × ((kept_state o rec).labels ≡ rec.labels)
kept_address None rec = (refl, refl)
kept_address (Some known) rec = (refl, refl)

later_one : (e : Entry) (entries : List Entry) (store : ℕ) (address : List ℕ) (labels : List Label) → is_hello store e ≡ false → LastHello entries store address labels → LastHello (e ∷ entries) store address labels
later_one e entries store address labels other l = record {
  later = e ∷ l.later;
  hello = l.hello;
  earlier = l.earlier;
  moment = l.moment;
  among = ap (λ (es : List Entry). e ∷ es) l.among;
  asked = l.asked;
  put = l.put;
  last = ap (λ (t : Bool). t || list_any (is_hello store) l.later) other ∙ l.last;
}

pub some_same : (x y : StoreRec) → Some x ≡ Some y → x ≡ y
some_same x y h = cc

abbrev ToldOne : List Entry → ℕ → StoreRec → Type 0
ToldOne entries store rec = LastHello entries store rec.address rec.labels ⊎ WasHanded entries store rec

-- what an entry tells that is no accepted hello of the store
told_before : (e : Entry) (entries : List Entry) (store : ℕ) (rec : StoreRec) → is_hello store e ≡ false → begun_with e.request (handed_out e.answers) (handed_to entries) ≡ handed_to entries → ToldOne entries store rec → ToldOne (e ∷ entries) store rec
told_before e entries store rec other same (inl l) = inl (later_one e entries store rec.address rec.labels other l)
told_before e entries store rec other same (inr w) = inr (record {
  unheard = ap (λ (t : Bool). t || list_any (is_hello store) entries) other ∙ w.unheard;
  known = w.known;
  handed = ap (λ (cells : List Cell). record_at store (stores_told cells)) same ∙ w.handed;
  address = w.address;
  labels = w.labels;
})

own_hello : (e : Entry) (entries : List Entry) (at moment : ℕ) (address : List ℕ) (labels : List Label) (store : ℕ) (rec : StoreRec) → e.request ≡ ask.Hello at moment address labels → e.reply ≡ replies.StorePut → at ≡ store
    → kept_state (record_at at (records_of entries)) (greeting at address labels) ≡ rec → LastHello (e ∷ entries) store rec.address rec.labels
own_hello e entries at moment address labels store rec asked put id rec_is =
    let keeps = kept_address (record_at at (records_of entries)) (greeting at address labels) in
    record {
      later = [];
      hello = e;
      earlier = entries;
      moment = moment;
      among = refl;
      asked = asked ∙ ap (λ n. ask.Hello n moment address labels) id ∙ ap (λ (a : List ℕ). ask.Hello store moment a labels) (sym keeps.0 ∙ ap (λ (x : StoreRec). x.address) rec_is)
          ∙ ap (λ (l : List Label). ask.Hello store moment rec.address l) (sym keeps.1 ∙ ap (λ (x : StoreRec). x.labels) rec_is);
      put = put;
      last = refl;
    }

abbrev ToldAll : List Entry → Type 0
ToldAll entries = (store : ℕ) (rec : StoreRec) → record_at store (records_of entries) ≡ Some rec → ToldOne entries store rec

told_hello : (e : Entry) (entries : List Entry) (at moment : ℕ) (address : List ℕ) (labels : List Label) (p : Reply) → e.request ≡ ask.Hello at moment address labels → e.reply ≡ p → ToldAll entries → (store : ℕ) (rec : StoreRec)
    → record_at store (greeted_by p (greeting at address labels) (records_of entries)) ≡ Some rec → ToldOne (e ∷ entries) store rec
told_hello e entries at moment address labels replies.StorePut asked put told store rec found = by (nat_eq at store) refl
  where
    says : is_hello store e ≡ nat_eq at store
    says = ap (λ (r : Request). greets store r e.reply) asked ∙ ap (λ (p : Reply). where_put p (nat_eq at store)) put

    by : (t : Bool) → nat_eq at store ≡ t → ToldOne (e ∷ entries) store rec
    by true is =
        let id : at ≡ store = same_number at store is in
        inl (own_hello e entries at moment address labels store rec asked put id (some_same _ rec (sym (hello_own (greeting at address labels) (records_of entries) store id) ∙ found)))
    by false is =
        told_before e entries store rec (says ∙ is) (ap (λ (r : Request). begun_with r (handed_out e.answers) (handed_to entries)) asked)
        (told store rec (sym (hello_other (greeting at address labels) (records_of entries) store (other_number at store is)) ∙ found))
told_hello e entries at moment address labels p asked put told store rec found =
    told_before e entries store rec (ap (λ (r : Request). greets store r e.reply) asked ∙ ap (λ (q : Reply). where_put q (nat_eq at store)) put) (ap (λ (r : Request). begun_with r (handed_out e.answers) (handed_to entries)) asked) (told store rec found)

-- a record that a patrol leaves, and the one before it: at most the state differs
record_before : (state : StoreState) (es : List Entry) (store : ℕ) (recs : List StoreRec) (stores : List StoreEntry) (rec : StoreRec) → AreRestated state (map (store_of es) recs) stores → record_at store (map (λ (entry : StoreEntry). entry.store) stores) ≡ Some rec
    → (was : StoreRec) × (record_at store recs ≡ Some was) × (rec.address ≡ was.address) × (rec.labels ≡ was.labels) × ((rec ≡ was) ⊎ (rec.state ≡ state))
record_before state es store [] [] rec h found = absurd cc
record_before state es store [] (entry ∷ stores) rec h found = absurd h
record_before state es store (one ∷ recs) [] rec h found = absurd h
record_before state es store (one ∷ recs) (entry ∷ stores) rec h found = by (nat_eq one.id store) refl (ap (λ (n : ℕ). cond (nat_eq n store) (Some entry.store) (record_at store (map (λ (e : StoreEntry). e.store) stores))) (sym (id_is state es one entry h.0)) ∙ found) (record_before state es store recs stores rec h.1)
  where
    own : (entry ≡ store_of es one) ⊎ (entry ≡ in_state state (store_of es one)) → entry.store ≡ rec → (rec.address ≡ one.address) × (rec.labels ≡ one.labels) × ((rec ≡ one) ⊎ (rec.state ≡ state))
    own (inl is) at = (ap (λ (r : StoreRec). r.address) (sym at) ∙ ap (λ (e : StoreEntry). e.store.address) is, ap (λ (r : StoreRec). r.labels) (sym at) ∙ ap (λ (e : StoreEntry). e.store.labels) is, inl (sym at ∙ ap (λ (e : StoreEntry). e.store) is))
    own (inr is) at = (ap (λ (r : StoreRec). r.address) (sym at) ∙ ap (λ (e : StoreEntry). e.store.address) is, ap (λ (r : StoreRec). r.labels) (sym at) ∙ ap (λ (e : StoreEntry). e.store.labels) is, inr (ap (λ (r : StoreRec). r.state) (sym at) ∙ ap (λ (e : StoreEntry). e.store.state) is))

    by : (t : Bool) → nat_eq one.id store ≡ t → cond t (Some entry.store) (record_at store (map (λ (e : StoreEntry). e.store) stores)) ≡ Some rec
        → (record_at store (map (λ (e : StoreEntry). e.store) stores) ≡ Some rec → (was : StoreRec) × (record_at store recs ≡ Some was) × (rec.address ≡ was.address) × (rec.labels ≡ was.labels) × ((rec ≡ was) ⊎ (rec.state ≡ state)))
        → (was : StoreRec) × (cond (nat_eq one.id store) (Some one) (record_at store recs) ≡ Some was) × (rec.address ≡ was.address) × (rec.labels ≡ was.labels) × ((rec ≡ was) ⊎ (rec.state ≡ state))
    by true is at rest = let o = own h.0 (some_same entry.store rec at) in (one, ap (λ (t : Bool). cond t (Some one) (record_at store recs)) is, o.0, o.1, o.2)
    by false is at rest = let r = rest at in (r.0, ap (λ (t : Bool). cond t (Some one) (record_at store recs)) is ∙ r.1, r.2, r.3, r.4)

told_again : (entries : List Entry) (store : ℕ) (was rec : StoreRec) → rec.address ≡ was.address → rec.labels ≡ was.labels → ToldOne entries store was → ToldOne entries store rec
told_again entries store was rec address labels (inl l) = inl (subst (λ (a : List ℕ). LastHello entries store a rec.labels) (sym address) (subst (λ (l : List Label). LastHello entries store was.address l) (sym labels) l))
told_again entries store was rec address labels (inr w) = inr (record { unheard = w.unheard; known = w.known; handed = w.handed; address = address ∙ w.address; labels = labels ∙ w.labels })

told_one : (r : Request) (e : Entry) (entries : List Entry) → e.request ≡ r → part_by r entries (TermPart entries) → (TermPart entries → ToldAll entries) → (store : ℕ) (rec : StoreRec)
    → record_at store (records_by r e.reply (heard_of e) (part_of entries) (records_of entries)) ≡ Some rec → ToldOne (e ∷ entries) store rec
told_one (ask.Term term moment) e entries asked part rest store rec found = inr (record {
  unheard = ap (λ (r : Request). greets store r e.reply || list_any (is_hello store) entries) asked ∙ ap (λ (es : List Entry). list_any (is_hello store) es) part;
  known = rec;
  handed = ap (λ (r : Request). record_at store (stores_told (begun_with r (handed_out e.answers) (handed_to entries)))) asked ∙ found;
  address = refl;
  labels = refl;
})
told_one (ask.Hello at moment address labels) e entries asked part rest store rec found = told_hello e entries at moment address labels e.reply asked refl (rest part) store rec found
told_one (ask.Patrol moment workers) e entries asked part rest store rec found =
    let was = record_before Tombstone entries store (records_of entries) _ rec (deed_buried entries moment e.answers) found in
    told_again (e ∷ entries) store was.0 rec was.2 was.3
    (told_before e entries store was.0 (ap (λ (r : Request). greets store r e.reply) asked) (ap (λ (r : Request). begun_with r (handed_out e.answers) (handed_to entries)) asked) (rest part store was.0 was.1))
told_one (ask.Ctl moment words) e entries asked part rest store rec found =
    let was = record_before Offline entries store (records_of entries) _ rec (deed_deleted entries moment words e.answers) found in
    told_again (e ∷ entries) store was.0 rec was.2 was.3
    (told_before e entries store was.0 (ap (λ (r : Request). greets store r e.reply) asked) (ap (λ (r : Request). begun_with r (handed_out e.answers) (handed_to entries)) asked) (rest part store was.0 was.1))
told_one _ e entries asked part rest store rec found =
    told_before e entries store rec (ap (λ (r : Request). greets store r e.reply) asked) (ap (λ (r : Request). begun_with r (handed_out e.answers) (handed_to entries)) asked) (rest part store rec found)

told_all : (entries : List Entry) → TermPart entries → ToldAll entries
told_all [] part = absurd part
told_all (e ∷ entries) part = told_one e.request e entries refl part (λ p. told_all entries p)

-- the state
or_none : (b : Bool) (o : Option StoreRec) → false ≡ b || is_some o → o ≡ None
or_none true o h = absurd cc
or_none false None h = refl
or_none false (Some rec) h = absurd cc

-- the state of a store that was entombed, or deleted, or neither, by its record as it was handed out
abbrev state_now : Bool → Bool → Option StoreRec → StoreState
state_now tomb gone before = buried_state tomb (deleted_state gone (state_or_up before))

abbrev InState : List Entry → List Cell → Type 0
InState entries cells = (store : ℕ) (rec : StoreRec) → record_at store (records_of entries) ≡ Some rec → rec.state ≡ state_now (is_entombed store entries) (is_deleted store entries) (record_at store (stores_told cells))

state_own : (o before : Option StoreRec) (rec : StoreRec) (t d : Bool) → rec.state ≡ Up → (is_some o ≡ false → before ≡ None) → (is_some o ≡ false → t ≡ false) → (is_some o ≡ false → d ≡ false)
    → ((known : StoreRec) → o ≡ Some known → known.state ≡ state_now t d before) → (kept_state o rec).state ≡ state_now t d before
state_own None before rec t d up none new kept known =
    up ∙ ap state_or_up (sym (none refl)) ∙ ap (λ (b : Bool). buried_state b (state_or_up before)) (sym (new refl)) ∙ ap (λ (b : Bool). buried_state t (deleted_state b (state_or_up before))) (sym (kept refl))
state_own (Some rec) before one t d up none new kept known = known rec refl

-- a store that was entombed is known
abbrev Entombed : List Entry → Type 0
Entombed entries = (store : ℕ) → is_some (record_at store (records_of entries)) ≡ false → is_entombed store entries ≡ false

hello_none : (p : Reply) (at moment : ℕ) (address : List ℕ) (labels : List Label) (recs : List StoreRec) (store : ℕ) → is_some (record_at store (greeted_by p (greeting at address labels) recs)) ≡ false → is_some (record_at store recs) ≡ false
hello_none replies.StorePut at moment address labels recs store none = by (nat_eq at store) refl
  where
    by : (t : Bool) → nat_eq at store ≡ t → is_some (record_at store recs) ≡ false
    by true is = absurd (let both : true ≡ false = sym (ap is_some (hello_own (greeting at address labels) recs store (same_number at store is))) ∙ none in cc)
    by false is = sym (ap is_some (hello_other (greeting at address labels) recs store (other_number at store is))) ∙ none
hello_none p at moment address labels recs store none = none

no_tomb : (stores : List StoreEntry) (store : ℕ) → is_some (record_at store (map (λ (entry : StoreEntry). entry.store) stores)) ≡ false → has_tombstone (state_at store stores) ≡ false
no_tomb [] store none = refl
no_tomb (entry ∷ stores) store none = by (nat_eq entry.store.id store) none (no_tomb stores store)
  where
    by : (t : Bool) → is_some (cond t (Some entry.store) (record_at store (map (λ (e : StoreEntry). e.store) stores))) ≡ false
        → (is_some (record_at store (map (λ (e : StoreEntry). e.store) stores)) ≡ false → has_tombstone (state_at store stores) ≡ false)
        → has_tombstone (option_map (λ (e : StoreEntry). e.store.state) (cond t (Some entry) (entry_at store stores))) ≡ false
    by true h rest = absurd cc
    by false h rest = rest h

either_false : (a b : Bool) → a ≡ false → b ≡ false → a || b ≡ false
either_false true b h k = absurd cc
either_false false b h k = k

entombed_one : (r : Request) (e : Entry) (entries : List Entry) → part_by r entries (TermPart entries) → (TermPart entries → Entombed entries) → (store : ℕ)
    → is_some (record_at store (records_by r e.reply (heard_of e) (part_of entries) (records_of entries))) ≡ false → entombs store r (heard_of e) (part_of entries) || is_entombed store entries ≡ false
entombed_one (ask.Term term moment) e entries part rest store none = ap (λ (es : List Entry). is_entombed store es) part
entombed_one (ask.Hello at moment address labels) e entries part rest store none = rest part store (hello_none e.reply at moment address labels (records_of entries) store none)
entombed_one (ask.Ctl moment words) e entries part rest store none = rest part store (sym (known_ctl entries moment store words e.answers) ∙ none)
entombed_one (ask.Patrol moment workers) e entries part rest store none =
    either_false _ (is_entombed store entries) (no_tomb (deed_of (patrol_of (part_of entries) moment) (part_of entries) moment e.answers).stores store none) (rest part store (sym (known_patrol entries moment store e.answers) ∙ none))
entombed_one _ e entries part rest store none = rest part store none

entombed_all : (entries : List Entry) → TermPart entries → Entombed entries
entombed_all [] part = absurd part
entombed_all (e ∷ entries) part = entombed_one e.request e entries part (λ p. entombed_all entries p)

-- so is one that was deleted
abbrev Deleted : List Entry → Type 0
Deleted entries = (store : ℕ) → is_some (record_at store (records_of entries)) ≡ false → is_deleted store entries ≡ false

no_offline : (stores : List StoreEntry) (store : ℕ) → is_some (record_at store (map (λ (entry : StoreEntry). entry.store) stores)) ≡ false → has_offline (state_at store stores) ≡ false
no_offline [] store none = refl
no_offline (entry ∷ stores) store none = by (nat_eq entry.store.id store) none (no_offline stores store)
  where
    by : (t : Bool) → is_some (cond t (Some entry.store) (record_at store (map (λ (e : StoreEntry). e.store) stores))) ≡ false
        → (is_some (record_at store (map (λ (e : StoreEntry). e.store) stores)) ≡ false → has_offline (state_at store stores) ≡ false)
        → has_offline (option_map (λ (e : StoreEntry). e.store.state) (cond t (Some entry) (entry_at store stores))) ≡ false
    by true h rest = absurd cc
    by false h rest = rest h

both_false : (a b : Bool) → b ≡ false → a && b ≡ false
both_false true b h = h
both_false false b h = refl

deleted_one : (r : Request) (e : Entry) (entries : List Entry) → part_by r entries (TermPart entries) → (TermPart entries → Deleted entries) → (store : ℕ)
    → is_some (record_at store (records_by r e.reply (heard_of e) (part_of entries) (records_of entries))) ≡ false → deletes store r (heard_of e) (part_of entries) || is_deleted store entries ≡ false
deleted_one (ask.Term term moment) e entries part rest store none = ap (λ (es : List Entry). is_deleted store es) part
deleted_one (ask.Hello at moment address labels) e entries part rest store none = rest part store (hello_none e.reply at moment address labels (records_of entries) store none)
deleted_one (ask.Patrol moment workers) e entries part rest store none = rest part store (sym (known_patrol entries moment store e.answers) ∙ none)
deleted_one (ask.Ctl moment words) e entries part rest store none =
    either_false _ (is_deleted store entries) (both_false (names_store store (command_told words)) _ (no_offline (deed_of (ctl_of (part_of entries) moment words) (part_of entries) moment e.answers).stores store none))
    (rest part store (sym (known_ctl entries moment store words e.answers) ∙ none))
deleted_one _ e entries part rest store none = rest part store none

deleted_all : (entries : List Entry) → TermPart entries → Deleted entries
deleted_all [] part = absurd part
deleted_all (e ∷ entries) part = deleted_one e.request e entries part (λ p. deleted_all entries p)

state_hello : (entries : List Entry) (at moment : ℕ) (address : List ℕ) (labels : List Label) (p : Reply) → TermPart entries → InState entries (handed_to entries) → (store : ℕ) (rec : StoreRec)
    → record_at store (greeted_by p (greeting at address labels) (records_of entries)) ≡ Some rec → rec.state ≡ state_now (is_entombed store entries) (is_deleted store entries) (record_at store (stores_told (handed_to entries)))
state_hello entries at moment address labels replies.StorePut part before store rec found = by (nat_eq at store) refl
  where
    by : (t : Bool) → nat_eq at store ≡ t → rec.state ≡ state_now (is_entombed store entries) (is_deleted store entries) (record_at store (stores_told (handed_to entries)))
    by true is =
        let id : at ≡ store = same_number at store is in
        let rec_is : kept_state (record_at at (records_of entries)) (greeting at address labels) ≡ rec = some_same _ rec (sym (hello_own (greeting at address labels) (records_of entries) store id) ∙ found) in
        let own = state_own (record_at at (records_of entries)) (record_at at (stores_told (handed_to entries))) (greeting at address labels) (is_entombed at entries) (is_deleted at entries) refl (λ none. or_none (list_any (is_hello at) entries) _ (sym none ∙ known_all entries part at))
        (entombed_all entries part at) (deleted_all entries part at) (before at) in
        sym (ap (λ (x : StoreRec). x.state) rec_is) ∙ own ∙ ap (λ n. state_now (is_entombed n entries) (is_deleted n entries) (record_at n (stores_told (handed_to entries)))) id
    by false is = before store rec (sym (hello_other (greeting at address labels) (records_of entries) store (other_number at store is)) ∙ found)
state_hello entries at moment address labels p part before store rec found = before store rec found

state_found : (stores : List StoreEntry) (store : ℕ) (rec : StoreRec) → record_at store (map (λ (entry : StoreEntry). entry.store) stores) ≡ Some rec → state_at store stores ≡ Some rec.state
state_found [] store rec found = absurd cc
state_found (entry ∷ stores) store rec found = by (nat_eq entry.store.id store) found (state_found stores store rec)
  where
    by : (t : Bool) → cond t (Some entry.store) (record_at store (map (λ (e : StoreEntry). e.store) stores)) ≡ Some rec → (record_at store (map (λ (e : StoreEntry). e.store) stores) ≡ Some rec → state_at store stores ≡ Some rec.state)
        → option_map (λ (e : StoreEntry). e.store.state) (cond t (Some entry) (entry_at store stores)) ≡ Some rec.state
    by true h rest = ap (λ (r : StoreRec). Some r.state) (some_same entry.store rec h)
    by false h rest = rest h

buried_or : (state : StoreState) (t : Bool) (before : StoreState) → (state ≡ Tombstone) ⊎ (state ≡ buried_state t before) → state ≡ buried_state (is_tombstone state || t) before
buried_or Tombstone t before h = refl
buried_or Up t before (inl is) = absurd cc
buried_or Up t before (inr is) = is
buried_or Offline t before (inl is) = absurd cc
buried_or Offline t before (inr is) = is

state_patrol : (entries : List Entry) (moment : ℕ) (answers : List MetaAnswer) → InState entries (handed_to entries) → (store : ℕ) (rec : StoreRec)
    → record_at store (map (λ (entry : StoreEntry). entry.store) (deed_of (patrol_of (part_of entries) moment) (part_of entries) moment answers).stores) ≡ Some rec
    → rec.state ≡ state_now (has_tombstone (state_at store (deed_of (patrol_of (part_of entries) moment) (part_of entries) moment answers).stores) || is_entombed store entries) (is_deleted store entries) (record_at store (stores_told (handed_to entries)))
state_patrol entries moment answers before store rec found =
    let was = record_before Tombstone entries store (records_of entries) _ rec (deed_buried entries moment answers) found in
    let old = before store was.0 was.1 in
    let at : has_tombstone (state_at store (deed_of (patrol_of (part_of entries) moment) (part_of entries) moment answers).stores) ≡ is_tombstone rec.state = ap has_tombstone (state_found _ store rec found) in
    let one : (rec.state ≡ Tombstone) ⊎ (rec.state ≡ state_now (is_entombed store entries) (is_deleted store entries) (record_at store (stores_told (handed_to entries)))) =
    elim was.4 [ inl same ↦ inr (ap (λ (r : StoreRec). r.state) same ∙ old) | inr tomb ↦ inl tomb ] in
    buried_or rec.state (is_entombed store entries) (deleted_state (is_deleted store entries) (state_or_up (record_at store (stores_told (handed_to entries))))) one
    ∙ ap (λ (b : Bool). state_now (b || is_entombed store entries) (is_deleted store entries) (record_at store (stores_told (handed_to entries)))) (sym at)

-- the state once a command of pd-ctl left the store as it was
same_state : (n : Bool) (state : StoreState) (t d : Bool) (before : StoreState) → state ≡ buried_state t (deleted_state d before) → state ≡ buried_state t (deleted_state (n && is_offline state || d) before)
same_state false state t d before h = h
same_state true Up t d before h = h
same_state true Tombstone t d before h = h
same_state true Offline false d before h = refl
same_state true Offline true d before h = absurd cc

-- once it deleted it
gone_state : (state was : StoreState) (t d : Bool) (before : StoreState) → state ≡ Offline → was ≡ buried_state t (deleted_state d before) → is_tombstone was ≡ false → state ≡ buried_state t (deleted_state (is_offline state || d) before)
gone_state state was true d before off is alive = absurd (let both : true ≡ false = sym (ap is_tombstone is) ∙ alive in cc)
gone_state state was false d before off is alive = off ∙ ap (λ (s : StoreState). deleted_state (is_offline s || d) before) (sym off)

some_state : (a b : StoreState) → Some a ≡ Some b → a ≡ b
some_state a b h = cc

state_ctl : (entries : List Entry) (moment : ℕ) (words : List ℕ) (answers : List MetaAnswer) → InState entries (handed_to entries) → (store : ℕ) (rec : StoreRec)
    → record_at store (map (λ (entry : StoreEntry). entry.store) (deed_of (ctl_of (part_of entries) moment words) (part_of entries) moment answers).stores) ≡ Some rec
    → rec.state ≡ state_now (is_entombed store entries) (names_store store (command_told words) && has_offline (state_at store (deed_of (ctl_of (part_of entries) moment words) (part_of entries) moment answers).stores) || is_deleted store entries) (record_at store (stores_told (handed_to entries)))
state_ctl entries moment words answers before store rec found =
    let was = record_before Offline entries store (records_of entries) _ rec (deed_deleted entries moment words answers) found in
    let old = before store was.0 was.1 in
    let at : state_at store (deed_of (ctl_of (part_of entries) moment words) (part_of entries) moment answers).stores ≡ Some rec.state = state_found _ store rec found in
    let first : state_at store (part_of entries).stores ≡ Some was.0.state = ap (option_map (λ (e : StoreEntry). e.store.state)) (entry_map (store_of entries) (λ r. refl) store (records_of entries) ∙ ap (option_map (store_of entries)) was.1) in
    by was.0 old at first (deed_left entries moment store words answers)
    ∙ ap (λ (o : Option StoreState). state_now (is_entombed store entries) (names_store store (command_told words) && has_offline o || is_deleted store entries) (record_at store (stores_told (handed_to entries)))) (sym at)
  where
    by : (was : StoreRec) → was.state ≡ state_now (is_entombed store entries) (is_deleted store entries) (record_at store (stores_told (handed_to entries)))
        → state_at store (deed_of (ctl_of (part_of entries) moment words) (part_of entries) moment answers).stores ≡ Some rec.state → state_at store (part_of entries).stores ≡ Some was.state
        → Left store (command_told words) (part_of entries).stores (deed_of (ctl_of (part_of entries) moment words) (part_of entries) moment answers).stores
        → rec.state ≡ state_now (is_entombed store entries) (names_store store (command_told words) && is_offline rec.state || is_deleted store entries) (record_at store (stores_told (handed_to entries)))
    by was old at first (inl same) =
        same_state (names_store store (command_told words)) rec.state (is_entombed store entries) (is_deleted store entries) (state_or_up (record_at store (stores_told (handed_to entries)))) (some_state rec.state was.state (sym at ∙ same ∙ first) ∙ old)
    by was old at first (inr (named, off, alive)) =
        gone_state rec.state was.state (is_entombed store entries) (is_deleted store entries) (state_or_up (record_at store (stores_told (handed_to entries)))) (some_state rec.state Offline (sym at ∙ off)) old (ap has_tombstone (sym first) ∙ alive)
        ∙ ap (λ (n : Bool). state_now (is_entombed store entries) (n && is_offline rec.state || is_deleted store entries) (record_at store (stores_told (handed_to entries)))) (sym named)

state_one : (r : Request) (e : Entry) (entries : List Entry) → part_by r entries (TermPart entries) → (TermPart entries → InState entries (handed_to entries)) → (store : ℕ) (rec : StoreRec)
    → record_at store (records_by r e.reply (heard_of e) (part_of entries) (records_of entries)) ≡ Some rec
    → rec.state ≡ state_now (entombs store r (heard_of e) (part_of entries) || is_entombed store entries) (deletes store r (heard_of e) (part_of entries) || is_deleted store entries) (record_at store (stores_told (begun_with r (handed_out e.answers) (handed_to entries))))
state_one (ask.Term term moment) e entries part rest store rec found =
    ap state_or_up (sym found) ∙ ap (λ (es : List Entry). state_now (is_entombed store es) (is_deleted store es) (record_at store (stores_told (handed_out e.answers)))) (sym part)
state_one (ask.Hello at moment address labels) e entries part rest store rec found = state_hello entries at moment address labels e.reply part (rest part) store rec found
state_one (ask.Patrol moment workers) e entries part rest store rec found = state_patrol entries moment e.answers (rest part) store rec found
state_one (ask.Ctl moment words) e entries part rest store rec found = state_ctl entries moment words e.answers (rest part) store rec found
state_one _ e entries part rest store rec found = rest part store rec found

state_all : (entries : List Entry) → TermPart entries → InState entries (handed_to entries)
state_all [] part = absurd part
state_all (e ∷ entries) part = state_one e.request e entries part (λ p. state_all entries p)

-- rising
abbrev Rise : List StoreRec → Type 0
Rise recs = AllPairs (λ (a b : StoreRec). a.id < b.id) recs

pairs_append : {X : Type 0} (R : X → X → Type 0) (xs ys : List X) → AllPairs R xs → AllPairs R ys → ((i j : ℕ) (d : X) → i < length xs → j < length ys → R (get_or xs i d) (get_or ys j d)) → AllPairs R (xs ++ ys)
pairs_append R [] ys one two cross = two
pairs_append R (x ∷ xs) ys one two cross =
    AllPairs-cons R x (xs ++ ys) (All-append (R x) xs ys (λ k d low. one 0 (suc k) d (omega arith) (omega arith)) (λ k d low. cross 0 k d (omega arith) low))
    (pairs_append R xs ys (λ i j d less low. one (suc i) (suc j) d (omega arith) (omega arith)) two (λ i j d low high. cross (suc i) j d (omega arith) high))

rise_with : (rec : StoreRec) (recs : List StoreRec) → Rise recs → Rise (with_record rec recs)
rise_with rec recs rise =
    pairs_append (λ (a b : StoreRec). a.id < b.id) (filter (λ one. nat_lt one.id rec.id) recs) (rec ∷ (filter (λ one. nat_lt rec.id one.id) recs)) (AllPairs-filter (λ (a b : StoreRec). a.id < b.id) (λ one. nat_lt one.id rec.id) recs rise)
    (AllPairs-cons (λ (a b : StoreRec). a.id < b.id) rec (filter (λ one. nat_lt rec.id one.id) recs) high (AllPairs-filter (λ (a b : StoreRec). a.id < b.id) (λ one. nat_lt rec.id one.id) recs rise)) cross
  where
    less : (a b : ℕ) → nat_lt a b ≡ true → a < b
    less a b h = grind (arith, nat_tests)

    high : All (λ one. rec.id < one.id) (filter (λ one. nat_lt rec.id one.id) recs)
    high k d low = less rec.id _ (filter_passes (λ one. nat_lt rec.id one.id) recs k d low)

    cross : (i j : ℕ) (d : StoreRec) → i < length (filter (λ one. nat_lt one.id rec.id) recs) → j < length (rec ∷ (filter (λ one. nat_lt rec.id one.id) recs)) → (get_or (filter (λ one. nat_lt one.id rec.id) recs) i d).id < (get_or (rec ∷ (filter (λ one. nat_lt rec.id one.id) recs)) j d).id
    cross i zero d low within = less _ rec.id (filter_passes (λ one. nat_lt one.id rec.id) recs i d low)
    cross i (suc j) d low within =
        let one = less (get_or (filter (λ one. nat_lt one.id rec.id) recs) i d).id rec.id (filter_passes (λ one. nat_lt one.id rec.id) recs i d low) in
        let two = high j d (omega arith) in
        omega (arith, one, two)

rise_more : (o : Option StoreRec) (recs : List StoreRec) → Rise recs → Rise (store_more o recs)
rise_more None recs rise = rise
rise_more (Some rec) recs rise = by (nat_le MOST_STORES (length recs))
  where
    by : (t : Bool) → Rise (cond t recs (with_record rec recs))
    by true = rise
    by false = rise_with rec recs rise

rise_told : (cells : List Cell) (recs : List StoreRec) → Rise recs → Rise (fold (λ (recs : List StoreRec) (cell : Cell). store_more (store_in cell) recs) recs cells)
rise_told [] recs rise = rise
rise_told (cell ∷ cells) recs rise = rise_told cells (store_more (store_in cell) recs) (rise_more (store_in cell) recs rise)

rise_ids : (state : StoreState) (es : List Entry) (recs : List StoreRec) (stores : List StoreEntry) → AreRestated state (map (store_of es) recs) stores → map (λ (r : StoreRec). r.id) (map (λ (entry : StoreEntry). entry.store) stores) ≡ map (λ (r : StoreRec). r.id) recs
rise_ids state es [] [] h = refl
rise_ids state es [] (entry ∷ stores) h = absurd h
rise_ids state es (rec ∷ recs) [] h = absurd h
rise_ids state es (rec ∷ recs) (entry ∷ stores) h = λ i. id_is state es rec entry h.0 i ∷ rise_ids state es recs stores h.1 i

id_at : (recs : List StoreRec) (i : ℕ) (d : StoreRec) (n : ℕ) → i < length recs → get_or (map (λ (r : StoreRec). r.id) recs) i n ≡ (get_or recs i d).id
id_at [] i d n low = absurd (omega arith)
id_at (rec ∷ recs) zero d n low = refl
id_at (rec ∷ recs) (suc i) d n low = id_at recs i d n (omega arith)

count_ids : (recs : List StoreRec) → length (map (λ (r : StoreRec). r.id) recs) ≡ length recs
count_ids [] = refl
count_ids (rec ∷ recs) = let rest = count_ids recs in omega (arith, rest)

rise_by : (recs others : List StoreRec) → map (λ (r : StoreRec). r.id) recs ≡ map (λ (r : StoreRec). r.id) others → Rise others → Rise recs
rise_by recs others same rise = λ i j d less low.
    let count : length recs ≡ length others = sym (count_ids recs) ∙ ap length same ∙ count_ids others in
    let high : j < length others = omega (arith, count, low) in
    let one : (get_or recs i d).id ≡ (get_or others i d).id = sym (id_at recs i d 0 (omega (arith, less, low))) ∙ ap (λ (l : List ℕ). get_or l i 0) same ∙ id_at others i d 0 (omega (arith, less, high)) in
    let two : (get_or recs j d).id ≡ (get_or others j d).id = sym (id_at recs j d 0 low) ∙ ap (λ (l : List ℕ). get_or l j 0) same ∙ id_at others j d 0 high in
    let pair = rise i j d less high in
    omega (arith, one, two, pair)

rise_one : (r : Request) (p : Reply) (known : Heard) (es : List Entry) (recs : List StoreRec) → recs ≡ records_of es → Rise recs → Rise (records_by r p known (part_of es) recs)
rise_one (ask.Term term moment) p known es recs is rise = rise_told (handed_out known.answers) [] (λ i j d less low. absurd (omega arith))
rise_one (ask.Hello at moment address labels) replies.StorePut known es recs is rise = rise_with (kept_state (record_at at recs) (greeting at address labels)) recs rise
rise_one (ask.Hello at moment address labels) p known es recs is rise = rise
rise_one (ask.Patrol moment workers) p known es recs is rise =
    rise_by (map (λ (entry : StoreEntry). entry.store) (deed_of (patrol_of (part_of es) moment) (part_of es) moment known.answers).stores) recs
    (rise_ids Tombstone es (records_of es) _ (deed_buried es moment known.answers) ∙ ap (map (λ (r : StoreRec). r.id)) (sym is)) rise
rise_one (ask.Ctl moment words) p known es recs is rise =
    rise_by (map (λ (entry : StoreEntry). entry.store) (deed_of (ctl_of (part_of es) moment words) (part_of es) moment known.answers).stores) recs
    (rise_ids Offline es (records_of es) _ (deed_deleted es moment words known.answers) ∙ ap (map (λ (r : StoreRec). r.id)) (sym is)) rise
rise_one r p known es recs is rise = rise

rise_all : (entries : List Entry) → Rise (records_of entries)
rise_all [] = λ i j d less low. absurd (omega arith)
rise_all (e ∷ entries) = rise_one e.request e.reply (heard_of e) entries (records_of entries) refl (rise_all entries)

mapped : (f : StoreRec → StoreEntry) (recs : List StoreRec) (k : ℕ) (d : StoreEntry) → k < length (map f recs) → (r : StoreRec) × ((e : StoreRec) → get_or recs k e ≡ r) × (get_or (map f recs) k d ≡ f r)
mapped f [] k d low = absurd (omega arith)
mapped f (r ∷ recs) zero d low = (r, λ e. refl, refl)
mapped f (r ∷ recs) (suc k) d low = mapped f recs k d (omega arith)

rising_of : (f : StoreRec → StoreEntry) → ((r : StoreRec) → (f r).store.id ≡ r.id) → (recs : List StoreRec) → Rise recs → AreRising (map f recs)
rising_of f id recs rise i j d less low =
    let (a, a_is, a_at) = mapped f recs i d (omega arith) in
    let (b, b_is, b_at) = mapped f recs j d low in
    let pair = rise i j a less (subst (λ n. j < n) (length_map f recs) low) in
    let one : (get_or (map f recs) i d).store.id ≡ (get_or recs i a).id = ap (λ (e : StoreEntry). e.store.id) a_at ∙ id a ∙ ap (λ (r : StoreRec). r.id) (sym (a_is a)) in
    let two : (get_or (map f recs) j d).store.id ≡ (get_or recs j a).id = ap (λ (e : StoreEntry). e.store.id) b_at ∙ id b ∙ ap (λ (r : StoreRec). r.id) (sym (b_is a)) in
    omega (arith, pair, one, two)
  where
    length_map : (f : StoreRec → StoreEntry) (recs : List StoreRec) → length (map f recs) ≡ length recs
    length_map f [] = refl
    length_map f (r ∷ recs) = ap suc (length_map f recs)

-- all of it
some_mapped : (o : Option StoreRec) (f : StoreRec → StoreEntry) (found : StoreEntry) → option_map f o ≡ Some found → (rec : StoreRec) × (o ≡ Some rec) × (f rec ≡ found)
some_mapped None f found h = absurd cc
some_mapped (Some rec) f found h = (rec, refl, cc)

is_some_mapped : (o : Option StoreRec) (f : StoreRec → StoreEntry) → is_some (option_map f o) ≡ is_some o
is_some_mapped None f = refl
is_some_mapped (Some rec) f = refl

pub are_known : (entries : List Entry) → TermPart entries → AreKnown entries (part_of entries).stores
are_known entries part = record {
  known = λ store. ap is_some (entry_map (store_of entries) (λ r. refl) store (records_of entries)) ∙ is_some_mapped (record_at store (records_of entries)) (store_of entries) ∙ known_all entries part store;
  told = λ store found is.
      let (rec, at, same) = some_mapped (record_at store (records_of entries)) (store_of entries) found (sym (entry_map (store_of entries) (λ r. refl) store (records_of entries)) ∙ is) in
      subst (λ (e : StoreEntry). ToldOne entries store e.store) same (told_all entries part store rec at);
  state = λ store found is.
      let (rec, at, same) = some_mapped (record_at store (records_of entries)) (store_of entries) found (sym (entry_map (store_of entries) (λ r. refl) store (records_of entries)) ∙ is) in
      subst (λ (e : StoreEntry). e.store.state ≡ state_now (is_entombed store entries) (is_deleted store entries) (record_at store (stores_told (handed_to entries)))) same (state_all entries part store rec at);
  rising = rising_of (store_of entries) (λ r. refl) (records_of entries) (rise_all entries);
}
