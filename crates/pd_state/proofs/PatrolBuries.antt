-- What a patrol leaves of the stores.
use Rattle.std.proofs.Common.{refl, ◌≡◌, ◌≢◌, ◌⊎◌, inl, inr, ℕ, suc, ◌+◌, ◌<◌, nat_eq, Bool, true, false, cond, List, [], ◌∷◌, ◌++◌, length, map, ap, sym, ◌∙◌, subst, Option, Some, None, arith}
use Rattle.std.proofs.lemmas.Bool.{cases_eq}
use Rattle.std.proofs.lemmas.Bool.Decides.{nat_tests}
use Rattle.std.proofs.lemmas.List.Elements.{All-cons, All-nil}
use Rattle.std.proofs.lemmas.List.Kept.{AllPairs-cons}
use Rattle.std.specs.List.{All, AllPairs, filter}
use Rattle.std.specs.Option.{option_map}
use Rattle.pd_types.proofs.Numbers.{same_number}
use Rattle.pd_types.specs.declared.region.RegionBeat.{RegionBeat}
use Rattle.pd_types.specs.declared.store.StoreRec.{StoreRec}
use Rattle.pd_types.specs.declared.store.StoreState.{StoreState}
use Rattle.pd_types.specs.declared.store.StoreState.TheVariants.{Offline, Tombstone, Up}
use Rattle.store_table.specs.declared.entry.StoreEntry.{StoreEntry}
use Rattle.store_table.specs.Calls.{in_state}
use Rattle.store_table.specs.Entries.{AreRising, changed, entry_at, state_at}
use Rattle.store_table.proofs.MapLemmas.{entry_changed}
use Rattle.region_tree.specs.Cover.{covers_all}
use Rattle.heartbeat.specs.Counts.{region_count}
use Rattle.meta_store.specs.declared.record.MetaVerdict.{MetaVerdict}
use Rattle.meta_store.specs.declared.record.MetaVerdict.TheVariants as verdicts
use Rattle.meta_store.specs.Stores.{store_bytes, store_key}
use Rattle.pd_state.specs.Adding.{Around, Planning}
use Rattle.pd_state.specs.Asking.{Hearing, Point, and_then, done, ended, go_on, waits, write}
use Rattle.pd_state.specs.Checking.{Burial, Deed, Round, burial_after, bury, bury_all, bury_one, first_round, grave_by, graves_in, is_grave, patrol, patrol_deed, plans_in, stopped_burial, sweep, tombstone, visit}
use Rattle.pd_state.specs.declared.patrol.Planned.{Planned}
use Rattle.pd_state.specs.Known.{is_tombstone}
use Rattle.pd_state.specs.Patrols.{AddsOperators, BuriesStores, IsBuried, MayBeBuried, Patrols, tombstones}
use Rattle.pd_state.proofs.Ends.{Ends, ends_any, ends_if, ends_map, ends_on}
use Rattle.pd_state.proofs.Graves.{Below, IsOffline, buried_others, graves_offline, graves_rise, pairs_head, pairs_rest}
use Rattle.pd_state.proofs.NextFree.{ends_is}
use Rattle.pd_state.proofs.PatrolAdds.{patrol_adds}
use Rattle.pd_state.proofs.Walks.{graves_of}

-- a store that is buried is a Tombstone
buried_state : (id : ℕ) (stores : List StoreEntry) (s : StoreState) → state_at id stores ≡ Some s → state_at id (changed id (in_state Tombstone) stores) ≡ Some Tombstone
buried_state id stores s known =
    ap (option_map (λ (entry : StoreEntry). entry.store.state)) (entry_changed id (in_state Tombstone) stores (λ e. refl)) ∙ by (entry_at id stores) known
  where
    by : (o : Option StoreEntry) → option_map (λ (entry : StoreEntry). entry.store.state) o ≡ Some s → option_map (λ (entry : StoreEntry). entry.store.state) (option_map (in_state Tombstone) o) ≡ Some Tombstone
    by None h = absurd cc
    by (Some entry) h = refl

-- the stores go on rising by id
above_all : (n id : ℕ) (stores : List StoreEntry) → All (λ (e : StoreEntry). n < e.store.id) stores → All (λ (e : StoreEntry). n < e.store.id) (changed id (in_state Tombstone) stores)
above_all n id [] h = All-nil (λ (e : StoreEntry). n < e.store.id)
above_all n id (e ∷ es) h =
    All-cons (λ (x : StoreEntry). n < x.store.id) (cond (nat_eq e.store.id id) (in_state Tombstone e) e) (changed id (in_state Tombstone) es) (by (nat_eq e.store.id id) (h 0 e (omega arith)))
    (above_all n id es (λ k d low. h (suc k) d (omega (arith, low))))
  where
    by : (t : Bool) → n < e.store.id → n < (cond t (in_state Tombstone e) e).store.id
    by true less = less
    by false less = less

same_above : (n : ℕ) (e one : StoreEntry) (es : List StoreEntry) → one.store.id ≡ e.store.id → All (λ (x : StoreEntry). e.store.id < x.store.id) es → All (λ (x : StoreEntry). one.store.id < x.store.id) es
same_above n e one es same h = subst (λ (k : ℕ). All (λ (x : StoreEntry). k < x.store.id) es) (sym same) h

kept_id : (t : Bool) (e : StoreEntry) → (cond t (in_state Tombstone e) e).store.id ≡ e.store.id
kept_id true e = refl
kept_id false e = refl

abbrev Lesser : StoreEntry → StoreEntry → Type 0
Lesser one later = one.store.id < later.store.id

rising_still : (id : ℕ) (stores : List StoreEntry) → AreRising stores → AreRising (changed id (in_state Tombstone) stores)
rising_still id [] h = h
rising_still id (e ∷ es) h =
    AllPairs-cons Lesser (cond (nat_eq e.store.id id) (in_state Tombstone e) e) (changed id (in_state Tombstone) es)
    (same_above 0 e (cond (nat_eq e.store.id id) (in_state Tombstone e) e) (changed id (in_state Tombstone) es) (kept_id (nat_eq e.store.id id) e) (above_all e.store.id id es (pairs_head Lesser e es h)))
    (rising_still id es (pairs_rest Lesser e es h))

-- one Tombstone more
abbrev is_dead : StoreEntry → Bool
is_dead entry = is_tombstone entry.store.state

unchanged : (id : ℕ) (stores : List StoreEntry) → All (λ (e : StoreEntry). id < e.store.id) stores → changed id (in_state Tombstone) stores ≡ stores
unchanged id [] h = refl
unchanged id (e ∷ es) h =
    let other : nat_eq e.store.id id ≡ false = (let less : id < e.store.id = h 0 e (omega arith) in grind (arith, nat_tests)) in
    ap (λ (t : Bool). cond t (in_state Tombstone e) e ∷ changed id (in_state Tombstone) es) other ∙ ap (λ (l : List StoreEntry). e ∷ l) (unchanged id es (λ k d low. h (suc k) d (omega (arith, low))))

count_new : (e : StoreEntry) (es : List StoreEntry) → e.store.state ≡ Offline → tombstones (in_state Tombstone e ∷ es) ≡ tombstones (e ∷ es) + 1
count_new e es off = by (is_dead e) (ap is_tombstone off)
  where
    by : (t : Bool) → t ≡ false → suc (tombstones es) ≡ length (cond t (e ∷ filter is_dead es) (filter is_dead es)) + 1
    by true h = absurd cc
    by false h = omega arith

count_rest : (e : StoreEntry) (es more : List StoreEntry) → tombstones more ≡ tombstones es + 1 → tombstones (e ∷ more) ≡ tombstones (e ∷ es) + 1
count_rest e es more h = by (is_dead e)
  where
    by : (t : Bool) → length (cond t (e ∷ filter is_dead more) (filter is_dead more)) ≡ length (cond t (e ∷ filter is_dead es) (filter is_dead es)) + 1
    by true = omega (arith, h)
    by false = omega (arith, h)

some_state : (a b : StoreState) → Some a ≡ Some b → a ≡ b
some_state a b h = cc

one_more : (id : ℕ) (stores : List StoreEntry) → AreRising stores → state_at id stores ≡ Some Offline → tombstones (changed id (in_state Tombstone) stores) ≡ tombstones stores + 1
one_more id [] h off = absurd cc
one_more id (e ∷ es) h off = by (nat_eq e.store.id id) refl off (λ rest. one_more id es (pairs_rest Lesser e es h) rest)
  where
    by : (t : Bool) → nat_eq e.store.id id ≡ t → option_map (λ (entry : StoreEntry). entry.store.state) (cond t (Some e) (entry_at id es)) ≡ Some Offline
        → (state_at id es ≡ Some Offline → tombstones (changed id (in_state Tombstone) es) ≡ tombstones es + 1) → tombstones (cond t (in_state Tombstone e) e ∷ changed id (in_state Tombstone) es) ≡ tombstones (e ∷ es) + 1
    by true is here more =
        let rest : changed id (in_state Tombstone) es ≡ es = unchanged id es (subst (λ (k : ℕ). All (λ (x : StoreEntry). k < x.store.id) es) (same_number e.store.id id is) (pairs_head Lesser e es h)) in
        ap (λ (l : List StoreEntry). tombstones (in_state Tombstone e ∷ l)) rest ∙ count_new e es (some_state e.store.state Offline here)
    by false is there more = count_rest e es (changed id (in_state Tombstone) es) (more there)

-- a part of the burials
record Digs (around : Around) (old new : Burial) : Type 0 where
  kept : (id : ℕ) → (state_at id new.stores ≡ state_at id old.stores) ⊎ IsBuried around new.stores id
  dead : (id : ℕ) → state_at id old.stores ≡ Some Tombstone → state_at id new.stores ≡ Some Tombstone
  rising : AreRising old.stores → AreRising new.stores
  count : tombstones new.stores + old.buried ≡ tombstones old.stores + new.buried
  stop : old.stopped ≡ true → new.stopped ≡ true

digs_none : (around : Around) (burial next : Burial) → next.stores ≡ burial.stores → next.buried ≡ burial.buried → (burial.stopped ≡ true → next.stopped ≡ true) → Digs around burial next
digs_none around burial next same counted stop = record {
  kept = λ id. inl (ap (state_at id) same);
  dead = λ id is. ap (state_at id) same ∙ is;
  rising = λ h. subst AreRising (sym same) h;
  count = let t : tombstones next.stores ≡ tombstones burial.stores = ap tombstones same in omega (arith, t, counted);
  stop = stop;
}

digs_then : (around : Around) (x y z : Burial) → Digs around x y → Digs around y z → Digs around x z
digs_then around x y z h k = record {
  kept = λ id. by id (h.kept id) (k.kept id);
  dead = λ id is. k.dead id (h.dead id is);
  rising = λ r. k.rising (h.rising r);
  count = let one = h.count in let two = k.count in omega (arith, one, two);
  stop = λ is. k.stop (h.stop is);
}
  where
    by : (id : ℕ) → (state_at id y.stores ≡ state_at id x.stores) ⊎ IsBuried around y.stores id → (state_at id z.stores ≡ state_at id y.stores) ⊎ IsBuried around z.stores id → (state_at id z.stores ≡ state_at id x.stores) ⊎ IsBuried around z.stores id
    by id one (inr two) = inr two
    by id (inl one) (inl two) = inl (two ∙ one)
    by id (inr one) (inl two) = inr (record { may = one.may; now = two ∙ one.now })

-- one store that may be buried, and stands as Offline still
record Buries (around : Around) (rec : StoreRec) (burial next : Burial) : Type 0 where
  digs : Digs around burial next
  others : (id : ℕ) → id ≢ rec.id → state_at id next.stores ≡ state_at id burial.stores
  done : next.stopped ≡ false → state_at rec.id next.stores ≡ Some Tombstone

accepted : (around : Around) (rec : StoreRec) (burial : Burial) (revision : ℕ) → MayBeBuried around rec.id → AreRising burial.stores → IsOffline burial.stores rec → burial.stopped ≡ false → Buries around rec burial (burial_after rec burial (verdicts.Accepted revision))
accepted around rec burial revision may rise off on = record {
  digs = record {
    kept = λ id. by id (cases_eq id rec.id);
    dead = λ id is. dies id is (cases_eq id rec.id);
    rising = rising_still rec.id burial.stores;
    count = let more = one_more rec.id burial.stores rise off in omega (arith, more);
    stop = λ is. absurd (let both : true ≡ false = sym is ∙ on in cc);
  };
  others = λ id apart. buried_others rec.id burial.stores id apart;
  done = λ is. buried_state rec.id burial.stores Offline off;
}
  where
    by : (id : ℕ) → (id ≡ rec.id) ⊎ (id ≢ rec.id) → (state_at id (changed rec.id (in_state Tombstone) burial.stores) ≡ state_at id burial.stores) ⊎ IsBuried around (changed rec.id (in_state Tombstone) burial.stores) id
    by id (inl same) = inr (subst (IsBuried around (changed rec.id (in_state Tombstone) burial.stores)) (sym same) (record { may = may; now = buried_state rec.id burial.stores Offline off }))
    by id (inr apart) = inl (buried_others rec.id burial.stores id apart)

    dies : (id : ℕ) → state_at id burial.stores ≡ Some Tombstone → (id ≡ rec.id) ⊎ (id ≢ rec.id) → state_at id (changed rec.id (in_state Tombstone) burial.stores) ≡ Some Tombstone
    dies id is (inl same) = subst (λ (k : ℕ). state_at k (changed rec.id (in_state Tombstone) burial.stores) ≡ Some Tombstone) (sym same) (buried_state rec.id burial.stores Offline off)
    dies id is (inr apart) = buried_others rec.id burial.stores id apart ∙ is

refused : (around : Around) (rec : StoreRec) (burial : Burial) → Buries around rec burial (stopped_burial burial)
refused around rec burial = record { digs = digs_none around burial (stopped_burial burial) refl refl (λ is. refl); others = λ id apart. refl; done = λ is. absurd cc }

by_verdict : (around : Around) (rec : StoreRec) (burial : Burial) (verdict : MetaVerdict) → MayBeBuried around rec.id → AreRising burial.stores → IsOffline burial.stores rec → burial.stopped ≡ false → Buries around rec burial (burial_after rec burial verdict)
by_verdict around rec burial (verdicts.Accepted revision) may rise off on = accepted around rec burial revision may rise off on
by_verdict around rec burial (verdicts.OldTerm fence) may rise off on = refused around rec burial
by_verdict around rec burial (verdicts.Conflict found) may rise off on = refused around rec burial
by_verdict around rec burial verdicts.Limit may rise off on = refused around rec burial

one_ends : (around : Around) (rec : StoreRec) (burial : Burial) (at : Hearing) → MayBeBuried around rec.id → AreRising burial.stores → IsOffline burial.stores rec → Ends Burial (Buries around rec burial) (bury_one around.term rec burial at)
one_ends around rec burial at may rise off =
    ends_if Burial (Buries around rec burial) burial.stopped (done burial) _ at
    (λ is. record { digs = digs_none around burial burial refl refl (λ s. s); others = λ id apart. refl; done = λ on. absurd (let both : true ≡ false = sym is ∙ on in cc) })
    (λ on. ends_on MetaVerdict Burial (λ v. Unit {0}) (Buries around rec burial) (λ verdict. done (burial_after rec burial verdict)) (write around.term (store_key rec.id) (store_bytes rec) at) (ends_any MetaVerdict _)
    (λ verdict then u. by_verdict around rec burial verdict may rise off on))

-- all of a list
record BuriesAll (around : Around) (recs : List StoreRec) (burial last : Burial) : Type 0 where
  digs : Digs around burial last
  each : last.stopped ≡ false → All (λ (rec : StoreRec). state_at rec.id last.stores ≡ Some Tombstone) recs

on_still : (a b : Bool) → (a ≡ true → b ≡ true) → b ≡ false → a ≡ false
on_still false b h is = refl
on_still true b h is = absurd (let both : true ≡ false = sym (h refl) ∙ is in cc)

bury_more : (around : Around) (rec : StoreRec) (recs : List StoreRec) (burial next last : Burial) → Buries around rec burial next → BuriesAll around recs next last → BuriesAll around (rec ∷ recs) burial last
bury_more around rec recs burial next last one more = record {
  digs = digs_then around burial next last one.digs more.digs;
  each = λ is. All-cons (λ (r : StoreRec). state_at r.id last.stores ≡ Some Tombstone) rec recs (more.digs.dead rec.id (one.done (on_still next.stopped last.stopped more.digs.stop is))) (more.each is);
}

apart_from : (n m : ℕ) → n < m → m ≢ n
apart_from n m less same = absurd (omega (arith, less, same))

bury_ends : (around : Around) (recs : List StoreRec) (burial : Burial) (at : Hearing) → All (λ (rec : StoreRec). MayBeBuried around rec.id) recs → AllPairs Below recs → All (IsOffline burial.stores) recs → AreRising burial.stores
    → Ends Burial (BuriesAll around recs burial) (bury around.term recs burial at)
bury_ends around [] burial at may apart off rise = record { digs = digs_none around burial burial refl refl (λ s. s); each = λ is. All-nil (λ (rec : StoreRec). state_at rec.id burial.stores ≡ Some Tombstone) }
bury_ends around (rec ∷ recs) burial at may apart off rise =
    ends_on Burial Burial (Buries around rec burial) (BuriesAll around (rec ∷ recs) burial) (λ next. bury around.term recs next) (bury_one around.term rec burial at)
    (one_ends around rec burial at (may 0 rec (omega arith)) rise (off 0 rec (omega arith)))
    (λ next then one. ends_map Burial (BuriesAll around recs next) (BuriesAll around (rec ∷ recs) burial) (bury around.term recs next then) (λ last more. bury_more around rec recs burial next last one more)
    (bury_ends around recs next then (λ k d low. may (suc k) d (omega (arith, low))) (pairs_rest Below rec recs apart)
    (λ k d low. one.others _ (apart_from _ _ (pairs_head Below rec recs apart k d low)) ∙ off (suc k) d (omega (arith, low)))
    (one.digs.rising rise)))

-- which stores those are
count_zero : (state : StoreState) (n : ℕ) → grave_by state n ≡ true → n ≡ 0
count_zero Offline n h = same_number n 0 h
count_zero Up n h = absurd cc
count_zero Tombstone n h = absurd cc

graves_empty : (held : List RegionBeat) (stores : List StoreEntry) → All (λ (grave : StoreRec). region_count grave.id held ≡ 0) (graves_of held stores)
graves_empty held [] = All-nil (λ (grave : StoreRec). region_count grave.id held ≡ 0)
graves_empty held (e ∷ es) = by (is_grave held e.store) refl (graves_empty held es)
  where
    by : (t : Bool) → is_grave held e.store ≡ t → All (λ (grave : StoreRec). region_count grave.id held ≡ 0) (graves_of held es)
        → All (λ (grave : StoreRec). region_count grave.id held ≡ 0) (map tombstone (cond t (e.store ∷ filter (is_grave held) (map (λ (entry : StoreEntry). entry.store) es)) (filter (is_grave held) (map (λ (entry : StoreEntry). entry.store) es))))
    by true is rest = All-cons (λ (grave : StoreRec). region_count grave.id held ≡ 0) (tombstone e.store) (graves_of held es) (count_zero e.store.state (region_count e.store.id held) is) rest
    by false is rest = rest

-- each store that may be buried is among them
dead_first : (stores : List StoreEntry) (e : StoreEntry) (rest : List StoreRec) (id : ℕ) → nat_eq e.store.id id ≡ true → All (λ (rec : StoreRec). state_at rec.id stores ≡ Some Tombstone) (tombstone e.store ∷ rest) → state_at id stores ≡ Some Tombstone
dead_first stores e rest id same all = subst (λ (k : ℕ). state_at k stores ≡ Some Tombstone) (same_number e.store.id id same) (all 0 (tombstone e.store) (omega arith))

grave_is : (held : List RegionBeat) (e : StoreEntry) → e.store.state ≡ Offline → region_count e.store.id held ≡ 0 → is_grave held e.store ≡ true
grave_is held e off none = ap (λ (s : StoreState). grave_by s (region_count e.store.id held)) off ∙ ap (λ (n : ℕ). nat_eq n 0) none

graves_all : (held : List RegionBeat) (stores after : List StoreEntry) (id : ℕ) → state_at id stores ≡ Some Offline → region_count id held ≡ 0 → All (λ (rec : StoreRec). state_at rec.id after ≡ Some Tombstone) (graves_of held stores) → state_at id after ≡ Some Tombstone
graves_all held [] after id off none all = absurd cc
graves_all held (e ∷ es) after id off none all =
    by (nat_eq e.store.id id) (is_grave held e.store) refl refl off all (λ there rest. graves_all held es after id there none rest)
  where
    by : (t g : Bool) → nat_eq e.store.id id ≡ t → is_grave held e.store ≡ g → option_map (λ (entry : StoreEntry). entry.store.state) (cond t (Some e) (entry_at id es)) ≡ Some Offline
        → All (λ (rec : StoreRec). state_at rec.id after ≡ Some Tombstone) (map tombstone (cond g (e.store ∷ filter (is_grave held) (map (λ (entry : StoreEntry). entry.store) es)) (filter (is_grave held) (map (λ (entry : StoreEntry). entry.store) es))))
        → (state_at id es ≡ Some Offline → All (λ (rec : StoreRec). state_at rec.id after ≡ Some Tombstone) (graves_of held es) → state_at id after ≡ Some Tombstone) → state_at id after ≡ Some Tombstone
    by true true same is here dead more = dead_first after e (graves_of held es) id same dead
    by true false same is here dead more =
        absurd (let yes : is_grave held e.store ≡ true = grave_is held e (some_state e.store.state Offline here) (ap (λ (k : ℕ). region_count k held) (same_number e.store.id id same) ∙ none) in let both : true ≡ false = sym yes ∙ is in cc)
    by false true same is there dead more = more there (λ k d low. dead (suc k) d (omega (arith, low)))
    by false false same is there dead more = more there dead

-- the whole
module _ (around : Around) (rise : AreRising around.stores) where
  abbrev fresh : Burial
  fresh = record { stores = around.stores; buried = 0; stopped = false }

  told : (covered : Bool) → covers_all around.held ≡ covered → (last : Burial) → BuriesAll around (cond covered (graves_of around.held around.stores) []) fresh last → BuriesStores around last
  told covered is last b = record {
    kept = b.digs.kept;
    all = λ on id may. by covered is id may (b.each on);
    count = let n = b.digs.count in omega (arith, n);
  }
    where
      by : (c : Bool) → covers_all around.held ≡ c → (id : ℕ) → MayBeBuried around id → All (λ (rec : StoreRec). state_at rec.id last.stores ≡ Some Tombstone) (cond c (graves_of around.held around.stores) []) → state_at id last.stores ≡ Some Tombstone
      by true c id may dead = graves_all around.held around.stores last.stores id may.offline may.empty dead
      by false c id may dead = absurd (let both : true ≡ false = sym may.covered ∙ c in cc)

  may_all : covers_all around.held ≡ true → All (λ (rec : StoreRec). MayBeBuried around rec.id) (graves_of around.held around.stores)
  may_all covered = λ k d low. record { offline = graves_offline around.held around.stores rise k d low; empty = graves_empty around.held around.stores k d low; covered = covered }

  buries_by : (covered : Bool) → covers_all around.held ≡ covered → (at : Hearing) → Ends Burial (BuriesAll around (cond covered (graves_of around.held around.stores) []) fresh) (bury around.term (cond covered (graves_of around.held around.stores) []) fresh at)
  buries_by true is at = bury_ends around (graves_of around.held around.stores) fresh at (may_all is) (graves_rise around.held around.stores rise) (graves_offline around.held around.stores rise) rise
  buries_by false is at = bury_ends around [] fresh at (All-nil (λ (rec : StoreRec). MayBeBuried around rec.id)) (λ i j d less low. absurd (omega arith)) (All-nil (IsOffline around.stores)) rise

  pub all_buried : (at : Hearing) → Ends Burial (BuriesStores around) (bury_all around at)
  all_buried at = ends_map Burial (BuriesAll around (graves_in around) fresh) (BuriesStores around) (bury_all around at) (λ last b. told (covers_all around.held) refl last b) (buries_by (covers_all around.held) refl at)

  patrol_ends : (before : Planning) (at : Hearing) → Ends Deed (Patrols around before) (patrol around before at)
  patrol_ends before at =
      ends_on Round Deed (AddsOperators around before) (Patrols around before) _ (sweep around (plans_in around) (first_round before) at) (patrol_adds around before at)
      (λ round then adds. ends_on Burial Deed (BuriesStores around) (Patrols around before) (λ burial. done (patrol_deed around round burial)) (bury_all around then) (all_buried then)
      (λ burial last buries. record { round = round; burial = burial; adds = adds; buries = buries; told = refl }))

  pub patrols : (before : Planning) (at then : Hearing) (deed : Deed) → patrol around before at ≡ ended deed then → Patrols around before deed
  patrols before at then deed is = ends_is Deed (Patrols around before) (patrol around before at) deed then is (patrol_ends before at)

-- the plans are carried out in their order
in_order : (around : Around) (front back : List Planned) (point : Point Round) → ((next : Round) (then : Hearing) → sweep around (front ++ back) next then ≡ and_then (sweep around front next) (λ last. sweep around back last) then)
    → go_on (λ next. sweep around (front ++ back) next) point ≡ go_on (λ last. sweep around back last) (go_on (λ next. sweep around front next) point)
in_order around front back (ended next then) rest = rest next then
in_order around front back (waits call) rest = refl

pub sweep_order : (around : Around) (front back : List Planned) (round : Round) (at : Hearing) → sweep around (front ++ back) round at ≡ and_then (sweep around front round) (λ last. sweep around back last) at
sweep_order around [] back round at = refl
sweep_order around (one ∷ front) back round at = in_order around front back (visit around one round at) (λ next then. sweep_order around front back next then)
