-- What one entry more makes of the state is what its step made of the tables.
use Rattle.std.proofs.Common.{refl, ◌≡◌, ℕ, Bool, true, false, cond, nat_eq, ◌+◌, length, List, [], ◌∷◌, ◌++◌, map, max, reverse, append_assoc, Option, Some, None, ap, sym, ◌∙◌, subst, arith}
use Rattle.std.proofs.lemmas.Bool.Decides.{nat_tests}
use Rattle.std.proofs.lemmas.List.{length-reverse, reverse-append}
use Rattle.std.specs.Option.{option_map}
use Rattle.pd_types.specs.declared.oracle.Actor.{Actor}
use Rattle.pd_types.specs.declared.step.StepMsg.{StepMsg}
use Rattle.pd_types.specs.declared.region.RegionBeat.{RegionBeat}
use Rattle.pd_types.specs.declared.request.Request.{Request}
use Rattle.pd_types.specs.declared.request.Request.TheVariants as ask
use Rattle.std.specs.Prelude.{Result}
use Rattle.pd_types.specs.declared.rule.Rule.{Rule}
use Rattle.rule_text.specs.declared.fault.RuleFault.{RuleFault}
use Rattle.pd_state.specs.StoredRules.{rule_told}
use Rattle.pd_types.specs.declared.store.Label.{Label}
use Rattle.pd_types.specs.declared.store.StoreRec.{StoreRec}
use Rattle.region_tree.specs.Standing.{table_of}
use Rattle.region_tree.proofs.Stand.{stand_more}
use Rattle.store_table.specs.declared.entry.StoreEntry.{StoreEntry}
use Rattle.store_table.specs.Live.{later}
use Rattle.store_table.specs.Calls.{heard as heard_entry}
use Rattle.store_table.specs.Entries.{entry_at, placed, state_at, changed}
use Rattle.pd_state.specs.declared.entry.Entry.{Entry}
use Rattle.pd_state.specs.declared.part.Part.{Part}
use Rattle.pd_state.specs.declared.reply.Reply.{Reply}
use Rattle.pd_state.specs.declared.reply.Reply.TheVariants as replies
use Rattle.meta_store.specs.declared.record.MetaAnswer.{MetaAnswer}
use Rattle.meta_store.specs.Asked.{AreAsked}
use Rattle.meta_store.specs.Known.{kept_of}
use Rattle.store_limit.specs.Limits.{known as known_limits}
use Rattle.pd_state.specs.declared.heard.Heard.{Heard}
use Rattle.pd_state.specs.Adding.{Around, Planning, around_at, planning_of, replanned}
use Rattle.pd_state.specs.BenchHeard.{names_heard, turns_of}
use Rattle.pd_state.specs.Calls.{next_call}
use Rattle.pd_state.specs.Checking.{deed_of, patrol_of}
use Rattle.pd_state.specs.Ctl.{ctl_of, resigns}
use Rattle.pd_state.proofs.Buried.{AreRows, ctl_rows, ctl_unknown, patrol_rows, patrol_unknown}
use Rattle.pd_state.proofs.Leaves.{reading_ctl, reading_stays, refused_check, refused_patrol, refused_schedule}
use Rattle.pd_state.specs.HandedOut.{record_at}
use Rattle.pd_state.specs.Heard.{answers_of, heard_of, known_after, known_more}
use Rattle.pd_state.specs.Replies.{alive_reply}
use Rattle.pd_state.specs.Since.{begun, since_by, since}
use Rattle.pd_state.specs.State.{clock_of, term_by, term_of, began_by, began_of, accepted_by, beats_by, beats_of, heard, heartbeat, greeting, kept_state, greeted_by, moment_of, removed_by, rules_by, rules_of, set_by, store_of, part_of, part_after, planned_beat, planned_by, planned_hello}
use Rattle.pd_state.specs.Legal.{first_reply, IsLegalAfter, IsLegal, sents_by, term_in}
use Rattle.pd_state.specs.Sends.{message}
use Rattle.pd_state.specs.declared.sent.Sent.{Sent}
use Rattle.pd_state.specs.Clusters.{is_refused, refused_by, refuses, with_clock}
use Rattle.pd_state.specs.Steps.{begun_part, greeted, put_after, heard_after, beat_after, changed_part, new_part, rules_after, standing_after, stepped, stores_after}
use Rattle.pd_state.proofs.Records.{records_of}
use Rattle.pd_state.proofs.Refusals.{kept_greeted, kept_id}
use Rattle.pd_state.proofs.Rows.{entry_map, placed_map, unknown_before, found_id}

-- an entry, by its parts
abbrev pub entry_of : Actor → List StepMsg → ℕ → Request → Heard → Reply → Entry
entry_of actor sends line request heard reply = record { actor = actor; line = line; request = request; answers = heard.answers; bench = heard.bench; names = heard.names; sends = sends; reply = reply }

-- a store that isn't known sent no heartbeat
abbrev pub Silent : List Entry → Type 0
Silent es = (store : ℕ) → record_at store (records_of es) ≡ None → heartbeat es store ≡ None

heard_own : (store moment : ℕ) (before : Option ℕ) → heard store store moment before ≡ Some (later before moment)
heard_own store moment before =
    let here : nat_eq store store ≡ true = grind (arith, nat_tests) in
    ap (λ (t : Bool). cond t (Some (later before moment)) before) here

abbrev hello_of : Actor → List StepMsg → ℕ → ℕ → ℕ → List ℕ → List Label → Heard → Reply → Entry
hello_of actor sends line store moment address labels known p = entry_of actor sends line (ask.Hello store moment address labels) known p

-- the entry of a store that says hello
hello_entry : (es : List Entry) (actor : Actor) (sends : List StepMsg) (line store moment : ℕ) (address : List ℕ) (labels : List Label) (known : Heard) (o : Option StoreRec)
    → (o ≡ None → heartbeat es store ≡ None) → ((r : StoreRec) → o ≡ Some r → r.id ≡ store)
    → greeted (option_map (store_of es) o) (greeting store address labels) (began_of es) moment
    ≡ store_of (hello_of actor sends line store moment address labels known replies.StorePut ∷ es) (kept_state o (greeting store address labels))
hello_entry es actor sends line store moment address labels known None silent id =
    let e : Some moment ≡ heard store store moment (heartbeat es store) = ap (λ (b : Option ℕ). Some (later b moment)) (sym (silent refl)) ∙ sym (heard_own store moment (heartbeat es store)) in
    ap (λ (b : Option ℕ). let x : StoreEntry = record { store = greeting store address labels; began = began_of es; beat = b } in x) e
hello_entry es actor sends line store moment address labels known (Some r) silent id =
    let e : Some (later (heartbeat es r.id) moment) ≡ heard store store moment (heartbeat es store) = ap (λ (n : ℕ). Some (later (heartbeat es n) moment)) (id r refl) ∙ sym (heard_own store moment (heartbeat es store)) in
    ap (λ (b : Option ℕ). let x : StoreEntry = record { store = record (greeting store address labels) { state = r.state }; began = began_of es; beat = b } in x) e

-- the entries of other stores stay
other_row : (t : Bool) (rec : StoreRec) (began moment : ℕ) (before : Option ℕ) → t ≡ false
    → (let x : StoreEntry = record { store = rec; began = began; beat = before } in x)
    ≡ (let x : StoreEntry = record { store = rec; began = began; beat = cond t (Some (later before moment)) before } in x)
other_row true rec began moment before h = absurd cc
other_row false rec began moment before h = refl

heard_row : (t : Bool) (rec : StoreRec) (began moment : ℕ) (before : Option ℕ)
    → cond t (let x : StoreEntry = record { store = rec; began = began; beat = Some (later before moment) } in x) (record { store = rec; began = began; beat = before })
    ≡ (let x : StoreEntry = record { store = rec; began = began; beat = cond t (Some (later before moment)) before } in x)
heard_row true rec began moment before = refl
heard_row false rec began moment before = refl

rows_hello : (es : List Entry) (actor : Actor) (sends : List StepMsg) (line store moment : ℕ) (address : List ℕ) (labels : List Label) (known : Heard) (p : Reply) → Silent es
    → put_after p (greeted (entry_at store (map (store_of es) (records_of es))) (greeting store address labels) (began_of es) moment) (map (store_of es) (records_of es))
    ≡ map (store_of (hello_of actor sends line store moment address labels known p ∷ es)) (greeted_by p (greeting store address labels) (records_of es))
rows_hello es actor sends line store moment address labels known replies.StorePut silent =
    let rec = kept_state (record_at store (records_of es)) (greeting store address labels) in
    let there = entry_map (store_of es) (λ r. refl) store (records_of es) in
    let is = ap (λ (o : Option StoreEntry). greeted o (greeting store address labels) (began_of es) moment) there
    ∙ hello_entry es actor sends line store moment address labels known (record_at store (records_of es)) (silent store) (found_id store (records_of es)) in
    let id = kept_id (record_at store (records_of es)) (greeting store address labels) in
    placed_map (store_of es) (store_of (hello_of actor sends line store moment address labels known replies.StorePut ∷ es)) (λ r. refl)
    (kept_state (record_at store (records_of es)) (greeting store address labels)) _ (ap (λ (e : StoreEntry). e.store.id) is) is
    (λ r other. other_row (nat_eq r.id store) r (began_of es) moment (heartbeat es r.id) (subst (λ (n : ℕ). nat_eq r.id n ≡ false) id other)) (records_of es)
rows_hello es actor sends line store moment address labels known p silent = refl

alive_rows : (es : List Entry) (actor : Actor) (sends : List StepMsg) (line store moment : ℕ) (known : Heard) (recs : List StoreRec)
    → changed store (heard_entry moment) (map (store_of es) recs) ≡ map (store_of (entry_of actor sends line (ask.Alive store moment) known replies.Alive ∷ es)) recs
alive_rows es actor sends line store moment known [] = refl
alive_rows es actor sends line store moment known (r ∷ recs) = λ i. heard_row (nat_eq r.id store) r (began_of es) moment (heartbeat es r.id) i ∷ alive_rows es actor sends line store moment known recs i

rows_alive : (es : List Entry) (actor : Actor) (sends : List StepMsg) (line store moment : ℕ) (known : Heard) (p : Reply)
    → heard_after p store moment (map (store_of es) (records_of es)) ≡ map (store_of (entry_of actor sends line (ask.Alive store moment) known p ∷ es)) (records_of es)
rows_alive es actor sends line store moment known replies.Alive = alive_rows es actor sends line store moment known (records_of es)
rows_alive es actor sends line store moment known p = refl

regions_is : (bs : List RegionBeat) (beat : RegionBeat) (p : Reply) → beat_after p beat (table_of bs) ≡ table_of (accepted_by p beat bs)
regions_is bs beat (replies.Accepted removed answer) = sym (stand_more beat bs)
regions_is bs beat p = refl

-- what is known after answers more
known_is : (xs ys : List MetaAnswer) → known_after xs (kept_of ys) ≡ kept_of (reverse xs ++ ys)
known_is [] ys = refl
known_is (x ∷ xs) ys = known_is xs (x ∷ ys) ∙ ap kept_of (sym (append_assoc (reverse xs) (x ∷ []) ys) ∙ ap (λ (l : List MetaAnswer). l ++ ys) (sym (reverse-append (x ∷ []) xs)))

-- the record that a hello writes goes to its own store
written : (o : Option StoreEntry) (rec : StoreRec) (began moment : ℕ) (entries : List StoreEntry) → o ≡ entry_at rec.id entries
    → greeted (entry_at (kept_state (option_map (λ (e : StoreEntry). e.store) o) rec).id entries) (kept_state (option_map (λ (e : StoreEntry). e.store) o) rec) began moment ≡ greeted o rec began moment
written o rec began moment entries is =
    ap (λ (n : ℕ). greeted (entry_at n entries) (kept_state (option_map (λ (e : StoreEntry). e.store) o) rec) began moment) (kept_id (option_map (λ (e : StoreEntry). e.store) o) rec)
    ∙ ap (λ (p : Option StoreEntry). greeted p (kept_state (option_map (λ (e : StoreEntry). e.store) o) rec) began moment) (sym is) ∙ kept_greeted o rec began moment

-- what a request makes of the tables is what its entry then says, where it is so of the term, the stores, the regions and the rules
after_by : (es : List Entry) (actor : Actor) (sends : List StepMsg) (line : ℕ) (r : Request) (known : Heard) (p : Reply) → term_of es ≡ term_by r (term_of es) → began_of es ≡ began_by r (began_of es)
    → stores_after r p known (part_of es) (began_of es) (part_of es).stores ≡ (part_of (entry_of actor sends line r known p ∷ es)).stores
    → standing_after r p (table_of (beats_of es)) ≡ table_of (beats_by r p (beats_of es)) → rules_after r p (rules_of es) ≡ rules_by r p known (rules_of es)
    → changed_part (part_of es) r p known ≡ part_of (entry_of actor sends line r known p ∷ es)
after_by es actor sends line r known p term began stores standing rules = λ i. record {
  term = term i;
  began = began i;
  clock = max (clock_of es) (moment_of r);
  stores = stores i;
  standing = standing i;
  rules = rules i;
  known = known_is known.answers (answers_of es) i;
  operators = (planned_by r p known (part_of es)).operators;
  limits = (planned_by r p known (part_of es)).limits;
  window = (planned_by r p known (part_of es)).window;
}

stores_hello : (es : List Entry) (actor : Actor) (sends : List StepMsg) (line store moment : ℕ) (address : List ℕ) (labels : List Label) (known : Heard) (p : Reply) → Silent es
    → stores_after (ask.Hello store moment address labels) p known (part_of es) (began_of es) (part_of es).stores ≡ (part_of (hello_of actor sends line store moment address labels known p ∷ es)).stores
stores_hello es actor sends line store moment address labels known p silent =
    ap (λ (e : StoreEntry). put_after p e (map (store_of es) (records_of es))) (written (entry_at store (map (store_of es) (records_of es))) (greeting store address labels) (began_of es) moment (map (store_of es) (records_of es)) refl)
    ∙ rows_hello es actor sends line store moment address labels known p silent

-- the records of entries that have what their records tell
rows_again : (es : List Entry) (stores : List StoreEntry) → AreRows es stores → stores ≡ map (store_of es) (map (λ (entry : StoreEntry). entry.store) stores)
rows_again es [] are = refl
rows_again es (entry ∷ stores) are = λ i. are.0 i ∷ rows_again es stores are.1 i

-- a command that gives the term up leaves none
ctl_by : (t : Bool) (part : Part) (es : List Entry) → part ≡ part_of es → cond t None (Some part) ≡ option_map part_of (cond t None (Some es))
ctl_by true part es is = refl
ctl_by false part es is = ap Some is

none_by : (t : Bool) → None ≡ option_map part_of (cond t None None)
none_by true = refl
none_by false = refl

-- a Term's tables are those of its entry alone
after_term : (actor : Actor) (sends : List StepMsg) (line term moment : ℕ) (known : Heard) (p : Reply) → new_part term moment known.answers ≡ part_of (entry_of actor sends line (ask.Term term moment) known p ∷ [])
after_term actor sends line term moment known p = λ i. record {
  term = term;
  began = moment;
  clock = own i;
  stores = part.stores;
  standing = [];
  rules = part.rules;
  known = known_is known.answers [] i;
  operators = part.operators;
  limits = part.limits;
  window = part.window;
}
  where
    part : Part
    part = new_part term moment known.answers

    own : moment ≡ max 0 moment
    own = omega arith

begins_by : (actor : Actor) (sends : List StepMsg) (line term moment : ℕ) (known : Heard) (p : Reply) → begun_part p term moment known.answers ≡ option_map part_of (begun p (entry_of actor sends line (ask.Term term moment) known p))
begins_by actor sends line term moment known (replies.Term number stores rules) = ap Some (after_term actor sends line term moment known (replies.Term number stores rules))
begins_by actor sends line term moment known p = refl

refines_by : (s : Option (List Entry)) (actor : Actor) (sends : List StepMsg) (line : ℕ) (r : Request) (known : Heard) (p : Reply) → ((es : List Entry) → s ≡ Some es → Silent es)
    → stepped (option_map part_of s) r p known ≡ option_map part_of (since_by r (entry_of actor sends line r known p) s)
refines_by s actor sends line (ask.Term term moment) known p silent = begins_by actor sends line term moment known p
refines_by s actor sends line ask.Retire known p silent = refl
refines_by (Some es) actor sends line (ask.Hello store moment address labels) known p silent = ap Some (after_by es actor sends line (ask.Hello store moment address labels) known p refl refl (stores_hello es actor sends line store moment address labels known p (silent es refl)) refl refl)
refines_by (Some es) actor sends line (ask.Alive store moment) known p silent = ap Some (after_by es actor sends line (ask.Alive store moment) known p refl refl (rows_alive es actor sends line store moment known p) refl refl)
refines_by (Some es) actor sends line (ask.Beat store moment beat) known p silent = ap Some (after_by es actor sends line (ask.Beat store moment beat) known p refl refl refl (regions_is (beats_of es) beat p) refl)
refines_by None actor sends line (ask.Ctl moment words) known p silent = none_by (resigns words)
refines_by None actor sends line _ known p silent = refl
refines_by (Some es) actor sends line (ask.Patrol moment workers) known p silent = ap Some (after_by es actor sends line (ask.Patrol moment workers) known p refl refl (rows_again es (deed_of (patrol_of (part_of es) moment) (part_of es) moment known.answers).stores (patrol_rows es moment known.answers)) refl refl)
refines_by (Some es) actor sends line (ask.Ctl moment words) known p silent =
    ctl_by (resigns words) (changed_part (part_of es) (ask.Ctl moment words) p known) (entry_of actor sends line (ask.Ctl moment words) known p ∷ es)
    (after_by es actor sends line (ask.Ctl moment words) known p refl refl (rows_again es (deed_of (ctl_of (part_of es) moment words) (part_of es) moment known.answers).stores (ctl_rows es moment words known.answers)) refl refl)
refines_by (Some es) actor sends line request known p silent = ap Some (after_by es actor sends line request known p refl refl refl refl refl)

-- silence, over one entry more
silent_patrol : (es : List Entry) (moment : ℕ) (known : Heard) → Silent es → (store : ℕ)
    → record_at store (map (λ (entry : StoreEntry). entry.store) (deed_of (patrol_of (part_of es) moment) (part_of es) moment known.answers).stores) ≡ None → heartbeat es store ≡ None
silent_patrol es moment known silent store none = silent store (patrol_unknown es moment store known.answers none)

silent_ctl : (es : List Entry) (moment : ℕ) (words : List ℕ) (known : Heard) → Silent es → (store : ℕ)
    → record_at store (map (λ (entry : StoreEntry). entry.store) (deed_of (ctl_of (part_of es) moment words) (part_of es) moment known.answers).stores) ≡ None → heartbeat es store ≡ None
silent_ctl es moment words known silent store none = silent store (ctl_unknown es moment store words known.answers none)

-- of a command that may give the term up
silent_kept : (t : Bool) (es fs : List Entry) → cond t None (Some es) ≡ Some fs → Silent es → Silent fs
silent_kept true es fs h silent = absurd cc
silent_kept false es fs h silent = let e : es ≡ fs = cc in subst Silent e silent

silent_none : (t : Bool) (fs : List Entry) → cond t None None ≡ Some fs → Silent fs
silent_none true fs h = absurd cc
silent_none false fs h = absurd cc

silent_hello : (es : List Entry) (actor : Actor) (sends : List StepMsg) (line store moment : ℕ) (address : List ℕ) (labels : List Label) (known : Heard) (p : Reply) → Silent es → Silent (hello_of actor sends line store moment address labels known p ∷ es)
silent_hello es actor sends line store moment address labels known replies.StorePut silent = λ other k.
    let rec = kept_state (record_at store (records_of es)) (greeting store address labels) in
    let before = unknown_before (kept_state (record_at store (records_of es)) (greeting store address labels)) other (records_of es) k in
    let apart = subst (λ (n : ℕ). nat_eq other n ≡ false) (kept_id (record_at store (records_of es)) (greeting store address labels)) before.1 in
    ap (λ (t : Bool). cond t (Some (later (heartbeat es other) moment)) (heartbeat es other)) apart ∙ silent other before.0
silent_hello es actor sends line store moment address labels known p silent = silent

-- a heartbeat of a store that isn't known isn't taken
unheard : (o : Option StoreEntry) → o ≡ None → alive_reply (option_map (λ (e : StoreEntry). e.store.state) o) ≡ replies.UnknownStore
unheard None h = refl
unheard (Some e) h = absurd cc

silent_alive : (es : List Entry) (actor : Actor) (sends : List StepMsg) (line store moment : ℕ) (known : Heard) (p : Reply) → p ≡ alive_reply (state_at store (map (store_of es) (records_of es))) → Silent es
    → Silent (entry_of actor sends line (ask.Alive store moment) known p ∷ es)
silent_alive es actor sends line store moment known replies.Alive is silent = λ other k. by_test other k (nat_eq other store) refl
  where
    by_test : (other : ℕ) → record_at other (records_of es) ≡ None → (t : Bool) → nat_eq other store ≡ t → cond t (Some (later (heartbeat es other) moment)) (heartbeat es other) ≡ None
    by_test other k true t =
        let same : other ≡ store = grind (arith, nat_tests) in
        let unknown = subst (λ (n : ℕ). record_at n (records_of es) ≡ None) same k in
        let none = unheard (entry_at store (map (store_of es) (records_of es))) (entry_map (store_of es) (λ r. refl) store (records_of es) ∙ ap (option_map (store_of es)) unknown) in
        absurd (let g : replies.Alive ≡ replies.UnknownStore = is ∙ none in cc)
    by_test other k false t = silent other k
silent_alive es actor sends line store moment known p is silent = silent

some_is : (es fs : List Entry) → Some es ≡ Some fs → Silent es → Silent fs
some_is es fs h silent = let e : es ≡ fs = cc in subst Silent e silent

silent_more : (driver : ℕ) (s : Option (List Entry)) (actor : Actor) (sends : List StepMsg) (line : ℕ) (r : Request) (known : Heard) (p : Reply) → ((es : List Entry) → s ≡ Some es → Silent es)
    → p ≡ first_reply driver (option_map part_of s) r known → (fs : List Entry) → since_by r (entry_of actor sends line r known p) s ≡ Some fs → Silent fs
silent_more driver s actor sends line (ask.Term term moment) known (replies.Term t n m) silent is fs h = some_is _ fs h (λ store k. refl)
silent_more driver s actor sends line (ask.Term term moment) known p silent is fs h = absurd cc
silent_more driver s actor sends line ask.Retire known p silent is fs h = absurd cc
silent_more driver (Some es) actor sends line (ask.Hello store moment address labels) known p silent is fs h = some_is _ fs h (silent_hello es actor sends line store moment address labels known p (silent es refl))
silent_more driver (Some es) actor sends line (ask.Alive store moment) known p silent is fs h = some_is _ fs h (silent_alive es actor sends line store moment known p is (silent es refl))
silent_more driver None actor sends line (ask.Ctl moment words) known p silent is fs h = silent_none (resigns words) fs h
silent_more driver (Some es) actor sends line (ask.Patrol moment workers) known p silent is fs h = some_is _ fs h (silent_patrol es moment known (silent es refl))
silent_more driver (Some es) actor sends line (ask.Ctl moment words) known p silent is fs h = silent_kept (resigns words) _ fs h (silent_ctl es moment words known (silent es refl))
silent_more driver None actor sends line _ known p silent is fs h = absurd cc
silent_more driver (Some es) actor sends line _ known p silent is fs h = some_is _ fs h (silent es refl)

pub silent_after : (driver : ℕ) (past : List Entry) → IsLegal driver past → (es : List Entry) → since past ≡ Some es → Silent es
silent_after driver [] legal es h = absurd cc
silent_after driver (e ∷ past) legal es h = silent_more driver (since past) e.actor e.sends e.line e.request (heard_of e) e.reply (silent_after driver past legal.1) legal.0.reply_is es h

pub refines : (driver : ℕ) (past : List Entry) (e : Entry) → IsLegal driver past → stepped (part_after past) e.request e.reply (heard_of e) ≡ part_after (e ∷ past)
refines driver past e legal = refines_by (since past) e.actor e.sends e.line e.request (heard_of e) e.reply (silent_after driver past legal)

-- a refused request leaves all but the clock, and what its answers tell
no_put : (p : Reply) (e : StoreEntry) (es : List StoreEntry) → refuses p ≡ true → put_after p e es ≡ es
no_put replies.StorePut e es h = absurd cc
no_put p e es h = refl

no_heard : (p : Reply) (store moment : ℕ) (es : List StoreEntry) → refuses p ≡ true → heard_after p store moment es ≡ es
no_heard replies.Alive store moment es h = absurd cc
no_heard p store moment es h = refl

no_beat : (p : Reply) (beat : RegionBeat) (held : List RegionBeat) → refuses p ≡ true → beat_after p beat held ≡ held
no_beat (replies.Accepted removed answer) beat held h = absurd cc
no_beat p beat held h = refl

no_set : (p : Reply) (told : Result Rule RuleFault) (rules : List Rule) → refuses p ≡ true → set_by p told rules ≡ rules
no_set replies.RulePut told rules h = absurd cc
no_set p told rules h = refl

no_removal : (p : Reply) (group id : List ℕ) (rules : List Rule) → refuses p ≡ true → removed_by p group id rules ≡ rules
no_removal replies.RuleRemoved group id rules h = absurd cc
no_removal p group id rules h = refl

no_hello : (p : Reply) (store now : ℕ) (planning : Planning) → refuses p ≡ true → planned_hello p store now planning ≡ planning
no_hello replies.StorePut store now planning h = absurd cc
no_hello p store now planning h = refl

no_planned : (p : Reply) (beat : RegionBeat) (around : Around) (planning : Planning) → refuses p ≡ true → planned_beat p beat around planning ≡ planning
no_planned (replies.Accepted removed answer) beat around planning h = absurd cc
no_planned p beat around planning h = refl

abbrev pub told_raised : Request → List MetaAnswer → Part → Part
told_raised request answers part = record part { clock = max part.clock (moment_of request); known = known_after answers part.known }

leaves_by : (driver : ℕ) (old : Option Part) (r : Request) (known : Heard) (p : Reply) → p ≡ first_reply driver old r known → refused_by r p ≡ true → stepped old r p known ≡ option_map (told_raised r known.answers) old
leaves_by driver old (ask.Term term moment) known p is h = absurd cc
leaves_by driver None _ known p is h = refl
leaves_by driver (Some part) ask.Retire known p is h = absurd (let both : refuses replies.Retired ≡ true = subst (λ (q : Reply). refuses q ≡ true) is h in cc)
leaves_by driver (Some part) (ask.Hello store moment address labels) known p is h = λ i. Some (record part {
  clock = max part.clock moment;
  known = known_after known.answers part.known;
  stores = no_put p (greeted (entry_at (kept_state (option_map (λ (entry : StoreEntry). entry.store) (entry_at store part.stores)) (greeting store address labels)).id part.stores) (kept_state (option_map (λ (entry : StoreEntry). entry.store) (entry_at store part.stores)) (greeting store address labels)) part.began moment) part.stores h i;
  operators = (no_hello p store (max part.clock moment) (planning_of part) h i).operators;
  limits = (no_hello p store (max part.clock moment) (planning_of part) h i).limits;
  window = (no_hello p store (max part.clock moment) (planning_of part) h i).window;
})
leaves_by driver (Some part) (ask.Alive store moment) known p is h =
    ap (λ (es : List StoreEntry). Some (record part { clock = max part.clock moment; known = known_after known.answers part.known; stores = es })) (no_heard p store moment part.stores h)
leaves_by driver (Some part) (ask.Beat store moment beat) known p is h = λ i. Some (record part {
  clock = max part.clock moment;
  known = known_after known.answers part.known;
  standing = no_beat p beat part.standing h i;
  operators = (no_planned p beat (around_at part moment) (planning_of part) h i).operators;
  limits = (no_planned p beat (around_at part moment) (planning_of part) h i).limits;
  window = (no_planned p beat (around_at part moment) (planning_of part) h i).window;
})
leaves_by driver (Some part) (ask.Check moment region) known p is h =
    let same = refused_check part moment region known.answers (subst (λ (q : Reply). refuses q ≡ true) is h) in
    ap (λ (planning : Planning). Some (replanned (record part { clock = max part.clock moment }) planning (known_after known.answers part.known))) same.0
leaves_by driver (Some part) (ask.Patrol moment workers) known p is h = λ i.
    let same = refused_patrol part moment known.answers (subst (λ (q : Reply). refuses q ≡ true) is h) in
    Some (replanned (record part { clock = max part.clock moment; stores = same.1 i }) (same.0 i) (known_after known.answers part.known))
leaves_by driver (Some part) (ask.Schedule moment) known p is h =
    let same = refused_schedule part moment known.bench known.answers (subst (λ (q : Reply). refuses q ≡ true) is h) in
    ap (λ (planning : Planning). Some (replanned (record part { clock = max part.clock moment }) planning (known_after known.answers part.known))) same.0
leaves_by driver (Some part) (ask.Ctl moment words) known p is h =
    let same = reading_ctl part moment words known.answers h in
    ap (λ (t : Bool). cond t None (Some (changed_part part (ask.Ctl moment words) p known))) (reading_stays words h)
    ∙ (λ i. Some (replanned (record part { clock = max part.clock moment; stores = same.1 i }) (same.0 i) (known_after known.answers part.known)))
leaves_by driver (Some part) (ask.Rule moment json) known p is h =
    ap (λ (rules : List Rule). Some (record part { clock = max part.clock moment; known = known_after known.answers part.known; rules = rules })) (no_set p (rule_told json) part.rules h)
leaves_by driver (Some part) (ask.Unrule moment group id) known p is h =
    ap (λ (rules : List Rule). Some (record part { clock = max part.clock moment; known = known_after known.answers part.known; rules = rules })) (no_removal p group id part.rules h)

-- the journal that serve leaves
pub served : (driver : ℕ) (entries after : List Entry) (e : Entry) (old new : Option Part) → after ≡ entries ++ e ∷ [] → IsLegal driver (reverse entries) → old ≡ part_after (reverse entries)
    → e.reply ≡ first_reply driver old e.request (heard_of e) → AreAsked (next_call old e.request e.bench) [] e.answers → new ≡ stepped old e.request e.reply (heard_of e)
    → length e.bench ≡ turns_of old e.request e.names → e.names ≡ names_heard e.request e.names
    → e.sends ≡ map (message driver (term_in old) (length (reverse entries) + 1)) (sents_by old e.request e.reply (heard_of e))
    → (IsLegal driver (reverse after) × (new ≡ part_after (reverse after))) × IsLegalAfter driver (reverse entries) e
served driver entries after e old new is legal holds reply_is asked steps turns names sends =
    let here : IsLegalAfter driver (reverse entries) e = record {
      reply_is = reply_is ∙ ap (λ (o : Option Part). first_reply driver o e.request (heard_of e)) holds;
      asked = subst (λ (o : Option Part). AreAsked (next_call o e.request e.bench) [] e.answers) holds asked;
      turns_are = subst (λ (o : Option Part). length e.bench ≡ turns_of o e.request e.names) holds turns;
      names_are = names;
      sends_are = subst (λ (o : Option Part). e.sends ≡ map (message driver (term_in o) (length (reverse entries) + 1)) (sents_by o e.request e.reply (heard_of e))) holds sends;
    } in
    let back : reverse after ≡ e ∷ reverse entries = ap reverse is ∙ reverse-append entries (e ∷ []) in
    let now : new ≡ part_after (e ∷ reverse entries) = steps ∙ ap (λ (o : Option Part). stepped o e.request e.reply (heard_of e)) holds ∙ refines driver (reverse entries) e legal in
    let both : IsLegal driver (e ∷ reverse entries) × (new ≡ part_after (e ∷ reverse entries)) = ((here, legal), now) in
    (subst (λ (l : List Entry). IsLegal driver l × (new ≡ part_after l)) (sym back) both, here)

-- the messages of an entry, by its number
pub sends_from : (driver : ℕ) (entries : List Entry) (old : Option Part) (term entry : ℕ) (sends : List StepMsg) (sents all : List Sent) → sends ≡ map (message driver term entry) sents → term ≡ term_in old → entry ≡ length entries + 1 → sents ≡ all
    → sends ≡ map (message driver (term_in old) (length (reverse entries) + 1)) all
sends_from driver entries old term entry sends sents all is term_is entry_is all_is =
    is ∙ ap (λ (l : List Sent). map (message driver term entry) l) all_is
    ∙ ap (λ (t : ℕ). map (message driver t entry) all) term_is
    ∙ ap (λ (n : ℕ). map (message driver (term_in old) n) all) (entry_is ∙ ap (λ (n : ℕ). n + 1) (sym (length-reverse entries)))

pub leaves : (driver : ℕ) (old new : Option Part) (e : Entry) → e.reply ≡ first_reply driver old e.request (heard_of e) → new ≡ stepped old e.request e.reply (heard_of e) → is_refused e ≡ true → new ≡ with_clock e old
leaves driver old new e reply_is steps h = steps ∙ leaves_by driver old e.request (heard_of e) e.reply reply_is h

-- a store whose record was written
pub welcomed : (old mid new : Part) (store moment : ℕ) (address : List ℕ) (labels : List Label) (rec : StoreRec) (answer : MetaAnswer) (reply : Reply) (known : Heard) → mid ≡ record old { clock = max old.clock moment }
    → rec ≡ kept_state (option_map (λ (e : StoreEntry). e.store) (entry_at store mid.stores)) (greeting store address labels) → reply ≡ replies.StorePut → known.answers ≡ answer ∷ []
    → new ≡ record mid { stores = placed (greeted (entry_at rec.id mid.stores) rec mid.began moment) mid.stores; known = known_more mid.known answer; limits = known_limits mid.limits store mid.clock } → new ≡ changed_part old (ask.Hello store moment address labels) reply known
welcomed old mid new store moment address labels rec answer reply known mid_is rec_is reply_is known_is new_is = rw (new_is, rec_is, mid_is, reply_is, known_is) refl
