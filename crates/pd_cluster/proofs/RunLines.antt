-- Each line of a script is one actor's, and what the runner is handed are the lines of all actors.
use Rattle.std.proofs.Common.{◌≡◌, ℕ, ◌<◌, ◌≤◌, zero, suc, Bool, true, false, cond, eqb, List, [], ◌∷◌, ◌++◌, length, map, get_or, filter, refl, sym, ap, subst, ◌∙◌, arith, Option, Some, None}
use Rattle.std.specs.Prelude.{◌==◌, All, AllPairs, Contains, flat_map}
use Rattle.std.specs.List.{AllByRecursion, cons_option}
use Rattle.std.specs.List.Sorted.{IsStrictlyIncreasing}
use Rattle.std.specs.Vec.{vec_items}
use Rattle.std.proofs.lemmas.Bool.{eqb-true}
use Rattle.std.proofs.lemmas.List.{append-nil, append_assoc, get_or_default}
use Rattle.std.proofs.lemmas.List.Elements.{All-append, All-contains, All-from_recursion, Contains-get_or, Contains-append_left, Contains-append_right, recursion_from_All}
use Rattle.std.proofs.lemmas.List.Kept.{AllPairs-from_increasing}
use mathlib.Core.Option.{some}
use lib.ListN.{get_elem?}
use Rattle.pd_turn.specs.Turns.{AreApart}
use Rattle.pd_types.specs.declared.oracle.Actor.{Actor}
use Rattle.pd_types.specs.declared.oracle.Actor.TheVariants.{Driver as ByDriver, Client as ByClient, Store as ByStore}
use Rattle.pd_types.specs.declared.request.Request.{Request}
use Rattle.pd_types.specs.declared.request.Request.TheVariants.{Hello, Alive, Beat}
use Rattle.pd_script.specs.Formed.{IsAsked}
use Rattle.pd_script.specs.Lawful.{AreLawful, IsFormed, IsLawful, IsLawfulScript, actor_in, standing_of}
use Rattle.pd_script.specs.Scripts.{asker, store_by}
use Rattle.pd_script.specs.Table.{is_misplaced}
use Rattle.pd_script.specs.declared.act.Act.{Act}
use Rattle.pd_script.specs.declared.act.Act.TheVariants.{Cell, Lead, Tick, Resign, Take, Tell, Hear, Read, Campaign, Save, Raise, Publish, Probe, Look, Arm, Draw, Ask, Pop}
use Rattle.pd_script.specs.declared.act.Line.{Line}
use Rattle.pd_script.specs.declared.script.Mode.TheVariants.{Run as OnThreads}
use Rattle.pd_script.specs.declared.script.Script.{Script}
use Rattle.tso_model.specs.declared.view.Setup.{Setup}
use Rattle.tso_run.specs.Lines.{IsCall}
use Rattle.tso_run.specs.declared.line.ClientLine.{ClientLine}
use Rattle.pd_run.specs.declared.line.DriverLine.{DriverLine}
use Rattle.pd_run.specs.declared.line.StoreLine.{StoreLine}
use Rattle.pd_run.specs.declared.line.StoreLines.{StoreLines}
use Rattle.pd_run.specs.declared.line.Tasks.{Tasks}
use Rattle.pd_run.specs.Runs.{AnswersTasks, Run, lines_of}
use Rattle.pd_run.specs.Tasks.{AreTasks, GoesTo}
use Rattle.pd_cluster.specs.Dealing.{Deals, HasDealtNothing, HasPlace}
use Rattle.pd_cluster.specs.Replay.{setup_of}
use Rattle.pd_cluster.specs.RunLines.{AnswersScript, AreActing, AreOf, AreShared, IsActed, IsAmong, asked_by, ids_of, lines_by, lines_of_clients, lines_of_driver, lines_of_store, lines_of_stores, of_client, of_driver, of_store, own_of, script_line_of_client, script_line_of_driver, script_line_of_store}
use Rattle.pd_cluster.specs.declared.run_lines.Dealt.{Dealt}
use Rattle.pd_cluster.proofs.Dealing.{IsDealt, IsFor, begins_so, deals_more, drivers_length, has_place, ids_are, same_ids}
use Rattle.pd_cluster.proofs.Histories.{all_asked}

-- EACH LINE IS ONE ACTOR'S: a line in front of others
abbrev line_of : ℕ → Act → Line
line_of n act = record { number = n; actor = actor_in act; act = act }

-- a line is that of its number and act
whole_line : (line : Line) → line.actor ≡ actor_in line.act → line_of line.number line.act ≡ line
whole_line line is = ap (λ (actor : Option Actor). let l : Line = record { number = line.number; actor = actor; act = line.act } in l) (sym is)

-- Who asks a request: a store, whose id is above 0 where the request has its form, or the driver itself
by_asker : (d : ℕ) (request : Request) (P : Actor → Type 0) → ((s : ℕ) → asker d request ≡ ByStore s → (IsAsked request → 0 < s) → P (ByStore s)) → P (ByDriver d) → P (asker d request)
by_asker d (Hello store moment address labels) P by_store by_driver = by_store store refl (λ asked. asked.0.id.some)
by_asker d (Alive store moment) P by_store by_driver = by_store store refl (λ asked. asked.id.some)
by_asker d (Beat store moment beat) P by_store by_driver = by_store store refl (λ asked. asked.0.id.some)
by_asker d _ P by_store by_driver = by_driver

-- an element in front of a list, where a test passes, and its image
image : {A B : Type 0} (f : A → B) (x : A) (y : B) (xs : List A) (ys : List B) (test : Bool) → (test ≡ true → f x ≡ y) → map f xs ≡ ys → map f (cons_option (cond test (Some x) None) xs) ≡ cond test (y ∷ ys) ys
image f x y xs ys true one same = λ i. one refl i ∷ same i
image f x y xs ys false one same = same

-- an element in front of a list that goes through a test, and its image
both : {A B : Type 0} (f : A → B) (x : A) (xs : List A) (ys : List B) (test : Bool) → map f xs ≡ ys → map f (cond test (x ∷ xs) xs) ≡ cond test (f x ∷ ys) ys
both f x xs ys true same = ap (λ zs. f x ∷ zs) same
both f x xs ys false same = same

-- a driver's lines
abbrev Driven : ℕ → List Line → Type 0
Driven d lines = map (script_line_of_driver d) (lines_of_driver d lines) ≡ lines_by (ByDriver d) lines

driven : (d e n : ℕ) (act : ℕ → Act) (l : DriverLine) (lines : List Line) → ((k : ℕ) → script_line_of_driver k l ≡ record { number = n; actor = Some (ByDriver k); act = act k }) → Driven d lines
    → map (script_line_of_driver d) (cons_option (cond (eqb e d) (Some l) None) (lines_of_driver d lines)) ≡ cond (eqb e d) (record { number = n; actor = Some (ByDriver e); act = act e } ∷ lines_by (ByDriver d) lines) (lines_by (ByDriver d) lines)
driven d e n act l lines one same =
    let at : ℕ → Line = λ (k : ℕ). record { number = n; actor = Some (ByDriver k); act = act k } in
    image (script_line_of_driver d) l (at e) (lines_of_driver d lines) (lines_by (ByDriver d) lines) (eqb e d) (λ is. one d ∙ ap at (sym (eqb-true e d is))) same

ask_driven : (d n e : ℕ) (request : Request) (lines : List Line) → Driven d lines → Driven d (line_of n (Ask e request) ∷ lines)
ask_driven d n e request lines same = by_asker e request
    (λ who. map (script_line_of_driver d) (cons_option (of_driver d (asked_by n e request who)) (lines_of_driver d lines)) ≡ lines_by (ByDriver d) (record { number = n; actor = Some who; act = Ask e request } ∷ lines))
    (λ s is above. same) (driven d e n (λ (k : ℕ). Ask k request) _ lines (λ k. refl) same)

front_driven : (d n : ℕ) (act : Act) (first : Bool) (lines : List Line) → is_misplaced OnThreads first (standing_of act) ≡ false → Driven d lines → Driven d (line_of n act ∷ lines)
front_driven d n (Cell saved term) first lines placed same = same
front_driven d n (Lead e now) first lines placed same = driven d e n (λ (k : ℕ). Lead k now) _ lines (λ k. refl) same
front_driven d n (Tick e now) first lines placed same = driven d e n (λ (k : ℕ). Tick k now) _ lines (λ k. refl) same
front_driven d n (Resign e) first lines placed same = driven d e n (λ (k : ℕ). Resign k) _ lines (λ k. refl) same
front_driven d n (Take c e m) first lines placed same = same
front_driven d n (Tell c to) first lines placed same = same
front_driven d n (Hear c) first lines placed same = same
front_driven d n (Ask e request) first lines placed same = ask_driven d n e request lines same
front_driven d n (Pop s e) first lines placed same = same
front_driven d n _ first lines placed same = absurd (cc placed)

-- a client's lines
abbrev Called : ℕ → List Line → Type 0
Called c lines = map script_line_of_client (filter (λ (l : ClientLine). l.client == c) (lines_of_clients lines)) ≡ lines_by (ByClient c) lines

called : (c : ℕ) (l : ClientLine) (lines : List Line) → Called c lines
    → map script_line_of_client (cond (eqb l.client c) (l ∷ filter (λ (l : ClientLine). l.client == c) (lines_of_clients lines)) (filter (λ (l : ClientLine). l.client == c) (lines_of_clients lines)))
    ≡ cond (eqb l.client c) (script_line_of_client l ∷ lines_by (ByClient c) lines) (lines_by (ByClient c) lines)
called c l lines same = both script_line_of_client l (filter (λ (l : ClientLine). l.client == c) (lines_of_clients lines)) (lines_by (ByClient c) lines) (eqb l.client c) same

ask_called : (c n e : ℕ) (request : Request) (lines : List Line) → Called c lines → Called c (line_of n (Ask e request) ∷ lines)
ask_called c n e request lines same = by_asker e request
    (λ who. map script_line_of_client (filter (λ (l : ClientLine). l.client == c) (cons_option (of_client (asked_by n e request who)) (lines_of_clients lines))) ≡ lines_by (ByClient c) (record { number = n; actor = Some who; act = Ask e request } ∷ lines))
    (λ s is above. same) same

front_called : (c n : ℕ) (act : Act) (first : Bool) (lines : List Line) → is_misplaced OnThreads first (standing_of act) ≡ false → Called c lines → Called c (line_of n act ∷ lines)
front_called c n (Cell saved term) first lines placed same = same
front_called c n (Lead d now) first lines placed same = same
front_called c n (Tick d now) first lines placed same = same
front_called c n (Resign d) first lines placed same = same
front_called c n (Take e d m) first lines placed same = called c _ lines same
front_called c n (Tell e to) first lines placed same = called c _ lines same
front_called c n (Hear e) first lines placed same = called c _ lines same
front_called c n (Ask d request) first lines placed same = ask_called c n d request lines same
front_called c n (Pop s d) first lines placed same = same
front_called c n _ first lines placed same = absurd (cc placed)

-- a store's lines
abbrev Acted : ℕ → List Line → Type 0
Acted s lines = map (script_line_of_store s) (lines_of_store s lines) ≡ lines_by (ByStore s) lines

acted : (s t n : ℕ) (act : ℕ → Act) (l : StoreLine) (lines : List Line) → ((k : ℕ) → script_line_of_store k l ≡ record { number = n; actor = Some (ByStore k); act = act k }) → Acted s lines
    → map (script_line_of_store s) (cons_option (cond (eqb t s) (Some l) None) (lines_of_store s lines)) ≡ cond (eqb t s) (record { number = n; actor = Some (ByStore t); act = act t } ∷ lines_by (ByStore s) lines) (lines_by (ByStore s) lines)
acted s t n act l lines one same =
    let at : ℕ → Line = λ (k : ℕ). record { number = n; actor = Some (ByStore k); act = act k } in
    image (script_line_of_store s) l (at t) (lines_of_store s lines) (lines_by (ByStore s) lines) (eqb t s) (λ is. one s ∙ ap at (sym (eqb-true t s is))) same

ask_acted : (s n e : ℕ) (request : Request) (lines : List Line) → Acted s lines → Acted s (line_of n (Ask e request) ∷ lines)
ask_acted s n e request lines same = by_asker e request
    (λ who. map (script_line_of_store s) (cons_option (of_store s (asked_by n e request who)) (lines_of_store s lines)) ≡ lines_by (ByStore s) (record { number = n; actor = Some who; act = Ask e request } ∷ lines))
    (λ t is above. acted s t n (λ (k : ℕ). Ask e request) _ lines (λ k. refl) same) same

front_acted : (s n : ℕ) (act : Act) (first : Bool) (lines : List Line) → is_misplaced OnThreads first (standing_of act) ≡ false → Acted s lines → Acted s (line_of n act ∷ lines)
front_acted s n (Cell saved term) first lines placed same = same
front_acted s n (Lead d now) first lines placed same = same
front_acted s n (Tick d now) first lines placed same = same
front_acted s n (Resign d) first lines placed same = same
front_acted s n (Take c d m) first lines placed same = same
front_acted s n (Tell c to) first lines placed same = same
front_acted s n (Hear c) first lines placed same = same
front_acted s n (Ask d request) first lines placed same = ask_acted s n d request lines same
front_acted s n (Pop t d) first lines placed same = acted s t n (λ (k : ℕ). Pop k d) _ lines (λ k. refl) same
front_acted s n _ first lines placed same = absurd (cc placed)

-- all lines
module _ (drivers clients : ℕ) (Holds : List Line → Type 0) (none : Holds [])
    (front : (n : ℕ) (act : Act) (first : Bool) (lines : List Line) → is_misplaced OnThreads first (standing_of act) ≡ false → Holds lines → Holds (line_of n act ∷ lines)) where
  all_lines : (first : Bool) (lines : List Line) → AreLawful OnThreads drivers clients first lines → AllByRecursion (λ (line : Line). line.actor ≡ actor_in line.act) lines → Holds lines
  all_lines first [] lawful actors = none
  all_lines first (line ∷ lines) lawful actors = subst (λ (l : Line). Holds (l ∷ lines)) (whole_line line actors.0) (front line.number line.act first lines lawful.0 (all_lines false lines lawful.2 actors.1))

-- WHO ACTS
module _ (drivers clients : ℕ) where
  ask_among : (stores : List ℕ) (d : ℕ) (request : Request) → (0 < d) × (d ≤ drivers) → ((s : ℕ) → Some (asker d request) ≡ Some (ByStore s) → Contains stores s) → IsAmong drivers clients stores (asker d request)
  ask_among stores d request low acts = by_asker d request (IsAmong drivers clients stores) (λ s is above. acts s (ap (λ (who : Actor). Some who) is)) low

  driver_low : (d : ℕ) → 1 ≤ d → d ≤ drivers → (0 < d) × (d ≤ drivers)
  driver_low d low high = (omega (arith, low), high)

  client_low : (c : ℕ) → 1 ≤ c → c ≤ clients → (0 < c) × (c ≤ clients)
  client_low c low high = (omega (arith, low), high)

  is_acted : (stores : List ℕ) (act : Act) → IsLawful drivers clients act → ((s : ℕ) → actor_in act ≡ Some (ByStore s) → Contains stores s) → IsActed drivers clients stores act (actor_in act)
  is_acted stores (Cell saved term) lawful acts = (saved, term, refl)
  is_acted stores (Lead d now) lawful acts = driver_low d lawful.0.low lawful.0.high
  is_acted stores (Tick d now) lawful acts = driver_low d lawful.0.low lawful.0.high
  is_acted stores (Resign d) lawful acts = driver_low d lawful.0.low lawful.0.high
  is_acted stores (Take c d n) lawful acts = client_low c lawful.0.low lawful.0.high
  is_acted stores (Tell c to) lawful acts = client_low c lawful.0.low lawful.0.high
  is_acted stores (Hear c) lawful acts = client_low c lawful.0.low lawful.0.high
  is_acted stores (Read d now) lawful acts = driver_low d lawful.0.low lawful.0.high
  is_acted stores (Campaign d) lawful acts = driver_low d lawful.0.low lawful.0.high
  is_acted stores (Save d) lawful acts = driver_low d lawful.0.low lawful.0.high
  is_acted stores (Raise d) lawful acts = driver_low d lawful.0.low lawful.0.high
  is_acted stores (Publish d) lawful acts = driver_low d lawful.0.low lawful.0.high
  is_acted stores (Probe d now) lawful acts = driver_low d lawful.0.low lawful.0.high
  is_acted stores (Look c d) lawful acts = client_low c lawful.0.low lawful.0.high
  is_acted stores (Arm c n) lawful acts = client_low c lawful.0.low lawful.0.high
  is_acted stores (Draw c) lawful acts = client_low c lawful.0.low lawful.0.high
  is_acted stores (Ask d request) lawful acts = ask_among stores d request (driver_low d lawful.0.low lawful.0.high) acts
  is_acted stores (Pop s d) lawful acts = acts s refl

  ask_for : (stores : List ℕ) (n d : ℕ) (request : Request) → (0 < d) × (d ≤ drivers) → ((s : ℕ) → Some (asker d request) ≡ Some (ByStore s) → Contains stores s) → IsFor drivers stores (asked_by n d request (asker d request))
  ask_for stores n d request low acts = by_asker d request (λ who. IsFor drivers stores (asked_by n d request who)) (λ s is above. acts s (ap (λ (who : Actor). Some who) is)) low

  is_for : (stores : List ℕ) (n : ℕ) (act : Act) → IsLawful drivers clients act → ((s : ℕ) → actor_in act ≡ Some (ByStore s) → Contains stores s) → IsFor drivers stores (own_of n act)
  is_for stores n (Lead d now) lawful acts = driver_low d lawful.0.low lawful.0.high
  is_for stores n (Tick d now) lawful acts = driver_low d lawful.0.low lawful.0.high
  is_for stores n (Resign d) lawful acts = driver_low d lawful.0.low lawful.0.high
  is_for stores n (Ask d request) lawful acts = ask_for stores n d request (driver_low d lawful.0.low lawful.0.high) acts
  is_for stores n (Pop s d) lawful acts = acts s refl
  is_for stores n _ lawful acts = tt

-- an element of one of the lists
flat_has : {A : Type 0} (f : A → List ℕ) (xs : List A) (x : A) (y : ℕ) → Contains xs x → Contains (f x) y → Contains (flat_map f xs) y
flat_has f [] x y (k, low, same) there = absurd (omega (arith, low))
flat_has f (z ∷ zs) x y (zero, low, same) there = Contains-append_left (f z) (flat_map f zs) y (subst (λ w. Contains (f w) y) (sym same) there)
flat_has f (z ∷ zs) x y (suc k, low, same) there = Contains-append_right (f z) (flat_map f zs) y (flat_has f zs x y (k, omega (arith, low), same) there)

-- a store that acts in a line is one of those that act
pub acts_among : (lines : List Line) (stores : List ℕ) (line : Line) (s : ℕ) → AreActing lines stores → Contains lines line → line.actor ≡ Some (ByStore s) → Contains stores s
acts_among lines stores line s acting has is =
    (acting.exactly s).1 (flat_has (λ (l : Line). store_by l.actor) lines line s has (subst (λ (o : Option Actor). Contains (store_by o) s) (sym is) (0, omega arith, refl)))

-- Each line of a lawful script is one actor's
pub are_shared : (script : Script) (stores : List ℕ) → IsLawfulScript OnThreads script → AreActing script.lines stores → AreShared script stores
are_shared script stores lawful acting =
    let actors = recursion_from_All (λ (line : Line). line.actor ≡ actor_in line.act) script.lines lawful.actors in
    record {
      drivers = λ d. all_lines script.drivers script.clients (Driven d) refl (front_driven d) true script.lines lawful.lines actors;
      clients = λ c. all_lines script.drivers script.clients (Called c) refl (front_called c) true script.lines lawful.lines actors;
      stores_are = λ s. all_lines script.drivers script.clients (Acted s) refl (front_acted s) true script.lines lawful.lines actors;
      acted = λ k d low.
          let line : Line = get_or script.lines k d in
          let has : Contains script.lines line = (k, low, get_or_default script.lines k line d low) in
          let is : line.actor ≡ actor_in line.act = lawful.actors k d low in
          subst (IsActed script.drivers script.clients stores line.act) (sym is)
          (is_acted script.drivers script.clients stores line.act (all_asked OnThreads script lawful k d low) (λ s same. acts_among script.lines stores line s acting has (is ∙ same)));
    }

-- WHAT THE RUNNER IS HANDED

-- the script's lines that were dealt out, those to come, and the stores that act
pub record Walks (script : Script) (dealt : Dealt) (rest : List Line) : Type 0 where
  pub done : List Line
  pub whole : script.lines ≡ done ++ rest
  pub are : IsDealt script.drivers done dealt
  pub acting : AreActing script.lines dealt.ids.items

pub walk_begins : (script : Script) (ids : List ℕ) (dealt : Dealt) (lines rest : List Line) → lines ≡ script.lines → rest ≡ script.lines → AreActing lines ids → dealt.ids.items ≡ ids → HasDealtNothing script.drivers dealt → Walks script dealt rest
walk_begins script ids dealt lines rest same from acting own nothing = record {
  done = [];
  whole = sym from;
  are = begins_so script.drivers dealt nothing;
  acting = subst (AreActing script.lines) (sym own) (subst (λ (ls : List Line). AreActing ls ids) same acting);
}

-- the next line is one of the script's
next_of : (script : Script) (dealt : Dealt) (line : Line) (rest : List Line) (w : Walks script dealt (line ∷ rest)) → Contains script.lines line
next_of script dealt line rest w = subst (λ (ls : List Line). Contains ls line) (sym w.whole) (Contains-append_right w.done (line ∷ rest) line (0, omega arith, refl))

next_for : (script : Script) → IsLawfulScript OnThreads script → (dealt : Dealt) (line : Line) (rest : List Line) → Walks script dealt (line ∷ rest) → IsFor script.drivers dealt.ids.items (own_of line.number line.act)
next_for script lawful dealt line rest w =
    let has = next_of script dealt line rest w in
    let is : line.actor ≡ actor_in line.act = All-contains (λ (l : Line). l.actor ≡ actor_in l.act) script.lines line lawful.actors has in
    is_for script.drivers script.clients dealt.ids.items line.number line.act (All-contains (λ (l : Line). IsLawful script.drivers script.clients l.act) script.lines line (all_asked OnThreads script lawful) has)
    (λ s same. acts_among script.lines dealt.ids.items line s w.acting has (is ∙ same))

pub walk_place : (script : Script) → IsLawfulScript OnThreads script → (dealt : Dealt) (line : Line) (rest : List Line) → Walks script dealt (line ∷ rest) → HasPlace dealt (own_of line.number line.act)
walk_place script lawful dealt line rest w = has_place script.drivers w.done dealt (own_of line.number line.act) w.are w.acting.rise (next_for script lawful dealt line rest w)

pub walk_more : (script : Script) → IsLawfulScript OnThreads script → (old new : Dealt) (line : Line) (rest : List Line) → Walks script old (line ∷ rest) → Deals (own_of line.number line.act) old new → Walks script new rest
walk_more script lawful old new line rest w deals = record {
  done = w.done ++ line ∷ [];
  whole = w.whole ∙ sym (append_assoc w.done (line ∷ []) rest);
  are = deals_more script.drivers w.done line (own_of line.number line.act) old new refl (next_for script lawful old line rest w) w.acting.rise deals w.are;
  acting = subst (AreActing script.lines) (sym (same_ids (own_of line.number line.act) old new deals)) w.acting;
}

-- at the end all lines were dealt out
whole_of : (script : Script) (dealt : Dealt) (w : Walks script dealt []) → script.lines ≡ w.done
whole_of script dealt w = w.whole ∙ append-nil w.done

all_dealt : (script : Script) (dealt : Dealt) → Walks script dealt [] → IsDealt script.drivers script.lines dealt
all_dealt script dealt w = subst (λ (ls : List Line). IsDealt script.drivers ls dealt) (sym (whole_of script dealt w)) w.are

pub walk_ends : (script : Script) (dealt : Dealt) (rest : List Line) → rest ≡ [] → Walks script dealt rest → AreOf script dealt.tasks
walk_ends script dealt rest over walked =
    let w : Walks script dealt [] = subst (Walks script dealt) over walked in
    let are = all_dealt script dealt w in
    let ids = ids_are script.drivers script.lines dealt are in
    record {
      drivers = are.drivers_are;
      clients = are.clients_are;
      acting = subst (AreActing script.lines) (sym ids) w.acting;
      stores = are.stores_are ∙ ap (map (λ (s : ℕ). (s, lines_of_store s script.lines))) (sym ids);
    }

-- what is asked of clients
abbrev CallOf : Setup → Option ClientLine → Type 0
CallOf k None = Unit {0}
CallOf k (Some line) = IsCall k line.ask

ask_call : (k : Setup) (n d : ℕ) (request : Request) → CallOf k (of_client (asked_by n d request (asker d request)))
ask_call k n d request = by_asker d request (λ who. CallOf k (of_client (asked_by n d request who))) (λ s is above. tt) tt

call_of : (k : Setup) (n : ℕ) (act : Act) → IsLawful k.drivers k.clients act → CallOf k (of_client (own_of n act))
call_of k n (Take c d m) lawful = (omega (arith, lawful.1.0.low), lawful.1.0.high, omega (arith, lawful.1.1.0.low), omega (arith, lawful.1.1.0.high))
call_of k n (Tell c to) lawful = (omega (arith, lawful.1.0.low), lawful.1.0.high)
call_of k n (Ask d request) lawful = ask_call k n d request
call_of k n _ lawful = tt

call_front : (k : Setup) (one : Option ClientLine) (rest : List ClientLine) → CallOf k one → AllByRecursion (λ (line : ClientLine). IsCall k line.ask) rest → AllByRecursion (λ (line : ClientLine). IsCall k line.ask) (cons_option one rest)
call_front k None rest call all = all
call_front k (Some line) rest call all = (call, all)

calls_all : (k : Setup) (lines : List Line) → AllByRecursion (λ (line : Line). IsLawful k.drivers k.clients line.act) lines → AllByRecursion (λ (line : ClientLine). IsCall k line.ask) (lines_of_clients lines)
calls_all k [] lawful = tt
calls_all k (line ∷ lines) lawful = call_front k (of_client (own_of line.number line.act)) (lines_of_clients lines) (call_of k line.number line.act lawful.0) (calls_all k lines lawful.1)

-- where the lines of stores go
module _ (drivers clients : ℕ) where
  abbrev GoOf : Option StoreLine → Type 0
  GoOf None = Unit {0}
  GoOf (Some line) = GoesTo drivers line

  go_if : (test : Bool) (line : StoreLine) → GoesTo drivers line → GoOf (cond test (Some line) None)
  go_if true line goes = goes
  go_if false line goes = tt

  ask_goes : (s n d : ℕ) (request : Request) → (0 < d) × (d ≤ drivers) → GoOf (of_store s (asked_by n d request (asker d request)))
  ask_goes s n d request low = by_asker d request (λ who. GoOf (of_store s (asked_by n d request who))) (λ t is above. go_if (eqb t s) _ low) tt

  goes_of : (s n : ℕ) (act : Act) → IsLawful drivers clients act → GoOf (of_store s (own_of n act))
  goes_of s n (Ask d request) lawful = ask_goes s n d request (driver_low drivers clients d lawful.0.low lawful.0.high)
  goes_of s n (Pop t d) lawful = go_if (eqb t s) _ (driver_low drivers clients d lawful.1.0.low lawful.1.0.high)
  goes_of s n _ lawful = tt

  go_front : (one : Option StoreLine) (rest : List StoreLine) → GoOf one → AllByRecursion (GoesTo drivers) rest → AllByRecursion (GoesTo drivers) (cons_option one rest)
  go_front None rest goes all = all
  go_front (Some line) rest goes all = (goes, all)

  go_all : (s : ℕ) (lines : List Line) → AllByRecursion (λ (line : Line). IsLawful drivers clients line.act) lines → AllByRecursion (GoesTo drivers) (lines_of_store s lines)
  go_all s [] lawful = tt
  go_all s (line ∷ lines) lawful = go_front (of_store s (own_of line.number line.act)) (lines_of_store s lines) (goes_of s line.number line.act lawful.0) (go_all s lines lawful.1)

-- the lines of each store go to drivers of the script
pub lines_go : (script : Script) → IsLawfulScript OnThreads script → (s : ℕ) → All (GoesTo script.drivers) (lines_of_store s script.lines)
lines_go script lawful s =
    All-from_recursion (GoesTo script.drivers) (lines_of_store s script.lines)
    (go_all script.drivers script.clients s script.lines (recursion_from_All (λ (line : Line). IsLawful script.drivers script.clients line.act) script.lines (all_asked OnThreads script lawful)))

abbrev pub first_of : {A : Type 0} → A → List A → A
first_of d [] = d
first_of d (x ∷ xs) = x

abbrev pub rest_of : {A : Type 0} → List A → List A
rest_of [] = []
rest_of (x ∷ xs) = xs

-- what holds of the lines of each store
all_stores : (Q : List StoreLine → Type 0) (f : ℕ → List StoreLine) → ((s : ℕ) → Q (f s)) → (stores : List StoreLines) (ids : List ℕ) → map lines_of stores ≡ map (λ (s : ℕ). (s, f s)) ids → AllByRecursion (λ (s : StoreLines). Q s.lines.items) stores
all_stores Q f each [] ids same = tt
all_stores Q f each (x ∷ xs) [] same = absurd (cc same)
all_stores Q f each (x ∷ xs) (i ∷ is) same =
    (subst Q (sym (ap (λ (ps : List (ℕ × List StoreLine)). (first_of (i, f i) ps).1) same)) (each i), all_stores Q f each xs is (ap rest_of same))

-- stores have ids above 0
abbrev IsSpeaker : Option Actor → Type 0
IsSpeaker o = AllByRecursion (λ (s : ℕ). 0 < s) (store_by o)

ask_speaks : (d : ℕ) (request : Request) → IsAsked request → IsSpeaker (Some (asker d request))
ask_speaks d request asked = by_asker d request (λ who. IsSpeaker (Some who)) (λ s is above. (above asked, tt)) tt

speaks : (drivers clients : ℕ) (act : Act) → IsLawful drivers clients act → IsFormed act → IsSpeaker (actor_in act)
speaks drivers clients (Ask d request) lawful formed = ask_speaks d request formed
speaks drivers clients (Pop s d) lawful formed = (omega (arith, lawful.0.low), tt)
speaks drivers clients _ lawful formed = tt

-- numbers that rise from 1 or more, and 0, stand once each
module _ where
  among_at : (ns : List ℕ) (n k : ℕ) → get_elem? ns k ≡ some n → (k < length ns) × (get_or ns k 0 ≡ n)
  among_at [] n k is = absurd (cc is)
  among_at (m ∷ ms) n zero is = (omega arith, cc)
  among_at (m ∷ ms) n (suc k) is = let rest = among_at ms n k is in (omega (arith, rest.0), rest.1)

  rise_rest : (n : ℕ) (ns : List ℕ) → AllPairs (λ a b. a < b) (n ∷ ns) → AllPairs (λ a b. a < b) ns
  rise_rest n ns rise i j d lt low = rise (suc i) (suc j) d (omega (arith, lt)) (omega (arith, low))

  rising_apart : (ns : List ℕ) → AllPairs (λ a b. a < b) ns → AreApart ns
  rising_apart [] rise = tt
  rising_apart (n ∷ ns) rise =
      ((λ among. let at = among_at ns n among.0 among.1 in let above : n < get_or ns among.0 0 = rise 0 (suc among.0) 0 (omega arith) (omega (arith, at.0)) in omega (arith, above, at.1)), rising_apart ns (rise_rest n ns rise))

pub apart_ids : (ids : List ℕ) → IsStrictlyIncreasing ids → All (λ (s : ℕ). 0 < s) ids → AreApart (0 ∷ ids)
apart_ids ids rise above = ((λ among. let at = among_at ids 0 among.0 among.1 in let pos : 0 < get_or ids among.0 0 = above among.0 0 at.0 in omega (arith, pos, at.1)), rising_apart ids (AllPairs-from_increasing ids rise))

-- all stores that act
speakers_all : (drivers clients : ℕ) (lines : List Line) → AllByRecursion (λ (line : Line). IsLawful drivers clients line.act) lines → AllByRecursion (λ (line : Line). IsFormed line.act) lines → AllByRecursion (λ (line : Line). line.actor ≡ actor_in line.act) lines
    → All (λ (s : ℕ). 0 < s) (flat_map (λ (line : Line). store_by line.actor) lines)
speakers_all drivers clients [] lawful formed actors = All-from_recursion (λ (s : ℕ). 0 < s) [] tt
speakers_all drivers clients (line ∷ lines) lawful formed actors =
    All-append (λ (s : ℕ). 0 < s) (store_by line.actor) (flat_map (λ (l : Line). store_by l.actor) lines)
    (All-from_recursion (λ (s : ℕ). 0 < s) (store_by line.actor) (subst IsSpeaker (sym actors.0) (speaks drivers clients line.act lawful.0 formed.0)))
    (speakers_all drivers clients lines lawful.1 formed.1 actors.1)

pub walk_tasks : (script : Script) → IsLawfulScript OnThreads script → (dealt : Dealt) (rest : List Line) → rest ≡ [] → Walks script dealt rest → AreTasks (setup_of script) dealt.tasks
walk_tasks script lawful dealt rest over walked =
    let w : Walks script dealt [] = subst (Walks script dealt) over walked in
    let are = all_dealt script dealt w in
    let ids : List ℕ = dealt.ids.items in
    let each = recursion_from_All (λ (line : Line). IsLawful script.drivers script.clients line.act) script.lines (all_asked OnThreads script lawful) in
    let speakers = speakers_all script.drivers script.clients script.lines each (recursion_from_All (λ (line : Line). IsFormed line.act) script.lines lawful.formed) (recursion_from_All (λ (line : Line). line.actor ≡ actor_in line.act) script.lines lawful.actors) in
    record {
      drivers = drivers_length script.drivers script.lines dealt are;
      calls = subst (All (λ (line : ClientLine). IsCall (setup_of script) line.ask)) (sym are.clients_are) (All-from_recursion (λ (line : ClientLine). IsCall (setup_of script) line.ask) (lines_of_clients script.lines) (calls_all (setup_of script) script.lines each));
      stores = subst (λ (xs : List ℕ). AreApart (0 ∷ xs)) (sym (ids_are script.drivers script.lines dealt are))
          (apart_ids ids w.acting.rise (λ k d low. All-contains (λ (s : ℕ). 0 < s) (flat_map (λ (line : Line). store_by line.actor) script.lines) (get_or ids k d) speakers ((w.acting.exactly (get_or ids k d)).0 (Contains-get_or ids k d low))));
      within = All-from_recursion (λ (s : StoreLines). All (GoesTo script.drivers) s.lines.items) dealt.tasks.stores.items
          (all_stores (All (GoesTo script.drivers)) (λ (s : ℕ). lines_of_store s script.lines) (lines_go script lawful) dealt.tasks.stores.items ids are.stores_are);
    }

-- THE ANSWERS: those of a run that was handed these lines are to the script's own lines
pub answers_script : (script : Script) (tasks : Tasks) (run : Run) → AreOf script tasks → run.oracle.setup ≡ setup_of script
    → AnswersTasks (map vec_items tasks.drivers.items) tasks.clients.items (map lines_of tasks.stores.items) run → AnswersScript script run
answers_script script tasks run are setup answered = record {
  setup = setup;
  stores = ids_of tasks;
  acting = are.acting;
  answered = subst (λ (ds : List (List DriverLine)). AnswersTasks ds (lines_of_clients script.lines) (lines_of_stores (ids_of tasks) script) run) are.drivers
      (subst (λ (cs : List ClientLine). AnswersTasks (map vec_items tasks.drivers.items) cs (lines_of_stores (ids_of tasks) script) run) are.clients
      (subst (λ (ss : List (ℕ × List StoreLine)). AnswersTasks (map vec_items tasks.drivers.items) tasks.clients.items ss run) are.stores answered));
}
