-- What a check and a patrol come to over a door, by what their parts come to.
use Rattle.std.proofs.Common.{◌≡◌, ℕ, ◌+◌, ◌<◌, length, get_or, arith, Bool, true, false, cond, List, [], ◌∷◌, ◌++◌, drop, ap, sym, ◌∙◌, subst, Option, Some, None}
use Rattle.std.specs.Prelude.{Ok, Err}
use Rattle.std.proofs.lemmas.List.{drop_more}
use Rattle.pd_types.specs.declared.region.Peer.{Peer}
use Rattle.pd_types.specs.declared.region.RegionBeat.{RegionBeat}
use Rattle.pd_types.specs.declared.step.Step.{Step}
use Rattle.pd_types.specs.declared.store.StoreRec.{StoreRec}
use Rattle.meta_store.specs.declared.record.MetaAnswer.{MetaAnswer}
use Rattle.meta_store.specs.declared.record.MetaCall.{MetaCall}
use Rattle.meta_store.specs.declared.record.MetaCall.TheVariants as calls
use Rattle.meta_store.specs.declared.record.MetaVerdict.{MetaVerdict}
use Rattle.meta_store.specs.declared.record.MetaVerdict.TheVariants as verdicts
use Rattle.meta_store.specs.Asked.{AreAsked, Asks}
use Rattle.meta_store.specs.Cells.{cell_at, revision_in}
use Rattle.meta_store.specs.Stores.{store_bytes, store_key}
use Rattle.id_alloc.specs.Windows.{Window, id_call, is_spent, is_used_up, with_next, with_saved}
use Rattle.op_step.specs.Peers.{has_id}
use Rattle.op_control.specs.declared.operator.NewOp.{NewOp}
use Rattle.op_control.specs.declared.adding.AddFault.{AddFault}
use Rattle.op_control.specs.Adding.{refusal_of}
use Rattle.rule_checker.specs.declared.class.Class.{Class}
use Rattle.rule_checker.specs.Told.{Plans}
use Rattle.pd_state.specs.Adding.{Around, Drawn, Planning, Work, add_by, add_op, around_at, asks_id, draw, draw_saved, drawn, enter, entered, entered_with, free_id, left_out, pass_over, planning_of, saved_by}
use Rattle.pd_state.specs.Asking.{Asking, Ear, Point, Talks, and_then, ask, done, hearing, value_or, wanted, write}
use Rattle.pd_state.specs.Checking.{Burial, Deed, Round, burial_after, bury, bury_all, bury_one, check_op, check_told, deed_of, first_round, idle, is_busy, patrol, patrol_deed, planned, plans_in, round_after, sweep, visit}
use Rattle.pd_state.specs.Heard.{known_more}
use Rattle.pd_state.specs.declared.adding.Adding.{Adding}
use Rattle.pd_state.specs.declared.adding.Adding.TheVariants as adding
use Rattle.pd_state.specs.declared.part.Part.{Part}
use Rattle.pd_state.specs.declared.patrol.Planned.{Planned}
use Rattle.pd_state.specs.declared.reply.Reply.TheVariants as replies
use Rattle.pd_state.proofs.Asking.{talk_asked, talked, talks_ask, talks_done, talks_then}

-- of a choice
pub talks_true : (A : Type 0) (b : Bool) (one other : Asking A) (value : A) (driver : ℕ) (x y : Ear) → b ≡ true → Talks A one value driver x y → Talks A (cond b one other) value driver x y
talks_true A b one other value driver x y is t = subst (λ (c : Bool). Talks A (cond c one other) value driver x y) (sym is) t

pub talks_false : (A : Type 0) (b : Bool) (one other : Asking A) (value : A) (driver : ℕ) (x y : Ear) → b ≡ false → Talks A other value driver x y → Talks A (cond b one other) value driver x y
talks_false A b one other value driver x y is t = subst (λ (c : Bool). Talks A (cond c one other) value driver x y) (sym is) t

-- the next id
pub draw_left : (term : ℕ) (window : Window) (driver : ℕ) (e : Ear) → is_used_up window ≡ false → Talks Drawn (draw term window) (drawn (with_next window) (Ok (window.taken + 1))) driver e e
draw_left term window driver e left = talks_false Drawn (is_used_up window) (draw_saved term window) _ _ driver e e left (talks_done Drawn (drawn (with_next window) (Ok (window.taken + 1))) driver e)

pub draw_spent : (term : ℕ) (window : Window) (driver : ℕ) (e : Ear) → is_used_up window ≡ true → is_spent window ≡ true → Talks Drawn (draw term window) (drawn window (Err adding.IdsSpent)) driver e e
draw_spent term window driver e used spent =
    talks_true Drawn (is_used_up window) (draw_saved term window) _ _ driver e e used (talks_true Drawn (is_spent window) _ _ _ driver e e spent (talks_done Drawn (drawn window (Err adding.IdsSpent)) driver e))

pub draw_asked : (term : ℕ) (window : Window) (answer : MetaAnswer) (driver : ℕ) (old new : Ear) → is_used_up window ≡ true → is_spent window ≡ false → Asks old.said new.said old.told new.told driver (id_call term window) answer
    → new.answers ≡ old.answers ++ answer ∷ [] → new.known ≡ known_more old.known answer → Talks Drawn (draw term window) (saved_by window answer.verdict) driver old new
draw_asked term window answer driver old new used room asks answers known =
    talks_true Drawn (is_used_up window) (draw_saved term window) _ _ driver old new used (talks_false Drawn (is_spent window) _ _ _ driver old new room
    (talks_then MetaVerdict Drawn (ask (id_call term window)) (λ verdict. done (saved_by window verdict)) answer.verdict (saved_by window answer.verdict) driver old new new
    (talks_ask (id_call term window) answer driver old new asks answers known) (talks_done Drawn (saved_by window answer.verdict) driver new)))

-- the same, by what the calls made of the window
pub draw_took : (term : ℕ) (window next : Window) (id : ℕ) (driver : ℕ) (e : Ear) → is_used_up window ≡ false → next ≡ with_next window → id ≡ window.taken + 1 → Talks Drawn (draw term window) (drawn next (Ok id)) driver e e
draw_took term window next id driver e left next_is id_is =
    subst (λ (one : Drawn). Talks Drawn (draw term window) one driver e e) (λ i. drawn (sym next_is i) (Ok (sym id_is i))) (draw_left term window driver e left)

pub draw_heard : (term : ℕ) (window : Window) (one : Drawn) (call : MetaCall) (answer : MetaAnswer) (driver : ℕ) (old new : Ear) → is_used_up window ≡ true → is_spent window ≡ false → call ≡ id_call term window
    → Asks old.said new.said old.told new.told driver call answer → new.answers ≡ old.answers ++ answer ∷ [] → new.known ≡ known_more old.known answer → saved_by window answer.verdict ≡ one → Talks Drawn (draw term window) one driver old new
draw_heard term window one call answer driver old new used room call_is asks answers known one_is =
    subst (λ (d : Drawn). Talks Drawn (draw term window) d driver old new) one_is
    (draw_asked term window answer driver old new used room (subst (λ (c : MetaCall). Asks old.said new.said old.told new.told driver c answer) call_is asks) answers known)

pub saved_at : (window next : Window) (verdict : MetaVerdict) (revision id : ℕ) → verdict ≡ verdicts.Accepted revision → next ≡ with_saved window revision → id ≡ window.end + 1 → saved_by window verdict ≡ drawn next (Ok id)
saved_at window next verdict revision id is next_is id_is = ap (saved_by window) is ∙ (λ i. drawn (sym next_is i) (Ok (sym id_is i)))

-- the first free one
pub free_on : (peer : Peer) (more : List Peer) (beat : RegionBeat) (term : ℕ) (window next : Window) (id : ℕ) (value : Drawn) (driver : ℕ) (x y z : Ear) → Talks Drawn (draw term window) (drawn next (Ok id)) driver x y → has_id id beat ≡ true
    → Talks Drawn (free_id more beat term next) value driver y z → Talks Drawn (free_id (peer ∷ more) beat term window) value driver x z
free_on peer more beat term window next id value driver x y z s has t =
    talks_then Drawn Drawn (draw term window) (λ one. pass_over beat (free_id more beat term) one.window one.id) (drawn next (Ok id)) value driver x y z s (talks_true Drawn (has_id id beat) (free_id more beat term next) _ value driver y z has t)

pub free_found : (peer : Peer) (more : List Peer) (beat : RegionBeat) (term : ℕ) (window next : Window) (id : ℕ) (driver : ℕ) (x y : Ear) → Talks Drawn (draw term window) (drawn next (Ok id)) driver x y → has_id id beat ≡ false
    → Talks Drawn (free_id (peer ∷ more) beat term window) (drawn next (Ok id)) driver x y
free_found peer more beat term window next id driver x y s has =
    talks_then Drawn Drawn (draw term window) (λ one. pass_over beat (free_id more beat term) one.window one.id) (drawn next (Ok id)) (drawn next (Ok id)) driver x y y s
    (talks_false Drawn (has_id id beat) (free_id more beat term next) _ (drawn next (Ok id)) driver y y has (talks_done Drawn (drawn next (Ok id)) driver y))

pub free_refused : (peer : Peer) (more : List Peer) (beat : RegionBeat) (term : ℕ) (window next : Window) (why : Adding) (driver : ℕ) (x y : Ear) → Talks Drawn (draw term window) (drawn next (Err why)) driver x y
    → Talks Drawn (free_id (peer ∷ more) beat term window) (drawn next (Err why)) driver x y
free_refused peer more beat term window next why driver x y s =
    talks_then Drawn Drawn (draw term window) (λ one. pass_over beat (free_id more beat term) one.window one.id) (drawn next (Err why)) (drawn next (Err why)) driver x y y s (talks_done Drawn (drawn next (Err why)) driver y)

-- the peer that comes next
pub next_peer : (peers : List Peer) (i : ℕ) → i < length peers → (peer : Peer) × (drop i peers ≡ peer ∷ drop (i + 1) peers)
next_peer [] i low = absurd (omega (arith, low))
next_peer (peer ∷ more) i low = (get_or (peer ∷ more) i peer, drop_more (peer ∷ more) i peer low)

-- of the peers that are left
pub free_turn : (peers : List Peer) (i : ℕ) (peer : Peer) (beat : RegionBeat) (term : ℕ) (window next : Window) (id : ℕ) (value : Drawn) (driver : ℕ) (x y z : Ear) → drop i peers ≡ peer ∷ drop (i + 1) peers
    → Talks Drawn (draw term window) (drawn next (Ok id)) driver x y → has_id id beat ≡ true → Talks Drawn (free_id (drop (i + 1) peers) beat term next) value driver y z → Talks Drawn (free_id (drop i peers) beat term window) value driver x z
free_turn peers i peer beat term window next id value driver x y z at s has t =
    subst (λ (list : List Peer). Talks Drawn (free_id list beat term window) value driver x z) (sym at) (free_on peer (drop (i + 1) peers) beat term window next id value driver x y z s has t)

pub free_stop : (peers : List Peer) (i : ℕ) (peer : Peer) (beat : RegionBeat) (term : ℕ) (window next : Window) (id : ℕ) (driver : ℕ) (x y : Ear) → drop i peers ≡ peer ∷ drop (i + 1) peers → Talks Drawn (draw term window) (drawn next (Ok id)) driver x y
    → has_id id beat ≡ false → Talks Drawn (free_id (drop i peers) beat term window) (drawn next (Ok id)) driver x y
free_stop peers i peer beat term window next id driver x y at s has =
    subst (λ (list : List Peer). Talks Drawn (free_id list beat term window) (drawn next (Ok id)) driver x y) (sym at) (free_found peer (drop (i + 1) peers) beat term window next id driver x y s has)

pub free_none : (peers : List Peer) (i : ℕ) (peer : Peer) (beat : RegionBeat) (term : ℕ) (window next : Window) (why : Adding) (driver : ℕ) (x y : Ear) → drop i peers ≡ peer ∷ drop (i + 1) peers → Talks Drawn (draw term window) (drawn next (Err why)) driver x y
    → Talks Drawn (free_id (drop i peers) beat term window) (drawn next (Err why)) driver x y
free_none peers i peer beat term window next why driver x y at s =
    subst (λ (list : List Peer). Talks Drawn (free_id list beat term window) (drawn next (Err why)) driver x y) (sym at) (free_refused peer (drop (i + 1) peers) beat term window next why driver x y s)

pub free_last : (peers : List Peer) (beat : RegionBeat) (term : ℕ) (window : Window) (value : Drawn) (driver : ℕ) (x y : Ear) → peers ≡ [] → Talks Drawn (draw term window) value driver x y → Talks Drawn (free_id peers beat term window) value driver x y
free_last peers beat term window value driver x y none s = subst (λ (list : List Peer). Talks Drawn (free_id list beat term window) value driver x y) (sym none) s

-- adding an operator
pub add_refused : (around : Around) (op : NewOp) (beat : RegionBeat) (planning : Planning) (fault : AddFault) (driver : ℕ) (e : Ear) → refusal_of planning.operators op (Some beat) planning.limits around.now ≡ Some fault
    → Talks Work (add_op around op beat planning) (left_out planning (adding.Add fault)) driver e e
add_refused around op beat planning fault driver e is =
    subst (λ (o : Option AddFault). Talks Work (add_by o around op beat planning) (left_out planning (adding.Add fault)) driver e e) (sym is) (talks_done Work (left_out planning (adding.Add fault)) driver e)

add_passed : (around : Around) (op : NewOp) (beat : RegionBeat) (planning : Planning) (work : Work) (driver : ℕ) (x y : Ear) → refusal_of planning.operators op (Some beat) planning.limits around.now ≡ None
    → Talks Work (enter around op beat planning) work driver x y → Talks Work (add_op around op beat planning) work driver x y
add_passed around op beat planning work driver x y is t = subst (λ (o : Option AddFault). Talks Work (add_by o around op beat planning) work driver x y) (sym is) t

pub add_plain : (around : Around) (op : NewOp) (beat : RegionBeat) (planning : Planning) (driver : ℕ) (e : Ear) → refusal_of planning.operators op (Some beat) planning.limits around.now ≡ None → asks_id op.steps ≡ false
    → Talks Work (add_op around op beat planning) (entered around op beat planning) driver e e
add_plain around op beat planning driver e is plain =
    add_passed around op beat planning _ driver e e is (talks_false Work (asks_id op.steps) _ _ _ driver e e plain (talks_done Work (entered around op beat planning) driver e))

pub add_with : (around : Around) (op : NewOp) (beat : RegionBeat) (planning : Planning) (one : Drawn) (driver : ℕ) (x y : Ear) → refusal_of planning.operators op (Some beat) planning.limits around.now ≡ None → asks_id op.steps ≡ true
    → Talks Drawn (free_id beat.region.peers beat around.term planning.window) one driver x y → Talks Work (add_op around op beat planning) (entered_with around op beat planning one.window one.id) driver x y
add_with around op beat planning one driver x y is asks t =
    add_passed around op beat planning _ driver x y is (talks_true Work (asks_id op.steps) _ _ _ driver x y asks
    (talks_then Drawn Work (free_id beat.region.peers beat around.term planning.window) (λ d. done (entered_with around op beat planning d.window d.id)) one _ driver x y y t
    (talks_done Work (entered_with around op beat planning one.window one.id) driver y)))

-- a check
pub told_plan : (around : Around) (beat : RegionBeat) (planning : Planning) (class : Class) (list : List Step) (from to : ℕ) (work : Work) (driver : ℕ) (x y : Ear) → Talks Work (add_op around (check_op beat list) beat planning) work driver x y
    → Talks Deed (check_told around beat planning (Plans class list from to)) (planned around class from to work) driver x y
told_plan around beat planning class list from to work driver x y t =
    talks_then Work Deed (add_op around (check_op beat list) beat planning) (λ w. done (planned around class from to w)) work _ driver x y y t (talks_done Deed (planned around class from to work) driver y)

-- a patrol's plans
pub visit_stopped : (around : Around) (one : Planned) (round : Round) (driver : ℕ) (e : Ear) → round.stopped ≡ true → Talks Round (visit around one round) round driver e e
visit_stopped around one round driver e is = talks_true Round round.stopped (done round) _ round driver e e is (talks_done Round round driver e)

pub visit_busy : (around : Around) (one : Planned) (round : Round) (driver : ℕ) (e : Ear) → round.stopped ≡ false → is_busy round.planning one.beat.region.id ≡ true → Talks Round (visit around one round) round driver e e
visit_busy around one round driver e on busy =
    talks_false Round round.stopped (done round) _ round driver e e on (talks_true Round (is_busy round.planning one.beat.region.id) (done round) _ round driver e e busy (talks_done Round round driver e))

pub visit_tried : (around : Around) (one : Planned) (round : Round) (work : Work) (driver : ℕ) (x y : Ear) → round.stopped ≡ false → is_busy round.planning one.beat.region.id ≡ false
    → Talks Work (add_op around (check_op one.beat one.steps) one.beat round.planning) work driver x y → Talks Round (visit around one round) (round_after round work work.adding) driver x y
visit_tried around one round work driver x y on free t =
    talks_false Round round.stopped (done round) _ _ driver x y on (talks_false Round (is_busy round.planning one.beat.region.id) (done round) _ _ driver x y free
    (talks_then Work Round (add_op around (check_op one.beat one.steps) one.beat round.planning) (λ w. done (round_after round w w.adding)) work _ driver x y y t (talks_done Round (round_after round work work.adding) driver y)))

pub sweep_on : (around : Around) (one : Planned) (more : List Planned) (round next last : Round) (driver : ℕ) (x y z : Ear) → Talks Round (visit around one round) next driver x y → Talks Round (sweep around more next) last driver y z
    → Talks Round (sweep around (one ∷ more) round) last driver x z
sweep_on around one more round next last driver x y z s t = talks_then Round Round (visit around one round) (λ r. sweep around more r) next last driver x y z s t

pub sweep_turn : (plans : List Planned) (i : ℕ) (one : Planned) (around here : Around) (round next last : Round) (driver : ℕ) (x y z : Ear) → drop i plans ≡ one ∷ drop (i + 1) plans → here ≡ around → Talks Round (visit here one round) next driver x y
    → Talks Round (sweep around (drop (i + 1) plans) next) last driver y z → Talks Round (sweep around (drop i plans) round) last driver x z
sweep_turn plans i one around here round next last driver x y z at same s t =
    subst (λ (list : List Planned). Talks Round (sweep around list round) last driver x z) (sym at)
    (sweep_on around one (drop (i + 1) plans) round next last driver x y z (subst (λ (a : Around). Talks Round (visit a one round) next driver x y) same s) t)

-- burying stores
pub bury_stopped : (term : ℕ) (rec : StoreRec) (burial : Burial) (driver : ℕ) (e : Ear) → burial.stopped ≡ true → Talks Burial (bury_one term rec burial) burial driver e e
bury_stopped term rec burial driver e is = talks_true Burial burial.stopped (done burial) _ burial driver e e is (talks_done Burial burial driver e)

pub talks_write : (term : ℕ) (key bytes : List ℕ) (answer : MetaAnswer) (driver : ℕ) (old new : Ear) → Asks old.said new.said old.told new.told driver (calls.Put term key (revision_in (cell_at key old.known)) bytes) answer
    → new.answers ≡ old.answers ++ answer ∷ [] → new.known ≡ known_more old.known answer → Talks MetaVerdict (write term key bytes) answer.verdict driver old new
talks_write term key bytes answer driver old new asks answers known =
    let t = talks_ask (calls.Put term key (revision_in (cell_at key old.known)) bytes) answer driver old new asks answers known in
    record { heard = t.heard; answers = t.answers; known = t.known; said = t.said; told = t.told; ends = t.ends; wants = t.wants }

pub bury_asked : (term : ℕ) (rec : StoreRec) (burial : Burial) (answer : MetaAnswer) (driver : ℕ) (old new : Ear) → burial.stopped ≡ false
    → Asks old.said new.said old.told new.told driver (calls.Put term (store_key rec.id) (revision_in (cell_at (store_key rec.id) old.known)) (store_bytes rec)) answer
    → new.answers ≡ old.answers ++ answer ∷ [] → new.known ≡ known_more old.known answer → Talks Burial (bury_one term rec burial) (burial_after rec burial answer.verdict) driver old new
bury_asked term rec burial answer driver old new on asks answers known =
    talks_false Burial burial.stopped (done burial) _ _ driver old new on
    (talks_then MetaVerdict Burial (write term (store_key rec.id) (store_bytes rec)) (λ verdict. done (burial_after rec burial verdict)) answer.verdict _ driver old new new
    (talks_write term (store_key rec.id) (store_bytes rec) answer driver old new asks answers known) (talks_done Burial (burial_after rec burial answer.verdict) driver new))

pub bury_on : (term : ℕ) (rec : StoreRec) (more : List StoreRec) (burial next last : Burial) (driver : ℕ) (x y z : Ear) → Talks Burial (bury_one term rec burial) next driver x y → Talks Burial (bury term more next) last driver y z
    → Talks Burial (bury term (rec ∷ more) burial) last driver x z
bury_on term rec more burial next last driver x y z s t = talks_then Burial Burial (bury_one term rec burial) (λ b. bury term more b) next last driver x y z s t

pub bury_turn : (graves : List StoreRec) (i : ℕ) (rec : StoreRec) (term here : ℕ) (burial next last : Burial) (driver : ℕ) (x y z : Ear) → drop i graves ≡ rec ∷ drop (i + 1) graves → here ≡ term → Talks Burial (bury_one here rec burial) next driver x y
    → Talks Burial (bury term (drop (i + 1) graves) next) last driver y z → Talks Burial (bury term (drop i graves) burial) last driver x z
bury_turn graves i rec term here burial next last driver x y z at same s t =
    subst (λ (list : List StoreRec). Talks Burial (bury term list burial) last driver x z) (sym at)
    (bury_on term rec (drop (i + 1) graves) burial next last driver x y z (subst (λ (n : ℕ). Talks Burial (bury_one n rec burial) next driver x y) same s) t)

-- a whole patrol
pub patrol_did : (around : Around) (planning : Planning) (round : Round) (burial : Burial) (driver : ℕ) (x y z : Ear) → Talks Round (sweep around (plans_in around) (first_round planning)) round driver x y → Talks Burial (bury_all around) burial driver y z
    → Talks Deed (patrol around planning) (patrol_deed around round burial) driver x z
patrol_did around planning round burial driver x y z s t =
    talks_then Round Deed (sweep around (plans_in around) (first_round planning)) (λ r. and_then (bury_all around) (λ b. done (patrol_deed around r b))) round _ driver x y z s
    (talks_then Burial Deed (bury_all around) (λ b. done (patrol_deed around round b)) burial _ driver y z z t (talks_done Deed (patrol_deed around round burial) driver z))

-- what a request did that talked so
pub did : (asking : Asking Deed) (part : Part) (moment : ℕ) (deed : Deed) (driver : ℕ) (old new : Ear) → old.answers ≡ [] → old.known ≡ part.known → Talks Deed asking deed driver old new → deed_of asking part moment new.answers ≡ deed
did asking part moment deed driver old new none known t =
    ap (λ (p : Point Deed). value_or (idle (around_at part moment) (planning_of part) replies.NotLeading) p)
    (ap (λ k. asking (hearing k new.answers)) (sym known) ∙ talked Deed asking deed driver old new none t)

pub did_ask : (asking : Asking Deed) (part : Part) (deed : Deed) (driver : ℕ) (old new : Ear) → old.answers ≡ [] → old.known ≡ part.known → Talks Deed asking deed driver old new
    → AreAsked (λ before. wanted (asking (hearing part.known before))) [] new.answers
did_ask asking part deed driver old new none known t =
    subst (λ k. AreAsked (λ before. wanted (asking (hearing k before))) [] new.answers) known (talk_asked Deed asking deed driver old new none t)
