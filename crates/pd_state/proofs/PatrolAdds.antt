-- What a patrol leaves of the operators.
use Rattle.std.proofs.Common.{refl, ◌≡◌, ◌≢◌, ◌⊎◌, inl, inr, ℕ, ◌+◌, ◌≤◌, nat_eq, nat_le, eqb, ◌||◌, not, Bool, true, false, cond, List, [], ◌∷◌, length, is_some, ap, sym, ◌∙◌, subst, Option, Some, None, arith}
use Rattle.std.proofs.lemmas.Bool.{cases_eq, eq-eqb, ne_eqb}
use Rattle.std.proofs.lemmas.Bool.Decides.{nat_tests}
use Rattle.std.proofs.lemmas.List.Elements.{All-cons, All-nil}
use Rattle.std.specs.FinMap as map
use Rattle.std.specs.List.{All}
use Rattle.std.specs.Prelude.{codes}
use Rattle.pd_types.specs.declared.region.Epoch.{Epoch}
use Rattle.pd_types.specs.declared.region.RegionBeat.{RegionBeat}
use Rattle.std.specs.Option.{option_or}
use Rattle.id_map.proofs.Inserted.{get-insert, same-insert}
use Rattle.store_limit.specs.declared.limits.Limited.{Limited}
use Rattle.store_table.specs.declared.entry.StoreEntry.{StoreEntry}
use Rattle.op_control.specs.declared.operator.NewOp.{NewOp}
use Rattle.op_control.specs.declared.operator.Operator.{Operator}
use Rattle.op_control.specs.declared.adding.TheConstants.{MOST_OPERATORS}
use Rattle.op_control.specs.declared.adding.AddFault.{AddFault}
use Rattle.op_control.specs.declared.adding.AddFault.TheVariants as faults
use Rattle.op_control.specs.Adding.{added, created, priority_refusal, refusal_of, room_refusal, same_epoch, with_new_id}
use Rattle.op_control.specs.Charging.{first_refused}
use Rattle.op_control.specs.Table.{Table, active_at, active_by, dispatched, turned_by}
use Rattle.op_control.specs.Turn.{turned}
use Rattle.pd_state.specs.Adding.{Around, Planning, Work, add_op, asks_id}
use Rattle.pd_state.specs.Asking.{Hearing, Point, done, ended, waits}
use Rattle.pd_state.specs.Checking.{Round, check_op, first_round, is_busy, plans_in, round_after, stopped_round, sweep, visit}
use Rattle.pd_state.specs.Lives.{AreLives}
use Rattle.pd_state.specs.NewIds.{Comes, Enters, LacksId}
use Rattle.pd_state.specs.Patrols.{AddsOperators, Fate, IsChecks, IsLimit, at_limit, had_one, had_stopped, has_one, plans_region}
use Rattle.pd_state.specs.declared.adding.Adding.{Adding}
use Rattle.pd_state.specs.declared.adding.Adding.TheVariants as adding
use Rattle.pd_state.specs.declared.patrol.Planned.{Planned}
use Rattle.pd_state.proofs.Ends.{Ends, ends_if, ends_map, ends_on}
use Rattle.pd_state.proofs.Lives.{WorkLives, add_lives, table_same, tables_then}
use Rattle.pd_state.proofs.NextFree.{add_comes}

-- two facts of one end
ends_both : (A : Type 0) (P Q : A → Type 0) (point : Point A) → Ends A P point → Ends A Q point → Ends A (λ a. P a × Q a) point
ends_both A P Q (ended value at) p q = (p, q)
ends_both A P Q (waits call) p q = tt

-- the last operators once one was added and dispatched
twice : {X : Type 0} (b : Bool) (x y : X) (rest : Option X) → cond b (Some x) (cond b (Some y) rest) ≡ cond b (Some x) rest
twice true x y rest = refl
twice false x y rest = refl

active_new : (table : Table) (op : NewOp) (region now : ℕ) → op.region ≡ region → active_at (added table op now) region ≡ Some (created op now)
active_new table op region now is =
    subst (λ (k : ℕ). active_at (added table op now) k ≡ Some (created op now)) is (ap active_by (same-insert table.last op.region (created op now)))

entered_get : (table : Table) (op : NewOp) (beat : RegionBeat) (stores : List StoreEntry) (now q : ℕ) → op.region ≡ beat.region.id
    → map.get (dispatched (added table op now) beat stores now).last q ≡ cond (eqb q beat.region.id) (Some (turned (created op now) beat stores now)) (map.get table.last q)
entered_get table op beat stores now q is =
    ap (λ (o : Option Operator). map.get (turned_by o (added table op now) beat stores now).last q) (active_new table op beat.region.id now is)
    ∙ get-insert (added table op now).last beat.region.id (turned (created op now) beat stores now) q
    ∙ ap (λ (o : Option Operator). cond (eqb q beat.region.id) (Some (turned (created op now) beat stores now)) o)
    (get-insert table.last op.region (created op now) q ∙ ap (λ (k : ℕ). cond (eqb q k) (Some (created op now)) (map.get table.last q)) is)
    ∙ twice (eqb q beat.region.id) (turned (created op now) beat stores now) (created op now) (map.get table.last q)

-- an operator of the checker was added for this region, and dispatched
record Joins (around : Around) (beat : RegionBeat) (old new : Table) : Type 0 where
  op : NewOp
  region : op.region ≡ beat.region.id
  kind : op.kind ≡ codes "check"
  priority : op.priority ≡ 2
  joined : new ≡ dispatched (added old op around.now) beat around.stores around.now

module _ (around : Around) (beat : RegionBeat) (old new : Table) (j : Joins around beat old new) where
  joins_get : (q : ℕ) → map.get new.last q ≡ cond (eqb q beat.region.id) (Some (turned (created j.op around.now) beat around.stores around.now)) (map.get old.last q)
  joins_get q = ap (λ (t : Table). map.get t.last q) j.joined ∙ entered_get old j.op beat around.stores around.now q j.region

  joins_here : (q : ℕ) → q ≡ beat.region.id → IsChecks new q around.now
  joins_here q same = record {
    op = turned (created j.op around.now) beat around.stores around.now;
    last = joins_get q ∙ ap (λ (b : Bool). cond b (Some (turned (created j.op around.now) beat around.stores around.now)) (map.get old.last q)) (eq-eqb q beat.region.id same);
    kind = j.kind;
    priority = j.priority;
    created = refl;
  }

  joins_there : (q : ℕ) → q ≢ beat.region.id → map.get new.last q ≡ map.get old.last q
  joins_there q apart = joins_get q ∙ ap (λ (b : Bool). cond b (Some (turned (created j.op around.now) beat around.stores around.now)) (map.get old.last q)) (ne_eqb q beat.region.id apart)

-- which fault it can be that leaves a plan of a region without an operator
some_fault : (a b : AddFault) → Some a ≡ Some b → a ≡ b
some_fault a b h = cc

room_limit : (limited : Option Limited) (n : ℕ) (fault : AddFault) → room_refusal limited None n ≡ Some fault → IsLimit fault
room_limit (Some limited) n fault h = subst IsLimit (some_fault (faults.Limited limited.available limited.needed) fault h) tt
room_limit None n fault h = by (nat_le MOST_OPERATORS n) h
  where
    by : (b : Bool) → cond b (Some faults.Limit) None ≡ Some fault → IsLimit fault
    by true h = subst IsLimit (some_fault faults.Limit fault h) tt
    by false h = absurd cc

same_test : (epoch : Epoch) → same_epoch epoch epoch ≡ true
same_test epoch = grind (arith, nat_tests)

limit_by : (b : Bool) (active : Option Operator) (op : NewOp) (epoch : Epoch) (limited : Option Limited) (n : ℕ) (fault : AddFault) → b ≡ true → active ≡ None
    → cond (not b) (Some (faults.EpochMoved epoch)) (option_or (priority_refusal active op) (room_refusal limited active n)) ≡ Some fault → IsLimit fault
limit_by true None op epoch limited n fault is none h = room_limit limited n fault h
limit_by true (Some active) op epoch limited n fault is none h = absurd cc
limit_by false active op epoch limited n fault is none h = absurd cc

not_busy : (planning : Planning) (region : ℕ) → is_busy planning region ≡ false → active_at planning.operators region ≡ None
not_busy planning region free = by (active_at planning.operators region) free
  where
    by : (o : Option Operator) → is_some o ≡ false → o ≡ None
    by None h = refl
    by (Some op) h = absurd cc

is_limit : (around : Around) (one : Planned) (planning : Planning) (fault : AddFault) → is_busy planning one.beat.region.id ≡ false
    → refusal_of planning.operators (check_op one.beat one.steps) (Some one.beat) planning.limits around.now ≡ Some fault → IsLimit fault
is_limit around one planning fault free h =
    limit_by (same_epoch one.beat.region.epoch one.beat.region.epoch) (active_at planning.operators one.beat.region.id) (check_op one.beat one.steps) one.beat.region.epoch (first_refused one.steps planning.limits around.now) (length planning.operators.busy)
    fault (same_test one.beat.region.epoch) (not_busy planning one.beat.region.id free) h

-- what stands of a region after a part of a patrol: what stood, or an operator of the checker
abbrev Stands : Around → List Planned → Table → Table → ℕ → Type 0
Stands around plans old new region = (map.get new.last region ≡ map.get old.last region) ⊎ ((plans_region region plans ≡ true) × IsChecks new region around.now)

-- a part of a patrol, of which all plans are these
record Follows (around : Around) (plans : List Planned) (old new : Round) : Type 0 where
  lives : AreLives old.planning.operators new.planning.operators
  last : (region : ℕ) → Stands around plans old.planning.operators new.planning.operators region
  busy : (region : ℕ) → is_busy old.planning region ≡ true → map.get new.planning.operators.last region ≡ map.get old.planning.operators.last region
  stop : old.stopped ≡ true → new.stopped ≡ true
  more : old.added ≤ new.added
  none : new.added ≡ old.added → (new.planning.operators ≡ old.planning.operators) × (new.planning.limits ≡ old.planning.limits)

follows_same : (around : Around) (plans : List Planned) (round : Round) → Follows around plans round round
follows_same around plans round =
    record { lives = table_same round.planning.operators; last = λ region. inl refl; busy = λ region is. refl; stop = λ is. is; more = omega arith; none = λ is. (refl, refl) }

stands_then : (around : Around) (plans : List Planned) (x y z : Table) (region : ℕ) → Stands around plans x y region → Stands around plans y z region → Stands around plans x z region
stands_then around plans x y z region h (inr k) = inr k
stands_then around plans x y z region (inl h) (inl k) = inl (k ∙ h)
stands_then around plans x y z region (inr h) (inl k) = inr (h.0, record { op = h.1.op; last = k ∙ h.1.last; kind = h.1.kind; priority = h.1.priority; created = h.1.created })

same_busy : (x y : Planning) (region : ℕ) → map.get y.operators.last region ≡ map.get x.operators.last region → is_busy y region ≡ is_busy x region
same_busy x y region is = ap (λ (o : Option Operator). is_some (active_by o)) is

follows_then : (around : Around) (plans : List Planned) (x y z : Round) → Follows around plans x y → Follows around plans y z → Follows around plans x z
follows_then around plans x y z h k = record {
  lives = tables_then x.planning.operators y.planning.operators z.planning.operators h.lives k.lives;
  last = λ region. stands_then around plans x.planning.operators y.planning.operators z.planning.operators region (h.last region) (k.last region);
  busy = λ region is. k.busy region (same_busy x.planning y.planning region (h.busy region is) ∙ is) ∙ h.busy region is;
  stop = λ is. k.stop (h.stop is);
  more = let one = h.more in let two = k.more in omega (arith, one, two);
  none = λ is.
      let one = h.more in
      let two = k.more in
      let first = h.none (omega (arith, one, two, is)) in
      let second = k.none (omega (arith, one, two, is)) in
      (second.0 ∙ first.0, second.1 ∙ first.1);
}

-- a fate stays one
fate_on : (around : Around) (plans : List Planned) (before : Planning) (next last : Round) (one : Planned) → Follows around plans next last → Fate around before next one → Fate around before last one
fate_on around plans before next last one f (had_one is) = had_one is
fate_on around plans before next last one f (has_one checks) = by (f.last one.beat.region.id)
  where
    by : Stands around plans next.planning.operators last.planning.operators one.beat.region.id → Fate around before last one
    by (inl same) = has_one (record { op = checks.op; last = same ∙ checks.last; kind = checks.kind; priority = checks.priority; created = checks.created })
    by (inr other) = has_one other.1
fate_on around plans before next last one f (at_limit turn fault from to is limit) = at_limit turn fault from (tables_then turn.operators next.planning.operators last.planning.operators to f.lives) is limit
fate_on around plans before next last one f (had_stopped is) = had_stopped (f.stop is)

-- what one plan comes to
record Visits (around : Around) (plans : List Planned) (before : Planning) (one : Planned) (round next : Round) : Type 0 where
  follows : Follows around plans round next
  fate : Fate around before next one
  few : next.added ≤ round.added + 1

module _ (around : Around) (plans : List Planned) (first : Round) (one : Planned) (round : Round) (so : Follows around plans first round) (mine : plans_region one.beat.region.id plans ≡ true) where
  stays : Fate around first.planning round one → Visits around plans first.planning one round round
  stays fate = record { follows = follows_same around plans round; fate = fate; few = omega arith }

  visit_busy : is_busy round.planning one.beat.region.id ≡ true → Visits around plans first.planning one round round
  visit_busy is = by (so.last one.beat.region.id)
    where
      by : Stands around plans first.planning.operators round.planning.operators one.beat.region.id → Visits around plans first.planning one round round
      by (inl same) = stays (had_one (sym (same_busy first.planning round.planning one.beat.region.id same) ∙ is))
      by (inr checks) = stays (has_one checks.1)

  visit_joins : (next : Round) → is_busy round.planning one.beat.region.id ≡ false → round.stopped ≡ false → AreLives round.planning.operators next.planning.operators → Joins around one.beat round.planning.operators next.planning.operators → next.added ≡ round.added + 1
      → Visits around plans first.planning one round next
  visit_joins next free on lives joins counted = record {
    follows = record {
      lives = lives;
      last = λ region. where_is region (cases_eq region one.beat.region.id);
      busy = λ region is. joins_there around one.beat round.planning.operators next.planning.operators joins region (apart region is);
      stop = λ is. absurd (let both : true ≡ false = sym is ∙ on in cc);
      more = omega (arith, counted);
      none = λ is. absurd (omega (arith, counted, is));
    };
    fate = has_one (joins_here around one.beat round.planning.operators next.planning.operators joins one.beat.region.id refl);
    few = omega (arith, counted);
  }
    where
      where_is : (region : ℕ) → (region ≡ one.beat.region.id) ⊎ (region ≢ one.beat.region.id) → Stands around plans round.planning.operators next.planning.operators region
      where_is region (inl same) = inr (subst (λ (k : ℕ). plans_region k plans ≡ true) (sym same) mine, joins_here around one.beat round.planning.operators next.planning.operators joins region same)
      where_is region (inr other) = inl (joins_there around one.beat round.planning.operators next.planning.operators joins region other)

      apart : (region : ℕ) → is_busy round.planning region ≡ true → region ≢ one.beat.region.id
      apart region is same = absurd (let both : true ≡ false = sym is ∙ ap (is_busy round.planning) same ∙ free in cc)

  visit_stops : (next : Round) → round.stopped ≡ false → next.planning.operators ≡ round.planning.operators → next.planning.limits ≡ round.planning.limits → next.stopped ≡ true → next.added ≡ round.added
      → Visits around plans first.planning one round next
  visit_stops next on same limits stop counted = record {
    follows = record {
      lives = subst (AreLives round.planning.operators) (sym same) (table_same round.planning.operators);
      last = λ region. inl (ap (λ (t : Table). map.get t.last region) same);
      busy = λ region is. ap (λ (t : Table). map.get t.last region) same;
      stop = λ is. stop;
      more = omega (arith, counted);
      none = λ is. (same, limits);
    };
    fate = had_stopped stop;
    few = omega (arith, counted);
  }

  work_joins : (work : Work) (b : Bool) → Enters b around (check_op one.beat one.steps) one.beat round.planning work → Joins around one.beat round.planning.operators work.planning.operators
  work_joins work true h = record {
    op = with_new_id (check_op one.beat one.steps) h.id;
    region = refl;
    kind = refl;
    priority = refl;
    joined = ap (λ (w : Work). w.planning.operators) h.enters;
  }
  work_joins work false h = record { op = check_op one.beat one.steps; region = refl; kind = refl; priority = refl; joined = ap (λ (w : Work). w.planning.operators) h }

  lacks_stops : (work : Work) → round.stopped ≡ false → LacksId one.beat round.planning work → Visits around plans first.planning one round (stopped_round round work)
  lacks_stops work on h = visit_stops (stopped_round round work) on (ap (λ (w : Work). w.planning.operators) h.rest) (ap (λ (w : Work). w.planning.limits) h.rest) refl refl

  visit_work : (work : Work) (came : Adding) → is_busy round.planning one.beat.region.id ≡ false → round.stopped ≡ false → AreLives round.planning.operators work.planning.operators
      → Comes came around (check_op one.beat one.steps) one.beat round.planning work → Visits around plans first.planning one round (round_after round work came)
  visit_work work (adding.Added answer) free on lives h =
      visit_joins (round_after round work (adding.Added answer)) free on lives (work_joins work (asks_id one.steps) h.1) refl
  visit_work work (adding.Build fault) free on lives h = absurd h
  visit_work work (adding.Add fault) free on lives h =
      stays (at_limit round.planning fault so.lives (table_same round.planning.operators) h.0 (is_limit around one round.planning fault free h.0))
  visit_work work (adding.OldTerm fence) free on lives h = lacks_stops work on h.1
  visit_work work (adding.Conflict found) free on lives h = lacks_stops work on h.1
  visit_work work adding.MetaLimit free on lives h = lacks_stops work on h.1
  visit_work work adding.IdsSpent free on lives h = lacks_stops work on h.1

  abbrev WorkComes : Work → Type 0
  WorkComes work = Comes work.adding around (check_op one.beat one.steps) one.beat round.planning work × WorkLives round.planning work

  add_ends : (at : Hearing) → Ends Work WorkComes (add_op around (check_op one.beat one.steps) one.beat round.planning at)
  add_ends at =
      ends_both Work (λ work. Comes work.adding around (check_op one.beat one.steps) one.beat round.planning work) (WorkLives round.planning) (add_op around (check_op one.beat one.steps) one.beat round.planning at)
      (add_comes around (check_op one.beat one.steps) one.beat round.planning at)
      (add_lives (refusal_of round.planning.operators (check_op one.beat one.steps) (Some one.beat) round.planning.limits around.now) around (check_op one.beat one.steps) one.beat round.planning at)

  visit_ends : (at : Hearing) → Ends Round (Visits around plans first.planning one round) (visit around one round at)
  visit_ends at =
      ends_if Round (Visits around plans first.planning one round) round.stopped (done round) _ at (λ is. stays (had_stopped is))
      (λ on. ends_if Round (Visits around plans first.planning one round) (is_busy round.planning one.beat.region.id) (done round) _ at visit_busy
      (λ free. ends_on Work Round WorkComes (Visits around plans first.planning one round) (λ work. done (round_after round work work.adding)) (add_op around (check_op one.beat one.steps) one.beat round.planning at) (add_ends at)
      (λ work then h. visit_work work work.adding free on h.1 h.0)))

-- the plans in turn
record Sweeps (around : Around) (all plans : List Planned) (before : Planning) (round last : Round) : Type 0 where
  follows : Follows around all round last
  each : All (Fate around before last) plans
  few : last.added ≤ round.added + length plans

or_left : (b : Bool) → (true || b) ≡ true
or_left b = refl

or_right : (a b : Bool) → b ≡ true → (a || b) ≡ true
or_right true b h = refl
or_right false b h = h

same_id : (n : ℕ) (rest : Bool) → (nat_eq n n || rest) ≡ true
same_id n rest = grind (arith, nat_tests)

sweep_one : (around : Around) (all more : List Planned) (one : Planned) (before : Planning) (round next last : Round) → Visits around all before one round next → Sweeps around all more before next last → Sweeps around all (one ∷ more) before round last
sweep_one around all more one before round next last v s = record {
  follows = follows_then around all round next last v.follows s.follows;
  each = All-cons (Fate around before last) one more (fate_on around all before next last one s.follows v.fate) s.each;
  few = let first = v.few in let rest = s.few in omega (arith, first, rest);
}

sweep_ends : (around : Around) (all plans : List Planned) (first round : Round) (at : Hearing) → ((region : ℕ) → plans_region region plans ≡ true → plans_region region all ≡ true) → Follows around all first round
    → Ends Round (Sweeps around all plans first.planning round) (sweep around plans round at)
sweep_ends around all [] first round at within so = record { follows = follows_same around all round; each = All-nil (Fate around first.planning round); few = omega arith }
sweep_ends around all (one ∷ plans) first round at within so =
    ends_on Round Round (Visits around all first.planning one round) (Sweeps around all (one ∷ plans) first.planning round) (λ next. sweep around plans next) (visit around one round at)
    (visit_ends around all first one round so (within one.beat.region.id (same_id one.beat.region.id (plans_region one.beat.region.id plans))) at)
    (λ next then v. ends_map Round (Sweeps around all plans first.planning next) (Sweeps around all (one ∷ plans) first.planning round) (sweep around plans next then) (λ last s. sweep_one around all plans one first.planning round next last v s)
    (sweep_ends around all plans first next then (λ region h. within region (or_right (nat_eq one.beat.region.id region) (plans_region region plans) h)) (follows_then around all first round next so v.follows)))

swept : (around : Around) (before : Planning) (last : Round) → Sweeps around (plans_in around) (plans_in around) before (first_round before) last → AddsOperators around before last
swept around before last s = record {
  busy = s.follows.busy;
  changed = s.follows.last;
  each = s.each;
  few = let n = s.few in omega (arith, n);
  none = s.follows.none;
}

pub patrol_adds : (around : Around) (before : Planning) (at : Hearing) → Ends Round (AddsOperators around before) (sweep around (plans_in around) (first_round before) at)
patrol_adds around before at =
    ends_map Round (Sweeps around (plans_in around) (plans_in around) before (first_round before)) (AddsOperators around before) (sweep around (plans_in around) (first_round before) at) (λ last s. swept around before last s)
    (sweep_ends around (plans_in around) (plans_in around) (first_round before) (first_round before) at (λ region h. h) (follows_same around (plans_in around) (first_round before)))
