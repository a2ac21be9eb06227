use Rattle.std.proofs.Common.{◌≡◌, map, ◌≤◌, ◌+◌, Bool, List, Option, subst, sym, ap, ◌∙◌, length, arith}
use Rattle.std.specs.Borrow.{Bor}
use Rattle.std.specs.List.{list_any}
use Rattle.pd_types.specs.declared.rule.Rule.{Rule}
use Rattle.rule_checker.specs.Arrival.{with_room}
use Rattle.store_table.specs.declared.entry.StoreEntry.{StoreEntry}
use Rattle.rule_checker.specs.declared.class.Ranked.{Ranked}
use Rattle.rule_checker.specs.Best.{IsBestOf, better_of}
use Rattle.rule_checker.specs.Candidates.{new_on, pool}
use Rattle.rule_checker.specs.Measure.{Lowers}
use Rattle.rule_checker.specs.Ranks.{is_before}
use Rattle.rule_checker.proofs.ArrivalLemmas.{entry_of_place, no_rooms, none_comes}
use Rattle.rule_checker.proofs.BestLemmas.{best_all, best_next, better_than_none}
use Rattle.rule_checker.proofs.PoolLemmas.{at_held, entry_there, pool_at, pool_long}
use Rattle.rule_checker.proofs.RankLemmas.{class_choice}
use Rattle.rule_checker.proofs.arrival.best_new.Goals as goal
use Rattle.rule_checker.proofs.arrival.best_new.Goals.{then-is_some, else-is_some}

pub returns-then-has_id : goal.returns-then-has_id
returns-then-has_id c =
    let on = c.args.on in
    λ k one low at lowers. none_comes c.args.class on.beat.now on.rules.now on.stores.now on.now c.args.from one c.requires.adds (sym c.has_id.ensures.value ∙ c.if-has_id.true) c.requires.number lowers

pub returns-then-not-any_has_room : goal.returns-then-not-any_has_room
returns-then-not-any_has_room c =
    let on = c.args.on in
    λ k one low at lowers. no_rooms c.args.class on.beat.now on.rules.now on.stores.now on.now c.args.from c.in_ok-rooms.rooms.items one c.requires.adds (sym c.has_id.ensures.value ∙ c.if-has_id.false) c.requires.number c.in_ok-rooms.ensures.value
    (ap (λ (rooms : List Bool). list_any (λ room. room) rooms) (sym c.deref.ensures.value) ∙ sym c.any_has_room.ensures ∙ c.if-not-any_has_room.true) lowers

pub weigh-one-requires-clause-known : goal.weigh-one-requires-clause-known
weigh-one-requires-clause-known c =
    let there = entry_there c.entries-entry-items.result.now c.args.on.stores.now c.loop-entry.entry-index c.entry-item.result c.entries-entry-items.ensures.value c.loop-entry-test.true c.entry-item.is in
    entry_of_place c.args.on.stores.now c.loop-entry.entry-index c.entry-item.result c.entries-entry-items.ensures.rising there

pub weigh-one-requires-clause-held : goal.weigh-one-requires-clause-held
weigh-one-requires-clause-held c =
    let there = entry_there c.entries-entry-items.result.now c.args.on.stores.now c.loop-entry.entry-index c.entry-item.result c.entries-entry-items.ensures.value c.loop-entry-test.true c.entry-item.is in
    at_held (pool c.args.class c.args.on.beat.now c.args.on.stores.now) c.loop-entry.entry-index (new_on c.entry-item.result.store.id) (pool_at c.args.class c.args.on.beat.now c.args.on.stores.now c.loop-entry.entry-index c.entry-item.result c.requires.adds there)

pub weigh-one-requires-clause-roomy : goal.weigh-one-requires-clause-roomy
weigh-one-requires-clause-roomy c = record {
  rooms = c.in_ok-rooms.rooms.items;
  right = c.in_ok-rooms.ensures.value;
  same = ap (λ (all : List (Bor Rule)). map (λ rule. rule.now) all) c.deref-in-loop-entry.ensures.value ∙ c.in_ok-roomy.ensures
      ∙ ap (λ (rules : List Rule). with_room rules c.deref-2.result.now) c.as_slice.ensures.value ∙ ap (λ (rooms : List Bool). with_room c.args.on.rules.now rooms) c.deref-2.ensures.value;
}

pub loop-entry-preserved : goal.loop-entry-preserved
loop-entry-preserved c =
    let on = c.args.on in
    let there = entry_there c.entries-entry-items.result.now on.stores.now c.loop-entry.entry-index c.entry-item.result c.entries-entry-items.ensures.value c.loop-entry-test.true c.entry-item.is in
    let told = c.weigh-one.ensures in
    let best_is : c.if-is_some.best ≡ better_of (is_before c.args.class on.standing.now) c.loop-entry.best c.weigh-one.result = elim c.if-is_some.branch [
      | then-is_some w ↦ w.best-is ∙ w.better_of-best.ensures
      | else-is_some w ↦ w.best-is ∙ better_than_none (is_before c.args.class on.standing.now) c.loop-entry.best c.weigh-one.result (sym c.is_some.ensures ∙ w.if-is_some.false)
    ] in
    subst (λ (o : Option Ranked). IsBestOf c.args.class c.args.on.beat.now c.args.on.rules.now c.args.on.stores.now c.args.on.standing.now c.args.on.now c.args.from (c.loop-entry.entry-index + 1) o) (sym best_is)
    (best_next (Lowers c.args.class on.beat.now on.rules.now on.stores.now on.now c.args.from) (is_before c.args.class on.standing.now)
    (class_choice c.args.class on.beat.now on.rules.now on.stores.now on.standing.now on.now c.args.from)
    (pool c.args.class on.beat.now on.stores.now) c.loop-entry.entry-index (new_on c.entry-item.result.store.id) c.loop-entry.best c.weigh-one.result
    (pool_at c.args.class on.beat.now on.stores.now c.loop-entry.entry-index c.entry-item.result c.requires.adds there)
    told.some told.same told.none c.loop-entry.invariant)

pub returns : goal.returns
returns c =
    let on = c.args.on in
    let long = pool_long c.args.class on.beat.now on.stores.now c.requires.adds in
    let items = ap (λ (entries : List StoreEntry). length entries) c.entries-entry-items.ensures.value in
    let all : length (pool c.args.class on.beat.now on.stores.now) ≤ c.loop-entry.entry-index = omega arith in
    best_all (Lowers c.args.class on.beat.now on.rules.now on.stores.now on.now c.args.from) (is_before c.args.class on.standing.now) (pool c.args.class on.beat.now on.stores.now) c.loop-entry.entry-index (length (pool c.args.class on.beat.now on.stores.now)) c.loop-entry.best all c.loop-entry.invariant
