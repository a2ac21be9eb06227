use Rattle.std.proofs.Common.{sym, subst, ◌∙◌, map, arith}
use Rattle.std.proofs.lemmas.Bool.{true≢false}
use Rattle.pd_types.specs.declared.region.Peer.{Peer}
use Rattle.rule_fit.specs.Question.{question}
use Rattle.rule_checker.proofs.ArrivalLemmas.{lower_room_found, lower_takes, room_found_lowers, weighed, FindsRoom}
use Rattle.rule_checker.proofs.RoomyLemmas.{finds_roomy, roomy_finds}
use Rattle.rule_checker.proofs.ScoreLemmas.{new_score}
use Rattle.rule_checker.proofs.arrival.weigh.Goals as goal

pub returns-then-not-takes_new-clause-none : goal.returns-then-not-takes_new-clause-none
returns-then-not-takes_new-clause-none c =
    let on = c.args.on in
    λ one same lowers. true≢false
    (sym (lower_takes c.args.class on.beat.now on.rules.now on.stores.now on.now c.args.from c.args.entry.now one c.requires.adds c.requires.known same lowers) ∙ sym c.takes_new.ensures ∙ c.if-not-takes_new.true)

pub returns-then-not-finds_room-clause-none : goal.returns-then-not-finds_room-clause-none
returns-then-not-finds_room-clause-none c =
    let on = c.args.on in
    let are = c.requires.roomy in
    λ one same lowers. true≢false
    (sym (finds_roomy on.beat.now.leader c.args.entry.now on.now c.arrived.result (question on.beat.now on.rules.now on.stores.now on.now) on.rules.now c.args.roomy.now are
    (subst (λ (p : Peer). FindsRoom on.beat.now.leader c.args.entry.now on.now p on.rules.now are.rooms) (sym c.arrived.ensures)
    (lower_room_found c.args.class on.beat.now on.rules.now on.stores.now on.now c.args.from c.args.entry.now are.rooms one c.requires.adds c.requires.free c.requires.known c.requires.number are.right same lowers))) ∙ sym c.finds_room.ensures ∙ c.if-not-finds_room.true)

pub overflow_sub-to : goal.overflow_sub-to
overflow_sub-to c =
    let on = c.args.on in
    let are = c.requires.roomy in
    let finds = roomy_finds on.beat.now.leader c.args.entry.now on.now c.arrived.result (question on.beat.now on.rules.now on.stores.now on.now) on.rules.now c.args.roomy.now are (sym c.finds_room.ensures ∙ c.if-not-finds_room.false) in
    let lower = room_found_lowers c.args.class on.beat.now on.rules.now on.stores.now on.now c.args.from c.args.entry.now are.rooms c.requires.adds c.requires.free c.requires.known c.requires.number are.right
    (sym c.takes_new.ensures ∙ c.if-not-takes_new.false)
    (subst (λ (p : Peer). FindsRoom on.beat.now.leader c.args.entry.now on.now p on.rules.now are.rooms) c.arrived.ensures finds) in
    let some = lower.1 in omega arith

pub returns-clause-some : goal.returns-clause-some
returns-clause-some c =
    let on = c.args.on in
    let are = c.requires.roomy in
    let finds = roomy_finds on.beat.now.leader c.args.entry.now on.now c.arrived.result (question on.beat.now on.rules.now on.stores.now on.now) on.rules.now c.args.roomy.now are (sym c.finds_room.ensures ∙ c.if-not-finds_room.false) in
    weighed c.args.class on.beat.now on.rules.now on.stores.now on.now c.args.from c.args.entry.now are.rooms c.new_on-peer.result c.score_by_rules-score.result c.requires.ruled c.requires.adds c.requires.free c.requires.known c.requires.held c.requires.number are.right
    (sym c.takes_new.ensures ∙ c.if-not-takes_new.false)
    (subst (λ (p : Peer). FindsRoom on.beat.now.leader c.args.entry.now on.now p on.rules.now are.rooms) c.arrived.ensures finds)
    c.new_on-peer.ensures
    (new_score c.args.class on.beat.now on.rules.now on.stores.now c.args.entry.now c.as_slice.result.now (map (λ other. other.now) c.args.others.now) c.new_on-peer.result c.score_by_rules-score.result c.requires.adds c.requires.known c.as_slice.ensures.value c.requires.others c.new_on-peer.ensures c.score_by_rules-score.ensures)
