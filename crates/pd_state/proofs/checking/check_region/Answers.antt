use Rattle.std.proofs.Common.{◌≡◌, ◌∙◌, IfOk, List, None, Some, [], ap, subst, sym}
use Rattle.pd_types.specs.declared.region.RegionBeat.{RegionBeat}
use Rattle.rule_fit.specs.Ids.{AreApart}
use Rattle.rule_checker.specs.Told.{tells}
use Rattle.rule_checker.proofs.BeatLemmas.{checked_apart}
use Rattle.pd_state.specs.Adding.{planning_of}
use Rattle.pd_state.specs.Asking.{ear}
use Rattle.pd_state.specs.Checking.{Does, check_of}
use Rattle.pd_state.specs.Sends.{region_in}
use Rattle.pd_state.proofs.Carried.{absent_does, after_check, asked_is, check_whole, ok_asked, ok_reply, ok_said, ok_sents, ok_told, on_ok}
use Rattle.pd_state.proofs.checking.check_region.Given as given
use Rattle.pd_state.proofs.checking.check_region.Goals as goal

pub returns-in_default-clause-asked : goal.returns-in_default-clause-asked
returns-in_default-clause-asked g c =
    let old = c.args.part.now in
    let mid = c.advance.new.self in
    let gone : region_in c.args.region mid.standing ≡ None = sym (c.in_default.ensures.value ∙ ap (λ (held : List RegionBeat). region_in c.args.region held) c.regions.ensures.value) in
    asked_is (check_of old c.args.moment c.args.region) old mid c.args.moment c.args.driver c.quiet.result (g.M.Door.said c.args.door.now) (g.M.Door.said c.args.door.now) (g.M.Door.told c.args.door.now) (g.M.Door.told c.args.door.now)
    (absent_does old mid c.args.moment c.args.region c.args.driver c.quiet.result (g.M.Door.said c.args.door.now) (g.M.Door.told c.args.door.now) c.advance.ensures.value gone c.quiet.ensures.reply c.quiet.ensures.sents c.quiet.ensures.heard)

pub check-requires-clause-apart : goal.check-requires-clause-apart
check-requires-clause-apart g c = subst (λ (beat : RegionBeat). AreApart beat.region.peers) (sym c.in_ok-beat.ensures) (checked_apart c.in-Some.held.now c.in-Some.ensures.checked)

did : (g : given.Over) (c : goal.After-drop-beat-6 g)
    → IfOk c.carry_out.result (λ d. Does (check_of c.args.part.now c.args.moment c.args.region) (planning_of c.carry_out.new.part) c.carry_out.new.part.stores d c.args.driver
    (ear [] c.args.part.now.known (g.M.Door.said c.args.door.now) (g.M.Door.told c.args.door.now)) (ear d.heard.answers c.carry_out.new.part.known (g.M.Door.said c.carry_out.new.door) (g.M.Door.told c.carry_out.new.door)))
did g c =
    let mid = c.advance.new.self in
    let held : region_in c.args.region mid.standing ≡ Some c.in_ok-beat.beat =
    sym (ap (λ (list : List RegionBeat). region_in c.args.region list) c.regions.ensures.value) ∙ sym c.in-Some.ensures.value ∙ ap (λ (beat : RegionBeat). Some beat) (sym c.in_ok-beat.ensures) in
    check_whole c.args.part.now mid c.carry_out.new.part c.args.moment c.args.region c.in_ok-beat.beat (tells c.in_ok-verdict.verdict) c.carry_out.result c.args.driver (g.M.Door.said c.args.door.now) (g.M.Door.said c.carry_out.new.door)
    (g.M.Door.told c.args.door.now) (g.M.Door.told c.carry_out.new.door) c.advance.ensures.value held c.in_ok-verdict.ensures.tells c.carry_out.ensures.does

pub returns-clause-reply : goal.returns-clause-reply
returns-clause-reply g c =
    ok_reply (check_of c.args.part.now c.args.moment c.args.region) c.args.part.now c.carry_out.new.part c.args.moment c.args.driver c.carry_out.result (g.M.Door.said c.args.door.now) (g.M.Door.said c.carry_out.new.door) (g.M.Door.told c.args.door.now)
    (g.M.Door.told c.carry_out.new.door) (did g c)

pub returns-clause-asked : goal.returns-clause-asked
returns-clause-asked g c =
    ok_asked (check_of c.args.part.now c.args.moment c.args.region) c.args.part.now c.carry_out.new.part c.args.moment c.args.driver c.carry_out.result (g.M.Door.said c.args.door.now) (g.M.Door.said c.carry_out.new.door) (g.M.Door.told c.args.door.now)
    (g.M.Door.told c.carry_out.new.door) (did g c)

pub returns-clause-sents : goal.returns-clause-sents
returns-clause-sents g c =
    ok_sents (check_of c.args.part.now c.args.moment c.args.region) c.args.part.now c.carry_out.new.part c.args.moment c.args.driver c.carry_out.result (g.M.Door.said c.args.door.now) (g.M.Door.said c.carry_out.new.door) (g.M.Door.told c.args.door.now)
    (g.M.Door.told c.carry_out.new.door) (did g c)

pub returns-clause-said : goal.returns-clause-said
returns-clause-said g c =
    ok_said (check_of c.args.part.now c.args.moment c.args.region) c.args.part.now c.carry_out.new.part c.args.moment c.args.driver c.carry_out.result (g.M.Door.said c.args.door.now) (g.M.Door.said c.carry_out.new.door) (g.M.Door.told c.args.door.now)
    (g.M.Door.told c.carry_out.new.door) (did g c)

pub returns-clause-told : goal.returns-clause-told
returns-clause-told g c =
    ok_told (check_of c.args.part.now c.args.moment c.args.region) c.args.part.now c.carry_out.new.part c.args.moment c.args.driver c.carry_out.result (g.M.Door.said c.args.door.now) (g.M.Door.said c.carry_out.new.door) (g.M.Door.told c.args.door.now)
    (g.M.Door.told c.carry_out.new.door) (did g c)

pub returns-clause-after : goal.returns-clause-after
returns-clause-after g c =
    on_ok c.carry_out.result _ _
    (λ d t. after_check c.args.part.now c.advance.new.self c.carry_out.new.part c.args.moment c.args.region c.args.driver d (g.M.Door.said c.args.door.now) (g.M.Door.said c.carry_out.new.door) (g.M.Door.told c.args.door.now)
    (g.M.Door.told c.carry_out.new.door) c.advance.ensures.value c.carry_out.ensures.rest t) (did g c)
