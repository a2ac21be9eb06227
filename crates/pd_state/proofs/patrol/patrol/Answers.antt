use Rattle.std.proofs.Common.{List, [], sym, subst}
use Rattle.pd_state.specs.Adding.{around_of, planning_of}
use Rattle.pd_state.specs.Asking.{ear}
use Rattle.pd_state.specs.Checking.{Does, patrol_of}
use Rattle.pd_state.specs.declared.patrol.Planned.{Planned}
use Rattle.pd_state.specs.declared.patrol.Survey.{Survey}
use Rattle.pd_state.proofs.Carried.{after_patrol, asked_is, patrol_rest, patrol_whole, reply_is, said_is, sents_is, told_is}
use Rattle.pd_state.proofs.Short.{AreFew, plans_few}
use Rattle.pd_state.proofs.patrol.patrol.Given as given
use Rattle.pd_state.proofs.patrol.patrol.Goals as goal

pub sweep-requires-clause-few : goal.sweep-requires-clause-few
sweep-requires-clause-few g c =
    subst (λ (plans : List Planned). AreFew plans) (sym c.as_slice.ensures.value)
    (subst (λ (s : Survey). AreFew s.plans) (sym c.in_ok-found.ensures.value) (plans_few (around_of c.advance.new.self) c.advance.new.self.standing))

did : (g : given.Over) (c : goal.After-drop-found-2 g)
    → Does (patrol_of c.args.part.now c.args.moment) (planning_of c.bury_all.new.part) c.bury_all.new.part.stores c.with_log.result c.args.driver (ear [] c.args.part.now.known (g.M.Door.said c.args.door.now) (g.M.Door.told c.args.door.now))
    (ear c.with_log.result.heard.answers c.bury_all.new.part.known (g.M.Door.said c.bury_all.new.door) (g.M.Door.told c.bury_all.new.door))
did g c =
    patrol_whole c.args.part.now c.advance.new.self c.sweep.new.part c.bury_all.new.part c.args.moment c.in_ok-found.found c.as_slice.result.now c.in_ok-round.round c.in_ok-burial.burial c.new-log.result.sents c.sweep.new.log.sents c.new-log.result.answers
    c.sweep.new.log.answers c.bury_all.new.answers c.with_log.result c.args.driver (g.M.Door.said c.args.door.now) (g.M.Door.said c.sweep.new.door) (g.M.Door.said c.bury_all.new.door) (g.M.Door.told c.args.door.now) (g.M.Door.told c.sweep.new.door)
    (g.M.Door.told c.bury_all.new.door) c.advance.ensures.value c.new-log.ensures.sents c.new-log.ensures.answers c.in_ok-round.ensures.rest c.in_ok-burial.ensures.rest c.in_ok-found.ensures.value c.as_slice.ensures.value c.in_ok-round.ensures.talks
    c.in_ok-burial.ensures.talks c.with_log.ensures.reply c.with_log.ensures.sents c.with_log.ensures.heard

pub returns-clause-reply : goal.returns-clause-reply
returns-clause-reply g c = reply_is (patrol_of c.args.part.now c.args.moment) c.args.part.now c.bury_all.new.part c.args.moment c.args.driver c.with_log.result (g.M.Door.said c.args.door.now) (g.M.Door.said c.bury_all.new.door) (g.M.Door.told c.args.door.now) (g.M.Door.told c.bury_all.new.door) (did g c)

pub returns-clause-asked : goal.returns-clause-asked
returns-clause-asked g c = asked_is (patrol_of c.args.part.now c.args.moment) c.args.part.now c.bury_all.new.part c.args.moment c.args.driver c.with_log.result (g.M.Door.said c.args.door.now) (g.M.Door.said c.bury_all.new.door) (g.M.Door.told c.args.door.now) (g.M.Door.told c.bury_all.new.door) (did g c)

pub returns-clause-sents : goal.returns-clause-sents
returns-clause-sents g c = sents_is (patrol_of c.args.part.now c.args.moment) c.args.part.now c.bury_all.new.part c.args.moment c.args.driver c.with_log.result (g.M.Door.said c.args.door.now) (g.M.Door.said c.bury_all.new.door) (g.M.Door.told c.args.door.now) (g.M.Door.told c.bury_all.new.door) (did g c)

pub returns-clause-said : goal.returns-clause-said
returns-clause-said g c = said_is (patrol_of c.args.part.now c.args.moment) c.args.part.now c.bury_all.new.part c.args.moment c.args.driver c.with_log.result (g.M.Door.said c.args.door.now) (g.M.Door.said c.bury_all.new.door) (g.M.Door.told c.args.door.now) (g.M.Door.told c.bury_all.new.door) (did g c)

pub returns-clause-told : goal.returns-clause-told
returns-clause-told g c = told_is (patrol_of c.args.part.now c.args.moment) c.args.part.now c.bury_all.new.part c.args.moment c.args.driver c.with_log.result (g.M.Door.said c.args.door.now) (g.M.Door.said c.bury_all.new.door) (g.M.Door.told c.args.door.now) (g.M.Door.told c.bury_all.new.door) (did g c)

pub returns-clause-after : goal.returns-clause-after
returns-clause-after g c =
    after_patrol c.args.part.now c.advance.new.self c.bury_all.new.part c.args.moment c.args.workers c.args.driver c.with_log.result (g.M.Door.said c.args.door.now) (g.M.Door.said c.bury_all.new.door) (g.M.Door.told c.args.door.now)
    (g.M.Door.told c.bury_all.new.door) c.advance.ensures.value (patrol_rest c.advance.new.self c.sweep.new.part c.bury_all.new.part c.in_ok-round.ensures.rest c.in_ok-burial.ensures.rest) (did g c)
