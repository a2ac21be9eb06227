use Rattle.std.proofs.Common.{◌≡◌, ℕ, List, Option, map, subst, sym, arith}
use Rattle.std.specs.Prelude.{IfOk, OnOk}
use Rattle.pd_types.specs.declared.request.Request.{Request}
use Rattle.pd_script.specs.Lawful.{IsLawful}
use Rattle.pd_script.specs.declared.act.Act.{Act}
use Rattle.sched_api.specs.Benches.{Seats}
use Rattle.pd_cluster.specs.Clusters.{HoweverTheyEnd, state_of}
use Rattle.pd_cluster.specs.Replay.{SaysEnoughFor, State, Turned, asked_line, line_step, oracle_line, request_of}
use Rattle.pd_cluster.proofs.Benching.{goes_same}
use Rattle.pd_cluster.proofs.Reaching.{asks_none, is_oracles}
use Rattle.pd_cluster.proofs.Serving.{always}
use Rattle.pd_cluster.proofs.replay.Replay.run.Goals as goal

pub ask-requires-clause-first : goal.ask-requires-clause-first
ask-requires-clause-first g c =
    let lawful = subst (λ (act : Act). IsLawful c.args.self.now.core.setup.drivers c.args.self.now.core.setup.clients act) c.in-Ask.is c.requires.lawful in
    omega (arith, lawful.0.low)

pub returns-in-Ask-clause-said : goal.returns-in-Ask-clause-said
returns-in-Ask-clause-said g c =
    let old : List Seats = map g.B.Seated.seats c.args.benches.now.items in
    let new : List Seats = map g.B.Seated.seats c.ask.new.benches.items in
    rw (c.in-Ask.is)
    (subst (λ (request : Request). IfOk c.ask.result (λ said. HoweverTheyEnd new (λ ends. said ≡ (asked_line (state_of c.args.self.now old ends) c.args.line.number c.in-Ask.driver request).said))) c.into_value.ensures.value c.ask.ensures.said)

pub returns-in-Ask-clause-after : goal.returns-in-Ask-clause-after
returns-in-Ask-clause-after g c =
    let old : List Seats = map g.B.Seated.seats c.args.benches.now.items in
    let new : List Seats = map g.B.Seated.seats c.ask.new.benches.items in
    rw (c.in-Ask.is)
    (subst (λ (request : Request). OnOk c.ask.result (HoweverTheyEnd new (λ ends. state_of c.ask.new.self new ends ≡ (asked_line (state_of c.args.self.now old ends) c.args.line.number c.in-Ask.driver request).after))) c.into_value.ensures.value
    c.ask.ensures.after)

pub returns-in-Ask-clause-turns : goal.returns-in-Ask-clause-turns
returns-in-Ask-clause-turns g c = rw (c.in-Ask.is) (rw (c.into_value.ensures.value) at c.ask.ensures.turns)

pub returns-in-Pop-clause-said : goal.returns-in-Pop-clause-said
returns-in-Pop-clause-said g c = λ ends goes. rw (c.in-Pop.is) (c.pop.ensures.said (map g.B.Seated.seats c.args.benches.now.items) ends)

pub returns-in-Pop-clause-after : goal.returns-in-Pop-clause-after
returns-in-Pop-clause-after g c = λ ends goes. rw (c.in-Pop.is) (c.pop.ensures.after (map g.B.Seated.seats c.args.benches.now.items) ends)

pub returns-in-Pop-clause-turns : goal.returns-in-Pop-clause-turns
returns-in-Pop-clause-turns g c = λ ends goes. rw (c.in-Pop.is) tt

pub returns-in-Pop-clause-benches : goal.returns-in-Pop-clause-benches
returns-in-Pop-clause-benches g c = goes_same _

pub returns-in_default : goal.returns-in_default
returns-in_default g c =
    let old : List Seats = map g.B.Seated.seats c.args.benches.now.items in
    let new : List Seats = map g.B.Seated.seats c.oracle_line.new.benches.items in
    let is : (λ (state : State). oracle_line state c.args.line) ≡ (λ (state : State). line_step state c.args.line) =
    λ i state. is_oracles state c.args.line c.in_default.not-Ask c.in_default.not-Pop i in
    record {
      said = subst (λ (does : State → Turned). IfOk c.oracle_line.result (λ said. HoweverTheyEnd new (λ ends. said ≡ (does (state_of c.args.self.now old ends)).said))) is c.oracle_line.ensures.said;
      after = subst (λ (does : State → Turned). OnOk c.oracle_line.result (HoweverTheyEnd new (λ ends. state_of c.oracle_line.new.self new ends ≡ (does (state_of c.args.self.now old ends)).after))) is c.oracle_line.ensures.after;
      turns = always c.oracle_line.result (HoweverTheyEnd new (λ ends. SaysEnoughFor (state_of c.args.self.now old ends) (request_of c.args.line.act)))
          (λ ends goes. subst (λ (asked : Option (ℕ × Request)). SaysEnoughFor (state_of c.args.self.now old ends) asked) (sym (asks_none c.args.line.act c.in_default.not-Ask)) tt);
      benches = c.oracle_line.ensures.benches;
      ready = c.oracle_line.ensures.ready;
      setup = c.oracle_line.ensures.setup;
    }
