use Rattle.std.proofs.Common.{rules, ◌≡◌, ◌∙◌, ◌-◌, ◌++◌, ◌∷◌, [], List, get_or, length, arith, sym, ap, subst}
use Rattle.std.specs.Vec.{vec_len}
use Rattle.pd_run.proofs.Porting.{made_after, popped_after, port_at, ports_after, ports_length, streams_after}
use Rattle.pd_run.specs.Works.{IsPort}
use Rattle.pd_run.specs.declared.answer.StoreAnswer.{StoreAnswer}
use Rattle.pd_run.proofs.storing.StoreWork.answer_line.Goals as goal

pub index_mut-port-requires : goal.index_mut-port-requires
index_mut-port-requires g c =
    let len : vec_len c.args.self.now.ports ≡ length c.args.self.now.ports.items = search rules in
    omega (arith, c.requires.line.0, c.requires.line.1, len, ports_length {N = g.row.N.Denot} c.args.self.now.store c.args.clusters.now c.args.self.now.ports.items c.requires.ports)

pub answer-requires-clause-cluster : goal.answer-requires-clause-cluster
answer-requires-clause-cluster g c =
    (subst (IsPort {N = g.row.N.Denot} c.args.self.now.store (get_or c.args.clusters.now (c.args.line.driver - 1) c.index-clusters-place.result)) (sym c.index_mut-port.ensures.value)
    (port_at {N = g.row.N.Denot} c.args.self.now.store c.args.clusters.now c.args.self.now.ports.items (c.args.line.driver - 1) c.index-clusters-place.result c.index_mut-port.result.now c.requires.ports (omega (arith, c.requires.line.0, c.requires.line.1)))).cluster_is
    ∙ sym c.index-clusters-place.is

pub answer-requires-clause-stream : goal.answer-requires-clause-stream
answer-requires-clause-stream g c =
    (subst (IsPort {N = g.row.N.Denot} c.args.self.now.store (get_or c.args.clusters.now (c.args.line.driver - 1) c.index-clusters-place.result)) (sym c.index_mut-port.ensures.value)
    (port_at {N = g.row.N.Denot} c.args.self.now.store c.args.clusters.now c.args.self.now.ports.items (c.args.line.driver - 1) c.index-clusters-place.result c.index_mut-port.result.now c.requires.ports (omega (arith, c.requires.line.0, c.requires.line.1)))).stream_is

pub returns-in_err-says-clause-ports : goal.returns-in_err-says-clause-ports
returns-in_err-says-clause-ports g c = ports_after {N = g.row.N.Denot} c.args.self.now.store c.args.clusters.now c.args.self.now.ports.items c.requires.ports c.args.line c.requires.line c.index_mut-port.result.now c.answer.new.self c.index_mut-port.ensures.value c.answer.ensures.stays

pub returns-clause-ports : goal.returns-clause-ports
returns-clause-ports g c = ports_after {N = g.row.N.Denot} c.args.self.now.store c.args.clusters.now c.args.self.now.ports.items c.requires.ports c.args.line c.requires.line c.index_mut-port.result.now c.answer.new.self c.index_mut-port.ensures.value c.answer.ensures.stays

pub returns-in_err-says-clause-streams : goal.returns-in_err-says-clause-streams
returns-in_err-says-clause-streams g c = streams_after {N = g.row.N.Denot} c.args.self.now.store c.args.clusters.now c.args.self.now.ports.items c.requires.ports c.args.line c.requires.line c.index_mut-port.result.now c.answer.new.self c.index_mut-port.ensures.value c.answer.ensures.stays

pub returns-clause-streams : goal.returns-clause-streams
returns-clause-streams g c = streams_after {N = g.row.N.Denot} c.args.self.now.store c.args.clusters.now c.args.self.now.ports.items c.requires.ports c.args.line c.requires.line c.index_mut-port.result.now c.answer.new.self c.index_mut-port.ensures.value c.answer.ensures.stays

pub returns-clause-ok : goal.returns-clause-ok
returns-clause-ok g c =
    let done = c.in_ok-says.ensures.ok in record {
      says = c.in_ok-says.says;
      own = done.own;
      did = done.did;
      made = made_after {N = g.row.N.Denot} c.args.self.now.store c.args.clusters.now c.args.self.now.ports.items c.requires.ports c.args.line c.requires.line c.index_mut-port.result.now c.answer.new.self c.index_mut-port.ensures.value c.answer.ensures.stays c.in_ok-says.says done;
      popped = popped_after {N = g.row.N.Denot} c.args.self.now.store c.args.clusters.now c.args.self.now.ports.items c.requires.ports c.args.line c.requires.line c.index_mut-port.result.now c.answer.new.self c.index_mut-port.ensures.value c.answer.ensures.stays c.in_ok-says.says done;
      answers = c.push_reserved.ensures.items ∙ ap (λ (xs : List StoreAnswer). xs ++ record { line = c.args.line.number; driver = c.args.line.driver; says = c.in_ok-says.says } ∷ []) c.in_ok-reserve.ensures.items;
    }
