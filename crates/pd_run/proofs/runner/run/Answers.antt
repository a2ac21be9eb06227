use Rattle.std.proofs.Common.{rules, ◌≡◌, ◌∙◌, length, refl}
use Rattle.pd_shared.specs.Names.{no_meta}
use Rattle.pd_run.proofs.Readying.{opened_seats, seats_count}
use Rattle.pd_run.proofs.runner.run.Goals as goal

pub run_named-requires-clause-named : goal.run_named-requires-clause-named
run_named-requires-clause-named g c κs within = refl

pub run_named-requires-clause-metas : goal.run_named-requires-clause-metas
run_named-requires-clause-metas g c κs within = opened_seats c.in_ok-metas.metas.seats.items no_meta c.in_ok-metas.ensures.opened

pub run_named-requires-clause-each : goal.run_named-requires-clause-each
run_named-requires-clause-each g c κs within =
    let count : c.len.result ≡ length c.args.crew.seats.items = search rules in
    c.in_ok-pipes.ensures.drivers ∙ count ∙ seats_count c.args.crew.board c.args.crew.seats.items c.requires.opened.drivers

pub run_named-requires-clause-streams : goal.run_named-requires-clause-streams
run_named-requires-clause-streams g c κs within = refl
