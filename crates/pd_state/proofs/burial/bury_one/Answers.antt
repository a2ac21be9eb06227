use Rattle.std.proofs.Common.{◌∙◌, ap}
use Rattle.store_table.specs.Entries.{state_at}
use Rattle.pd_state.specs.Asking.{ear}
use Rattle.pd_state.specs.Checking.{burial_at}
use Rattle.pd_state.proofs.Deeds.{bury_stopped}
use Rattle.pd_state.proofs.Graves.{buried_others}
use Rattle.pd_state.proofs.burial.bury_one.Goals as goal

pub returns-then-burial-clause-talks : goal.returns-then-burial-clause-talks
returns-then-burial-clause-talks g c =
    bury_stopped c.args.part.now.term c.args.grave.now (burial_at c.args.part.now c.args.burial) c.args.driver (ear c.args.answers.now c.args.part.now.known (g.M.Door.said c.args.door.now) (g.M.Door.told c.args.door.now)) c.if-burial.true

pub returns-clause-others : goal.returns-clause-others
returns-clause-others g c = λ id apart. ap (state_at id) c.in-Ok.ensures.ok ∙ buried_others c.args.grave.now.id c.args.part.now.stores id apart
