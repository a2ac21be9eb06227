use Rattle.std.proofs.Common.{arith, length, subst}
use Rattle.balance_sched.specs.Search.{IsBest}
use Rattle.balance_sched.specs.Tables.{tables_of}
use Rattle.balance_sched.proofs.SearchLemmas.{proposes_none, proposes_one}
use Rattle.balance_sched.proofs.search.propose.Goals as goal

pub returns-in-Some : goal.returns-in-Some
returns-in-Some c =
    rw c.proposal_of.ensures
    (proposes_one c.args.view.kind (tables_of c.args.view.stores.now c.args.view.standing.now c.args.view.rules.now c.args.view.busy.now c.args.view.now) (length c.args.view.standing.now) c.in-Some.one (omega arith)
    (subst (IsBest c.args.view.kind (tables_of c.args.view.stores.now c.args.view.standing.now c.args.view.rules.now c.args.view.busy.now c.args.view.now) (length c.args.view.standing.now)) c.in-Some.is c.in_ok-one.ensures))

pub returns : goal.returns
returns c =
    proposes_none c.args.view.kind (tables_of c.args.view.stores.now c.args.view.standing.now c.args.view.rules.now c.args.view.busy.now c.args.view.now) (length c.args.view.standing.now) (omega arith)
    (subst (IsBest c.args.view.kind (tables_of c.args.view.stores.now c.args.view.standing.now c.args.view.rules.now c.args.view.busy.now c.args.view.now) (length c.args.view.standing.now)) c.in-None.is c.in_ok-one.ensures)
