use Rattle.std.proofs.Common.{◌∙◌, subst}
use Rattle.region_tree.specs.Places.{IsPlace}
use Rattle.region_tree.proofs.Spots.{others_some, others_none, own_found, find_unplaced}
use Rattle.region_tree.proofs.exchange.take_own.Goals as goal

pub returns-in-Some-clause-value : goal.returns-in-Some-clause-value
returns-in-Some-clause-value c =
    c.remove.ensures.by_index.2 ∙ others_some c.args.held.now.items c.in-Some.place c.args.id c.requires.apart (subst (IsPlace c.args.held.now.items c.args.id) c.in-Some.is c.requires.place)

pub returns-in-None-clause-value : goal.returns-in-None-clause-value
returns-in-None-clause-value c = others_none c.args.held.now.items c.args.id (subst (IsPlace c.args.held.now.items c.args.id) c.in-None.is c.requires.place)

pub returns-in-None-clause-own : goal.returns-in-None-clause-own
returns-in-None-clause-own c = find_unplaced c.args.held.now.items c.args.id (subst (IsPlace c.args.held.now.items c.args.id) c.in-None.is c.requires.place)

pub returns-in-Some-clause-own : goal.returns-in-Some-clause-own
returns-in-Some-clause-own c =
    own_found c.args.held.now.items c.in-Some.place c.args.id c.into_beat.result c.remove.result c.requires.apart (subst (IsPlace c.args.held.now.items c.args.id) c.in-Some.is c.requires.place)
    (c.into_beat.ensures.value ∙ c.remove.ensures.value)
