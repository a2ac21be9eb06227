use Rattle.std.proofs.Common.{◌∙◌, subst}
use Rattle.region_tree.specs.Places.{IsPlace}
use Rattle.region_tree.proofs.Spots.{find_placed, find_unplaced}
use Rattle.region_tree.proofs.table.find_id.Goals as goal

pub returns-in-Some-clause-value : goal.returns-in-Some-clause-value
returns-in-Some-clause-value c =
    c.get.ensures.value ∙ find_placed c.args.held.now c.in-Some.place c.args.id c.requires.apart (subst (IsPlace c.args.held.now c.args.id) c.in-Some.is c.place_of.ensures.place)

pub returns-in-None-clause-value : goal.returns-in-None-clause-value
returns-in-None-clause-value c = find_unplaced c.args.held.now c.args.id (subst (IsPlace c.args.held.now c.args.id) c.in-None.is c.place_of.ensures.place)
