use Rattle.std.proofs.Common.{◌∙◌, sym, ap, Some}
use Rattle.pd_types.specs.declared.region.RegionBeat.{RegionBeat}
use Rattle.region_tree.specs.Ranges.{holds}
use Rattle.region_tree.proofs.Spots.{none_holds, last_holds, last_fails}
use Rattle.region_tree.proofs.table.find_key.Goals as goal

pub returns-then-upto-eq0-clause-value : goal.returns-then-upto-eq0-clause-value
returns-then-upto-eq0-clause-value c = none_holds c.args.key.now c.args.held.now c.upto_key-upto.result c.if-upto-eq0.true c.upto_key-upto.ensures.after

pub returns-then-holds-clause-value : goal.returns-then-holds-clause-value
returns-then-holds-clause-value c =
    ap (λ (b : RegionBeat). Some b) c.beat-one.ensures.value
    ∙ last_holds c.args.key.now c.args.held.now c.upto_key-upto.result c.index-held-upto.result c.requires.apart c.if-upto-eq0.false c.upto_key-upto.ensures.bound c.upto_key-upto.ensures.before c.index-held-upto.is
    (ap (λ (b : RegionBeat). holds b c.args.key.now) (sym c.beat-one.ensures.value) ∙ sym c.holds.ensures.value ∙ c.if-holds.true)

pub returns-else-holds-clause-value : goal.returns-else-holds-clause-value
returns-else-holds-clause-value c =
    last_fails c.args.key.now c.args.held.now c.upto_key-upto.result c.index-held-upto.result c.requires.apart c.if-upto-eq0.false c.upto_key-upto.ensures.bound c.upto_key-upto.ensures.before c.upto_key-upto.ensures.after c.index-held-upto.is
    (ap (λ (b : RegionBeat). holds b c.args.key.now) (sym c.beat-one.ensures.value) ∙ sym c.holds.ensures.value ∙ c.if-holds.false)
