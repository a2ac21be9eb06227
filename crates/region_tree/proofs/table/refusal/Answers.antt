use Rattle.std.proofs.Common.{◌∙◌, sym, refl}
use Rattle.region_tree.proofs.Puts.{staying_is, limit_refused, not_refused}
use Rattle.region_tree.proofs.table.refusal.Goals as goal

pub returns-then-staying-ge-MOST_REGIONS : goal.returns-then-staying-ge-MOST_REGIONS
returns-then-staying-ge-MOST_REGIONS c = record {
  value = sym (limit_refused c.args.beat.now c.args.held.now c.staying.result (sym c.stale_by.ensures.value ∙ c.in_default.is) c.if-staying-ge-MOST_REGIONS.true
      (staying_is c.args.beat.now c.args.held.now c.args.own c.args.run.from c.args.run.upto _ c.args.gone c.staying.result c.requires.apart c.requires.place c.requires.run c.requires.gone refl c.staying.ensures.value));
}

pub returns : goal.returns
returns c = record {
  value = sym (not_refused c.args.beat.now c.args.held.now c.staying.result (sym c.stale_by.ensures.value ∙ c.in_default.is) c.if-staying-ge-MOST_REGIONS.false
      (staying_is c.args.beat.now c.args.held.now c.args.own c.args.run.from c.args.run.upto _ c.args.gone c.staying.result c.requires.apart c.requires.place c.requires.run c.requires.gone refl c.staying.ensures.value));
}
