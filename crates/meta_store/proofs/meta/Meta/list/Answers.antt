use Rattle.meta_store.proofs.Refines.{all_under}
use Rattle.meta_store.proofs.meta.Meta.list.Goals as goal

pub returns : goal.returns
returns c = record { records = all_under c.under.result c.self.inside.entries.items c.args.self.now c.self.inside.tables c.args.prefix.now c.self.invariant.0 c.self.view_is c.under.ensures.value }
