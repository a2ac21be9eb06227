use Rattle.std.proofs.Common.{◌≡◌, reverse, length, arith}
use Rattle.meta_store.proofs.Refines.{are_all, handed}
use Rattle.meta_store.proofs.meta.Meta.lead.Goals as goal

pub returns-in-Ok-ask-clause-records : goal.returns-in-Ok-ask-clause-records
returns-in-Ok-ask-clause-records c =
    let i = c.self.inside in
    let long : c.len-entries.result ≡ length i.entries.items = omega (arith, c.len-entries.ensures, i.entries.ok.0) in
    are_all (reverse c.args.self.now) c.in-Ok.cells
    (handed i.entries.items c.args.self.now i.tables c.len-entries.result c.args.term c.in-Ok-ask.field-0 c.in-Ok.cells
    c.self.invariant.0 long c.self.view_is c.in-Ok.ensures.value c.in-Ok-ask.ensures.accepted)
