use Rattle.std.proofs.Common.{◌≡◌, ap, sym, ◌∙◌, Some}
use Rattle.std.specs.FinMap as map
use Rattle.id_map.proofs.Inserted.{known-insert}
use Rattle.id_map.proofs.Tables.{insert-insert}
use Rattle.op_control.specs.Written.{progressed}
use Rattle.op_control.proofs.table.write.Goals as goal

pub set-requires : goal.set-requires
set-requires c = record { known = rw c.swap-op.ensures.value (known-insert c.args.last.now c.args.region c.blank.result) }

pub returns : goal.returns
returns c op found =
    let same : c.swap-op.result ≡ op = let both : Some c.swap-op.result ≡ Some op = sym c.swap-op.ensures.old ∙ found in cc in
    c.set.ensures.value ∙ ap (λ m. map.insert m c.args.region (progressed c.args.progress.passed c.args.progress.state c.args.progress.started c.swap-op.result)) c.swap-op.ensures.value
    ∙ insert-insert c.args.last.now c.args.region c.blank.result _ ∙ ap (λ o. map.insert c.args.last.now c.args.region (progressed c.args.progress.passed c.args.progress.state c.args.progress.started o)) same
