use Rattle.std.proofs.Common.{rules, ◌≡◌, ◌++◌, subst}
use Rattle.std.specs.List.{AllZip}
use Rattle.tso_run.proofs.Pairs.{all_zip-append}
use Rattle.tso_run.proofs.halve.+fn-work_all-join_mut+arg2+fn-work_all-join_mut+arg3+work_all.Goals as goal

pub returns : goal.returns
returns g t c =
    let done = g.W.Work.done c.args.shared.now in
    let l = c.split_at_mut-left.result.0.now in let r = c.split_at_mut-left.result.1.now in
    let left : AllZip done l c.left-1.given.0 = search rules in
    let right : AllZip done r c.right-1.given.0 = search rules in
    let whole : l ++ r ≡ c.args.workers.now = search rules in
    subst (λ xs. AllZip done xs (c.left-1.given.0 ++ c.right-1.given.0)) whole (all_zip-append done l r c.left-1.given.0 c.right-1.given.0 left right)
