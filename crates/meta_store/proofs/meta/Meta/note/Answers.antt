use Rattle.std.proofs.Common.{◌≡◌, ◌∙◌, ◌++◌, ◌∷◌, [], List, reverse, length, ap, arith}
use Rattle.meta_store.specs.declared.record.MetaEntry.{MetaEntry}
use Rattle.meta_store.specs.Past.{entry_of, verdict_of}
use Rattle.meta_store.proofs.Refines.{judged, kept, noted_is}
use Rattle.meta_store.proofs.meta.Meta.note.Goals as goal

pub returns-clause-verdict : goal.returns-clause-verdict
returns-clause-verdict c =
    let i = c.self.inside in
    let long : c.len.result ≡ length i.entries.items = omega (arith, c.len.ensures, c.reserve.ensures.len, i.entries.ok.0) in
    judged i.entries.items i.tables c.len.result c.args.call c.judge-verdict.result c.self.invariant.0 long c.judge-verdict.ensures.value
    ∙ ap (λ (j : List MetaEntry). verdict_of (reverse j) c.args.call) c.self.view_is

pub returns-clause-ok : goal.returns-clause-ok
returns-clause-ok c =
    let i = c.self.inside in
    let long : c.len.result ≡ length i.entries.items = omega (arith, c.len.ensures, c.reserve.ensures.len, i.entries.ok.0) in
    let is = judged i.entries.items i.tables c.len.result c.args.call c.judge-verdict.result c.self.invariant.0 long c.judge-verdict.ensures.value in
    let e : MetaEntry = entry_of c.args.driver c.args.call c.judge-verdict.result in
    noted_is i.entries.items c.args.self.now c.push_reserved.new.self.items c.args.driver c.args.call c.judge-verdict.result
    (c.push_reserved.ensures.items ∙ ap (λ (j : List MetaEntry). j ++ e ∷ []) c.reserve.ensures.items) is c.self.view_is

pub invariant_of-self-2 : goal.invariant_of-self-2
invariant_of-self-2 c =
    let i = c.self.inside in
    let long : c.len.result ≡ length i.entries.items = omega (arith, c.len.ensures, c.reserve.ensures.len, i.entries.ok.0) in
    let is = judged i.entries.items i.tables c.len.result c.args.call c.judge-verdict.result c.self.invariant.0 long c.judge-verdict.ensures.value in
    let e : MetaEntry = entry_of c.args.driver c.args.call c.judge-verdict.result in
    kept i.entries.items c.push_reserved.new.self.items i.tables c.apply.new.tables c.args.driver c.args.call c.judge-verdict.result
    c.self.invariant.0 c.self.invariant.1 is c.in_ok-apply.ensures.ok
    (c.push_reserved.ensures.items ∙ ap (λ (j : List MetaEntry). j ++ e ∷ []) c.reserve.ensures.items)
