use Rattle.std.proofs.Common.{◌≡◌, [], subst, IfOk, List, None}
use Rattle.std.specs.Prelude.{Ok}
use Rattle.meta_store.specs.declared.record.MetaCall.{MetaCall}
use Rattle.meta_store.specs.Asked.{AreAsked}
use Rattle.rule_set.specs.Changes.{set_refusal}
use Rattle.pd_state.specs.Calls.{in_turn}
use Rattle.pd_state.specs.Replies.{set_refused}
use Rattle.pd_state.specs.StoredRules.{rule_told}
use Rattle.pd_state.proofs.Refusals.{told_at}
use Rattle.pd_state.proofs.placement.rule.Goals as goal

pub returns-clause-asked : goal.returns-clause-asked
returns-clause-asked g c =
    let told : rule_told c.args.json.now ≡ Ok c.in-Ok.rule = cc (c.in_ok-rule.ensures.value, c.in-Ok.is, c.as_slice.ensures.value) in
    let free : set_refused (set_refusal c.in-Ok.rule c.advance.new.self.rules) ≡ None = cc (c.in_default.ensures.value, c.as_slice-2.ensures.value, c.rules.ensures.value) in
    let calls = told_at c.args.part.now c.advance.new.self c.args.moment c.args.json.now c.in-Ok.rule c.advance.ensures.value told free in
    subst (λ (l : List MetaCall). IfOk c.set_rule.result (λ done. AreAsked (in_turn l) [] done.heard.answers)) calls c.set_rule.ensures.asked
