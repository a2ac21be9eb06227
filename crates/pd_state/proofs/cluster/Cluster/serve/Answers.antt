use Rattle.std.proofs.Common.{arith, ◌++◌, ◌∷◌, [], reverse, sym, ap, subst, refl, ◌∙◌}
use Rattle.pd_state.specs.Clusters.{with_clock}
use Rattle.pd_state.specs.Heard.{told_all}
use Rattle.pd_state.specs.Legal.{IsLegalAfter}
use Rattle.pd_state.specs.State.{part_after}
use Rattle.pd_state.proofs.Refines.{entry_of, leaves, sends_from, served}
use Rattle.pd_state.proofs.Gates.{gated}
use Rattle.pd_state.proofs.Benched.{heard_again, over_bench}
use Rattle.pd_state.specs.Gates.{IsGated}
use Rattle.pd_state.proofs.cluster.Cluster.serve.Goals as goal

pub invariant_of-self-2 : goal.invariant_of-self-2
invariant_of-self-2 g c =
    let i = c.self.inside in let e = entry_of c.args.actor c.in_ok-sends.sends c.args.line c.args.request c.in_ok-reply.field-0.heard c.in_ok-reply.field-0.reply in
    let s = served i.driver i.entries c.push.new.self e i.part c.step.new.part
    c.in_ok-push.ensures.ok
    c.self.invariant.0 (c.self.invariant.1 c.if-self.false) c.in_ok-reply.ensures.reply c.in_ok-reply.ensures.asked c.in_ok-reply.ensures.after c.in_ok-reply.ensures.bench.turns (heard_again c.args.request c.in_ok-reply.field-0.heard.names _ c.in_ok-reply.ensures.bench.names) (sends_from i.driver i.entries i.part c.term_in-term.result c.in-Some.entry c.in_ok-sends.sends c.in_ok-reply.field-0.sents _ c.in_ok-sends.ensures.value c.term_in-term.ensures.value (omega (arith, c.in-Some.ensures, c.len.ensures.value)) c.in_ok-reply.ensures.sents) in
    (s.0.0, λ _. s.0.1)

pub returns-clause-ok : goal.returns-clause-ok
returns-clause-ok g c =
    let i = c.self.inside in let e = entry_of c.args.actor c.in_ok-sends.sends c.args.line c.args.request c.in_ok-reply.field-0.heard c.in_ok-reply.field-0.reply in
    let s = served i.driver i.entries c.push.new.self e i.part c.step.new.part
    c.in_ok-push.ensures.ok
    c.self.invariant.0 (c.self.invariant.1 c.if-self.false) c.in_ok-reply.ensures.reply c.in_ok-reply.ensures.asked c.in_ok-reply.ensures.after c.in_ok-reply.ensures.bench.turns (heard_again c.args.request c.in_ok-reply.field-0.heard.names _ c.in_ok-reply.ensures.bench.names) (sends_from i.driver i.entries i.part c.term_in-term.result c.in-Some.entry c.in_ok-sends.sends c.in_ok-reply.field-0.sents _ c.in_ok-sends.ensures.value c.term_in-term.ensures.value (omega (arith, c.in-Some.ensures, c.len.ensures.value)) c.in_ok-reply.ensures.sents) in
    record {
      entry = e;
      alive = sym (ap (λ v. v.dead) c.self.view_is) ∙ c.if-self.false;
      driver_is = ap (λ v. v.driver) c.self.view_is;
      appended = c.in_ok-push.ensures.ok ∙ ap (λ v. v.entries ++ e ∷ []) c.self.view_is;
      actor_is = refl;
      line_is = refl;
      request_is = refl;
      reply_is = sym c.in_ok-answered.ensures;
      said = c.in_ok-reply.ensures.said;
      told = c.in_ok-reply.ensures.told ∙ ap (λ v. told_all (g.M.Door.told c.args.door.now) v.driver c.in_ok-reply.field-0.heard.answers) c.self.view_is;
      bench = over_bench i.part _ e _ _ _ (c.self.invariant.1 c.if-self.false ∙ ap (λ v. part_after (reverse v.entries)) c.self.view_is) refl c.in_ok-reply.ensures.bench.names c.in_ok-reply.ensures.bench.turns c.in_ok-reply.ensures.bench.becomes;
      lives = refl;
      replays = s.0.1;
      legal = subst (λ v. IsLegalAfter v.driver (reverse v.entries) e) c.self.view_is s.1;
      gated = subst (λ v. IsGated (reverse v.entries) e) c.self.view_is (gated i.driver (reverse i.entries) e c.self.invariant.0 s.1);
      leaves = λ h. leaves i.driver i.part c.step.new.part e c.in_ok-reply.ensures.reply c.in_ok-reply.ensures.after h ∙ ap (λ v. with_clock e v.part) c.self.view_is;
    }
