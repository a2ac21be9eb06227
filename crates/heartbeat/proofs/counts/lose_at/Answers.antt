use Rattle.std.proofs.Common.{◌∙◌, ◌-◌, ℕ, sym, ap, nat_eq}
use Rattle.std.specs.Option.{option_copied}
use Rattle.heartbeat.specs.Kept.{leaders_at}
use Rattle.heartbeat.proofs.CountLemmas.{kept, lost, one_of_both}
use Rattle.heartbeat.proofs.counts.lose_at.Goals as goal

pub returns-clause-regions : goal.returns-clause-regions
returns-clause-regions c =
    lost c.args.counts.now c.set.new.self c.args.store _ c.set.ensures.value (λ row. row.regions) c.in-Some.count.now 1 (sym (ap option_copied c.in-Some.is) ∙ c.get.ensures.value) c.saturating_sub.ensures

pub returns-clause-leaders : goal.returns-clause-leaders
returns-clause-leaders c s =
    lost c.args.counts.now c.set.new.self c.args.store _ c.set.ensures.value (λ row. row.leaders) c.in-Some.count.now _ (sym (ap option_copied c.in-Some.is) ∙ c.get.ensures.value)
    (c.saturating_sub-2.ensures ∙ ap (λ (n : ℕ). c.in-Some.count.now.leaders - n) c.from.ensures) s
    ∙ ap (λ (n : ℕ). leaders_at c.args.counts.now s - n) (one_of_both (nat_eq c.args.store s) c.args.leads)

pub returns-clause-kept : goal.returns-clause-kept
returns-clause-kept c = kept c.args.counts.now c.set.new.self c.args.store _ c.set.ensures.value
