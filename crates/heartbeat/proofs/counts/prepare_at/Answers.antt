use Rattle.std.proofs.Common.{◌∙◌, sym, ap, refl, not}
use Rattle.std.specs.Option.{option_copied}
use Rattle.heartbeat.proofs.CountLemmas.{kept, here, zeros, none_of}
use Rattle.heartbeat.proofs.counts.prepare_at.Goals as goal

pub returns-in_ok-put-clause-regions : goal.returns-in_ok-put-clause-regions
returns-in_ok-put-clause-regions c = zeros c.args.counts.now c.put.new.self c.args.store _ c.in_ok-put.ensures.ok (λ row. row.regions) (sym c.get.ensures.value ∙ ap option_copied (none_of c.get.result (c.is_none.ensures ∙ ap not c.if-is_none.true))) refl

pub returns-in_ok-put-clause-leaders : goal.returns-in_ok-put-clause-leaders
returns-in_ok-put-clause-leaders c = zeros c.args.counts.now c.put.new.self c.args.store _ c.in_ok-put.ensures.ok (λ row. row.leaders) (sym c.get.ensures.value ∙ ap option_copied (none_of c.get.result (c.is_none.ensures ∙ ap not c.if-is_none.true))) refl

pub returns-in_ok-put-clause-known : goal.returns-in_ok-put-clause-known
returns-in_ok-put-clause-known c = here c.args.counts.now c.put.new.self c.args.store _ c.in_ok-put.ensures.ok

pub returns-in_ok-put-clause-kept : goal.returns-in_ok-put-clause-kept
returns-in_ok-put-clause-kept c = kept c.args.counts.now c.put.new.self c.args.store _ c.in_ok-put.ensures.ok
