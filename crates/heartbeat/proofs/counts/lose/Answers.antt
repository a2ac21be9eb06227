use Rattle.std.proofs.Common.{◌∙◌, ◌-◌, ℕ, ap, arith}
use Rattle.heartbeat.specs.Kept.{leaders_at}
use Rattle.heartbeat.proofs.CountLemmas.{led_once}
use Rattle.heartbeat.proofs.counts.lose.Goals as goal

pub returns-clause-leaders : goal.returns-clause-leaders
returns-clause-leaders c store =
    c.loop-place.invariant.leaders store
    ∙ ap (λ (n : ℕ). leaders_at c.args.counts.now store - n)
    (led_once c.args.beat.now c.as_slice-peers.result.now c.loop-place.place store c.as_slice-peers.ensures.value (omega (arith, c.loop-place-test.false)))
