use Rattle.std.proofs.Common.{◌≡◌, false, sym, refl, arith}
use Rattle.std.proofs.lemmas.Grind.{common_steps}
use Rattle.std.proofs.lemmas.Bool.{true≢false}
use Rattle.rule_fit.specs.Ids.{apart_test}
use Rattle.rule_fit.proofs.IdLemmas.{apart_end, apart_fails}
use Rattle.rule_fit.proofs.ids.are_apart.Goals as goal

pub returns-then-is_peer-clause-apart : goal.returns-then-is_peer-clause-apart
returns-then-is_peer-clause-apart c =
    let fails : false ≡ apart_test c.args.peers.now = grind (arith, common_steps) in
    (λ told. absurd (true≢false (sym told)), λ apart. absurd (apart_fails c.args.peers.now fails apart))

pub returns-clause-apart : goal.returns-clause-apart
returns-clause-apart c = (λ told. apart_end c.args.peers.now c.loop-place.place c.loop-place-test.false c.loop-place.invariant, λ apart. refl)
