use Rattle.std.proofs.Common.{◌≡◌, ◌≤◌}
use Rattle.rule_fit.specs.Chosen.{size_of}
use Rattle.rule_fit.specs.Ids.{chosen_by}
use Rattle.rule_fit.proofs.certificate.size.Given as goal

abbrev pub invariant-loop-peer : goal.invariant-loop-peer
invariant-loop-peer l = (l.size ≡ size_of l.peer (chosen_by l.ids l.peers)) × (l.size ≤ l.peer)
