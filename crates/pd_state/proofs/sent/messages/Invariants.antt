use Rattle.std.proofs.Common.{◌≡◌, map, take}
use Rattle.pd_state.specs.Sends.{message}
use Rattle.pd_state.proofs.sent.messages.Given as goal

abbrev pub invariant-loop-sent : goal.invariant-loop-sent
invariant-loop-sent l = l.messages ≡ map (message l.driver l.term l.entry) (take l.sent-index l.sent-items)
