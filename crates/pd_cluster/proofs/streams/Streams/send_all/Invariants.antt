use Rattle.std.proofs.Common.{◌≡◌, drop}
use Rattle.pd_cluster.specs.Streams.{with_messages}
use Rattle.pd_cluster.proofs.streams.Streams.send_all.Given as goal

abbrev pub invariant-loop-message : goal.invariant-loop-message
invariant-loop-message l = with_messages l.fn.self l.messages ≡ with_messages l.self (drop l.message-index l.messages)
