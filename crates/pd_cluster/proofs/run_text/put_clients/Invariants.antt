use Rattle.std.proofs.Common.{◌≡◌, ◌++◌, take}
use Rattle.std.specs.Prelude.{flat_map, string_bytes}
use Rattle.tso_run.specs.declared.end.ClientAnswers.{ClientAnswers}
use Rattle.pd_cluster.specs.RunText.{client_section}
use Rattle.pd_cluster.proofs.run_text.put_clients.Given as goal

abbrev pub invariant-loop-client : goal.invariant-loop-client
invariant-loop-client l = string_bytes l.text ≡ string_bytes l.fn.text ++ flat_map (λ (d : ClientAnswers). client_section d.number d.answers.items) (take l.client-index l.clients)
