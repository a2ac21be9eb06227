use Rattle.std.proofs.Common.{◌==◌}
use Rattle.std.proofs.lemmas.List.Elements.{filter-append}
use Rattle.tso_run.specs.declared.line.ClientLine.{ClientLine}
use Rattle.tso_run.proofs.Naming.{equal, passed, same, stays}
use Rattle.tso_run.proofs.laws.each_line_is_its_actors.Goals as goal

pub returns : goal.returns
returns c = record {
  client = λ lines line held. stays (λ (l : ClientLine). l.client == line.client) lines line (same line.client) held;
  no_other_client = λ n lines line held. equal line.client n (passed (λ (l : ClientLine). l.client == n) lines line held);
  client_order = λ n lines later. filter-append (λ (l : ClientLine). l.client == n) lines later;
}
