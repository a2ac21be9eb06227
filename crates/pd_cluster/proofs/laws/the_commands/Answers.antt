use Rattle.std.proofs.Common.{ap, refl, true, ℕ, Option}
use Rattle.std.specs.Fmt.{decimal}
use Rattle.pd_lines.proofs.Numerals.{number_law}
use Rattle.pd_cluster.specs.Command.{tso_of}
use Rattle.pd_cluster.proofs.laws.the_commands.Goals as goal

pub returns-clause-tso : goal.returns-clause-tso
returns-clause-tso c = λ n lt. ap (λ (o : Option ℕ). tso_of true o) ((number_law (decimal n) n).1 (lt, refl))
