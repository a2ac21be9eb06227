use Rattle.std.proofs.Common.{refl}
use Rattle.std.specs.Fmt.{decimal}
use Rattle.pd_lines.proofs.Numerals.{number_law}
use Rattle.meta_store.proofs.text.ids_are_read_as_they_are_written.Goals as goal

pub returns : goal.returns
returns c = record { read = λ end below. (number_law (decimal end) end).1 (below, refl) }
