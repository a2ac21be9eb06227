use Rattle.pd_lines.proofs.Numerals.{number_law}
use Rattle.pd_lines.proofs.words.spells_its_number.Goals as goal

pub returns : goal.returns
returns c = record { spelling = number_law }
