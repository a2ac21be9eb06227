use Rattle.pd_lines.proofs.Numerals.{number_is}
use Rattle.pd_lines.proofs.words.number.Goals as goal

pub returns : goal.returns
returns c = record { value = number_is _ _ c.spelled.ensures.some c.spelled.ensures.none }
