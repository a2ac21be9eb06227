use Rattle.std.proofs.Common.{drop}
use Rattle.pd_lines.proofs.Pieces.{front_and_rest}
use Rattle.pd_lines.proofs.output.what_is_written_is_the_front.Goals as goal

pub returns : goal.returns
returns c old new text written = (drop written.0 text, front_and_rest old new text written.0 written.1)
