use Rattle.std.proofs.Common.{refl}
use Rattle.hex.specs.Hex.{decode_pairs}
use Rattle.pd_lines.proofs.hexadecimal.keys_are_spelled_in_hexadecimal.Goals as goal

pub returns-clause-bytes : goal.returns-clause-bytes
unfolding decode_pairs
returns-clause-bytes c = refl

pub returns-clause-cases : goal.returns-clause-cases
unfolding decode_pairs
returns-clause-cases c = refl

pub returns-clause-dashes : goal.returns-clause-dashes
unfolding decode_pairs
returns-clause-dashes c = refl
