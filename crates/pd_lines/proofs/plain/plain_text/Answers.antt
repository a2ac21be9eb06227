use Rattle.std.proofs.Common.{◌∙◌}
use Rattle.pd_lines.proofs.Cutting.{plain_utf8}
use Rattle.pd_lines.proofs.plain.plain_text.Goals as goal

pub returns : goal.returns
returns c = record { ok = c.of.ensures.value ∙ c.in_ok-from_utf8_lossy.ensures.ok (plain_utf8 c.args.word.now c.requires.plain) }
