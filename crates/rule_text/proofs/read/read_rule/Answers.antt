use Rattle.serde_json.specs.View.{view}
use Rattle.rule_text.proofs.Readable.{answer_readable}
use Rattle.rule_text.proofs.read.read_rule.Goals as goal

pub returns-in-Ok-clause-readable : goal.returns-in-Ok-clause-readable
returns-in-Ok-clause-readable c = answer_readable (view c.in-Ok.value) c.read_value.result c.read_value.ensures.rule
