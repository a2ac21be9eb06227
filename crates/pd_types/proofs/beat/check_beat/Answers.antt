use Rattle.std.proofs.Common.{rules}
use Rattle.pd_types.proofs.BeatLemmas.{first_least}
use Rattle.pd_types.proofs.beat.check_beat.Goals as goal

pub returns-in-Some-clause-least : goal.returns-in-Some-clause-least
returns-in-Some-clause-least c = first_least c.args.beat.now c.in-Some.fault (search rules)
