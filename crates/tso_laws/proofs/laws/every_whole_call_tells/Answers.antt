use Rattle.tso_laws.proofs.Leading.{lead_tells, tick_tells, resign_tells}
use Rattle.tso_laws.proofs.Named.{steps_name}
use Rattle.tso_laws.proofs.Noted.{tell_tells, hear_tells}
use Rattle.tso_laws.proofs.Taking.{take_tells}
use Rattle.tso_laws.proofs.laws.every_whole_call_tells.Goals as goal

pub returns : goal.returns
returns c = record {
  calls = λ w s. record {
    lead = λ d now has rest. lead_tells w s d has rest now;
    tick = λ d now has rest. tick_tells w s d has rest now;
    resign = λ d has rest. resign_tells w s d has rest;
    take = λ c d n has driver count rest. take_tells w s c d n has driver count rest;
    tell = λ from to has other rest. tell_tells w s from has rest to other;
    hear = λ c has rest. hear_tells w s c has rest;
  };
  steps = steps_name;
}
