-- What a source in memory that never fails has left, and what such a sink holds.
use Rattle.std.specs.Prelude.{ℕ, List, drop}
use Rattle.pd_io.specs.declared.sure.SureSource.{SureSource}
use Rattle.pd_io.specs.declared.sure.SureSink.{SureSink}

-- the bytes behind those that were given
abbrev pub sure_left : SureSource → List ℕ
sure_left s = drop s.at s.bytes.items

-- the bytes that it took
abbrev pub sure_held : SureSink → List ℕ
sure_held s = s.bytes.items
