-- What a source in memory has left and a sink in memory holds, and which of their calls fail (own choice, for tests).
use Rattle.std.specs.Prelude.{ℕ, ◌+◌, ◌-◌, ◌^◌, List, drop, min}
use Rattle.pd_io.specs.declared.memory.MemSource.{MemSource}
use Rattle.pd_io.specs.declared.memory.MemSink.{MemSink}

-- the bytes behind those that were given
abbrev pub source_left : MemSource → List ℕ
source_left s = drop s.at s.bytes.items

-- the numbers of the calls that fail
abbrev pub source_fails : MemSource → List ℕ
source_fails s = s.fails.items

-- how many calls were made
abbrev pub source_calls : MemSource → ℕ
source_calls s = s.calls

-- the most bytes that it gives in a call
abbrev pub source_piece : MemSource → ℕ
source_piece s = s.piece

-- how often it has failed
abbrev pub source_faults : MemSource → ℕ
source_faults s = s.faults

-- the bytes that it took
abbrev pub sink_held : MemSink → List ℕ
sink_held s = s.bytes.items

-- the numbers of the calls that fail
abbrev pub sink_fails : MemSink → List ℕ
sink_fails s = s.fails.items

-- how many calls were made
abbrev pub sink_calls : MemSink → ℕ
sink_calls s = s.calls

-- the most bytes that it takes in a call
abbrev pub sink_piece : MemSink → ℕ
sink_piece s = s.piece

-- how often it has failed
abbrev pub sink_faults : MemSink → ℕ
sink_faults s = s.faults

-- the number of the next call, counted from 1 up to the type's end
abbrev pub next_call : ℕ → ℕ
next_call calls = min (calls + 1) (2 ^ 32 - 1)
