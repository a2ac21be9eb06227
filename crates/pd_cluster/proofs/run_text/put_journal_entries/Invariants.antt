use Rattle.std.proofs.Common.{◌≡◌, ◌++◌, take}
use Rattle.std.specs.Prelude.{string_bytes}
use Rattle.pd_cluster.specs.RunText.{entry_line, numbered}
use Rattle.pd_cluster.proofs.run_text.put_journal_entries.Given as goal

abbrev pub invariant-loop-i : goal.invariant-loop-i
invariant-loop-i l = string_bytes l.text ≡ string_bytes l.fn.text ++ numbered entry_line 1 (take l.i l.entries)
