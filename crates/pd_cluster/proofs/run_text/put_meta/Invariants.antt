use Rattle.std.proofs.Common.{◌≡◌, ◌++◌, take}
use Rattle.std.specs.Prelude.{codes, string_bytes}
use Rattle.pd_cluster.specs.RunText.{meta_line, numbered}
use Rattle.pd_cluster.proofs.run_text.put_meta.Given as goal

abbrev pub invariant-loop-i : goal.invariant-loop-i
invariant-loop-i l = string_bytes l.text ≡ string_bytes l.fn.text ++ codes "meta\n" ++ numbered meta_line 1 (take l.i l.entries)
