use Rattle.std.proofs.Common.{◌≡◌, ◌++◌, take}
use Rattle.std.specs.Prelude.{codes, string_bytes}
use Rattle.pd_cluster.specs.RunText.{numbered, post_line}
use Rattle.pd_cluster.proofs.run_text.put_post.Given as goal

abbrev pub invariant-loop-i : goal.invariant-loop-i
invariant-loop-i l = string_bytes l.text ≡ string_bytes l.fn.text ++ codes "post\n" ++ numbered post_line 1 (take l.i l.entries)
