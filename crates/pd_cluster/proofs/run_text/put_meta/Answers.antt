use Rattle.std.proofs.Common.{◌++◌}
use Rattle.std.specs.Prelude.{codes, string_bytes}
use Rattle.pd_cluster.specs.RunText.{meta_line}
use Rattle.pd_cluster.proofs.RunTexts.{numbered_read}
use Rattle.pd_cluster.proofs.run_text.put_meta.Goals as goal

pub loop-i-preserved : goal.loop-i-preserved
loop-i-preserved c = numbered_read meta_line c.args.entries.now c.loop-i.i c.index-entries-i.result (string_bytes c.args.text.now ++ codes "meta\n") _ _ c.loop-i-test.true c.index-entries-i.is c.loop-i.invariant c.in_ok-put_meta_entry.ensures.text
