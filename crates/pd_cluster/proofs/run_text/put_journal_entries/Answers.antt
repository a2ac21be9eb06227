use Rattle.std.specs.Prelude.{string_bytes}
use Rattle.pd_cluster.specs.RunText.{entry_line}
use Rattle.pd_cluster.proofs.RunTexts.{numbered_read}
use Rattle.pd_cluster.proofs.run_text.put_journal_entries.Goals as goal

pub loop-i-preserved : goal.loop-i-preserved
loop-i-preserved c = numbered_read entry_line c.args.entries.now c.loop-i.i c.index-entries-i.result (string_bytes c.args.text.now) _ _ c.loop-i-test.true c.index-entries-i.is c.loop-i.invariant c.in_ok-put_journal_entry.ensures.text
