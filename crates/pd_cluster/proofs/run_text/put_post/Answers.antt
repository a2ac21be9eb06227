use Rattle.std.proofs.Common.{◌++◌}
use Rattle.std.specs.Prelude.{codes, string_bytes}
use Rattle.pd_cluster.specs.RunText.{post_line}
use Rattle.pd_cluster.proofs.RunTexts.{numbered_more}
use Rattle.pd_cluster.proofs.run_text.put_post.Goals as goal

pub loop-i-preserved : goal.loop-i-preserved
loop-i-preserved c = numbered_more post_line c.args.entries.now c.loop-i.i _ (string_bytes c.args.text.now ++ codes "post\n") _ _ c.loop-i-test.true c.loop-i.invariant c.in_ok-put_post_entry.ensures.text
