use Rattle.std.proofs.Common.{arith, refl}
use Rattle.pd_cluster.proofs.Dealing.{item_more}
use Rattle.pd_cluster.proofs.run_lines.Dealt.to_driver.Goals as goal

pub returns : goal.returns
returns c = record { ok = (item_more c.args.self.now.tasks.drivers.items _ c.index_mut.result.now c.push.new.self c.args.line (omega (arith, c.requires.place.0, c.requires.place.1)) c.index_mut.ensures.value c.in_ok-push.ensures.items, refl, refl, refl) }
