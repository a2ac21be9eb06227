use Rattle.pd_cluster.proofs.RunTexts.{heads}
use Rattle.pd_cluster.proofs.laws.each_journal_stands_behind_its_driver.Goals as goal

pub returns : goal.returns
returns c = record { heads = heads }
