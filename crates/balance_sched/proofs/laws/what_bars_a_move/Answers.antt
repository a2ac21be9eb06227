use Rattle.std.proofs.Common.{subst, sym, Contains}
use Rattle.store_table.specs.Entries.{is_live, is_usable}
use Rattle.heartbeat.specs.Counts.{is_on, leads_on}
use Rattle.balance_sched.proofs.LawLemmas.{not_able, not_both, not_taken, not_the_leader, not_vacant}
use Rattle.balance_sched.proofs.laws.what_bars_a_move.Goals as goal

pub returns : goal.returns
returns c = record {
  busy = λ kind tables beat move busy moves. moves.idle (subst (Contains tables.busy) (sym moves.region) busy);
  unfit = λ kind tables beat move unfit moves. unfit moves.fits;
  breaks = λ kind tables beat move breaks moves. breaks moves.after;
  silent = λ kind tables beat move silent moves. not_both (is_live move.from tables.now tables.stores) silent moves.from_live;
  unheard = λ kind tables beat move silent moves. not_both (is_live move.to tables.now tables.stores) silent moves.to_live;
  unusable = λ kind tables beat move unusable moves. not_both (is_usable move.to tables.now tables.stores) unusable moves.to_usable;
  elsewhere = λ tables beat move none moves. not_both (is_on move.from beat) none moves.source;
  follower = λ tables beat move none moves. not_both (leads_on move.from beat) none moves.source;
  occupied = λ tables beat move has moves. not_taken (is_on move.to beat) has moves.target;
  vacant = λ tables beat move none moves. not_vacant tables beat move.to none moves.target;
  leading = λ tables beat move peer found same moves. not_the_leader tables beat move.to peer found same moves.target;
  unable = λ tables beat move peer found unable moves. not_able tables beat move.to peer found unable moves.target;
}
