use Rattle.store_table.specs.Live.{state_name}
use Rattle.pd_ctl.proofs.Written.{absent_is, check_is, leader_is, nowhere_is, operators_is, region_is, schedulers_is, store_is, stores_is, tso_is, unknown_is}
use Rattle.pd_ctl.proofs.laws.reports_are_written_so.Goals as goal

pub returns : goal.returns
returns c = record {
  stores = λ parts. stores_is parts.stores.now parts.standing.now parts.clock;
  store = λ parts id entry is. rw is (store_is entry.store (state_name entry parts.clock) parts.standing.now);
  region = λ parts id beat is. rw is (region_is beat);
  key = λ parts key beat is. rw is (region_is beat);
  operators = λ parts. operators_is parts.operators.now;
  check = λ parts region state is. rw is (check_is region state);
  schedulers = λ parts. schedulers_is parts.names.now;
  leader = λ parts. leader_is parts.driver parts.term;
  tso = λ parts ts. tso_is ts;
  unknown = λ parts id none. rw none unknown_is;
  nowhere = λ parts id none. rw none nowhere_is;
  unheld = λ parts key none. rw none nowhere_is;
  absent = λ parts region none. rw none absent_is;
}
