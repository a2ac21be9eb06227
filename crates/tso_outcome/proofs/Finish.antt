-- What the runner knows makes the run a lawful one.
use Rattle.std.proofs.Common.{subst}
use Rattle.std.specs.Prelude.{Contains}
use Rattle.tso_model.specs.Words.{opening_claim}
use Rattle.tso_model.proofs.Sorted.{windows_rise}
use Rattle.tso_outcome.specs.Runs.{Run}
use Rattle.tso_outcome.proofs.Ended.{CameBack}
use Rattle.tso_outcome.specs.Ends.{IsFinished, DriverEnd, ClientEnd}
use Rattle.tso_outcome.proofs.Above.{to_map}
use Rattle.tso_outcome.proofs.Numbers.{distinct_from, from_low}

pub came_back : (run : Run) → IsFinished run → CameBack run
came_back run f = record {
  setup = f.setup;
  drivers = f.drivers;
  clients = f.clients;
  drivers_are = f.drivers_are;
  clients_are = f.clients_are;
  drove = λ e h. (from_low 1 run.setup.drivers e.part.number (subst (λ l. Contains l e.part.number) f.driver_numbers (to_map (λ (x : DriverEnd). x.part.number) f.drivers e h)), f.drove e h);
  drew = λ e h. (from_low 1 run.setup.clients e.part.number (subst (λ l. Contains l e.part.number) f.client_numbers (to_map (λ (x : ClientEnd). x.part.number) f.clients e h)), f.drew e h);
  drivers_once = distinct_from (λ (x : DriverEnd). x.part.number) f.drivers 1 run.setup.drivers f.driver_numbers;
  clients_once = distinct_from (λ (x : ClientEnd). x.part.number) f.clients 1 run.setup.clients f.client_numbers;
  view = f.ledger.view;
  gathered = f.ledger.gathered;
  unites = f.ledger.unites;
  claims = f.ledger.claims;
  windows_are = f.ledger.windows_are;
  claims_rise = windows_rise (opening_claim run.setup.cell) f.ledger.claims f.ledger.window_list;
  claims_weigh = f.ledger.claims_weigh;
  batches_weigh = f.ledger.batches_weigh;
  window_list = f.ledger.window_list;
  draw_list = f.ledger.draw_list;
  post = f.post;
  slips = f.slips;
}
