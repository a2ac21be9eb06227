-- Where no limit is broken, each event keeps its limits.
use Rattle.std.proofs.Common.{◌≡◌, ◌≤◌, List, Bool, true, false, All, cond, length, nat_lt, Some, None, refl, arith}
use Rattle.std.proofs.lemmas.Bool.Decides.{nat_tests}
use Rattle.pd_script.specs.Scripts.{broken_by, client_of, driver_of, greatest, leads_in, reports_in, stores_in}
use Rattle.pd_script.specs.declared.limits.Broken.{Broken}
use Rattle.pd_types.specs.declared.oracle.TheConstants.{MAX_CLIENTS, MAX_DRIVERS}
use Rattle.pd_script.specs.declared.limits.TheConstants.{MAX_EVENTS, MAX_LEADS, MAX_REPORTS, MAX_STORES}
use Rattle.pd_script.specs.declared.event.Numbered.{Numbered}
use Rattle.pd_script.proofs.Greatest.{each_within}

record Passed (a b c d e f : Bool) : Type 0 where
  events : a ≡ false
  drivers : b ≡ false
  clients : c ≡ false
  stores : d ≡ false
  reports : e ≡ false
  leads : f ≡ false

no_test : (a b c d e f : Bool) (u v w x y z : Broken) → None ≡ cond a (Some u) (cond b (Some v) (cond c (Some w) (cond d (Some x) (cond e (Some y) (cond f (Some z) None))))) → Passed a b c d e f
no_test true b c d e f u v w x y z h = cc
no_test false true c d e f u v w x y z h = cc
no_test false false true d e f u v w x y z h = cc
no_test false false false true e f u v w x y z h = cc
no_test false false false false true f u v w x y z h = cc
no_test false false false false false true u v w x y z h = cc
no_test false false false false false false u v w x y z h = record { events = refl; drivers = refl; clients = refl; stores = refl; reports = refl; leads = refl }

-- no limit is broken
pub record AreWithin (events : List Numbered) : Type 0 where
  pub few : length events ≤ 65536
  pub drivers : greatest driver_of events ≤ 7
  pub clients : greatest client_of events ≤ 64
  pub stores : stores_in events ≤ 256
  pub reports : reports_in events ≤ 1024
  pub leads : leads_in events ≤ 1024

pub all_within : (events : List Numbered) → None ≡ broken_by events → AreWithin events
all_within events h =
    let tests = no_test (nat_lt MAX_EVENTS (length events)) (nat_lt MAX_DRIVERS (greatest driver_of events)) (nat_lt MAX_CLIENTS (greatest client_of events)) (nat_lt MAX_STORES (stores_in events)) (nat_lt MAX_REPORTS (reports_in events)) (nat_lt MAX_LEADS (leads_in events)) _ _ _ _ _ _ h in
    record {
      few = grind (arith, nat_tests, tests.events);
      drivers = grind (arith, nat_tests, tests.drivers);
      clients = grind (arith, nat_tests, tests.clients);
      stores = grind (arith, nat_tests, tests.stores);
      reports = grind (arith, nat_tests, tests.reports);
      leads = grind (arith, nat_tests, tests.leads);
    }

pub drivers_within : (events : List Numbered) → None ≡ broken_by events → All (λ e. driver_of e.event ≤ 7) events
drivers_within events h = each_within driver_of 7 events (all_within events h).drivers

pub clients_within : (events : List Numbered) → None ≡ broken_by events → All (λ e. client_of e.event ≤ 64) events
clients_within events h = each_within client_of 64 events (all_within events h).clients
