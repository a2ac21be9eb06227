use Rattle.std.proofs.Common.{rules, ◌≡◌, ◌∙◌, ◌∷◌, List, false, length, map, refl, sym, ap, subst}
use Rattle.std.specs.Prelude.{All, flat_map}
use Rattle.std.specs.List.{AllZip}
use Rattle.std.specs.Vec.Iter.{into_iter_items, into_iter_len}
use Rattle.pd_turn.specs.Turns.{AreApart}
use Rattle.tso_driver.specs.Drivers.{seat_of}
use Rattle.pd_shared.specs.Shares.{SharedValue}
use Rattle.pd_run.specs.Ends.{AreDriversOf, HasPorts, IsDriversOwn, driver_part_of, lent}
use Rattle.pd_run.specs.declared.driving.DriverWork.{DriverWork}
use Rattle.pd_run.specs.declared.storing.StoreWork.{StoreWork}
use Rattle.pd_run.proofs.Lists.{none_of}
use Rattle.pd_run.proofs.Parting.{all_done, its_driver, its_ports, parted_more, parted_none, same_failed, same_ids, same_parts}
use Rattle.pd_run.proofs.end.driver_parts.Goals as goal

pub loop-driver-init : goal.loop-driver-init
loop-driver-init g c =
    let stores = c.args.stores.items in
    let clusters : into_iter_items c.into_iter-clusters.result ≡ c.args.clusters.items = c.into_iter-clusters.ensures.rest in
    parted_none {N = g.row.N.Denot} {B = g.row.B.Denot} g.N.ClusterName.meta g.N.ClusterName.streams stores c.args.drivers.items (into_iter_items c.into_iter-driver-iterator.result) (into_iter_items c.into_iter-clusters.result)
    (record { oracle = c.new.result; meta = c.new-2.result; answers = c.new-3.result; clusters = c.new-4.result; benches = c.new-5.result; stores = c.args.stores }) c.into_iter-driver-iterator.ensures.into_iter_gives.0
    (subst (λ (l : List SharedValue). AreDriversOf (map (λ (w : StoreWork g.row.N.Denot). w.store) stores) 0 c.args.drivers.items l) (sym clusters) c.requires.drivers)
    (subst (λ (l : List SharedValue). All (HasPorts {N = g.row.N.Denot} g.N.ClusterName.streams 0 l) stores) (sym clusters) c.requires.ports) refl
    c.new.ensures.items c.new-3.ensures.items c.new-5.ensures.items c.new-4.ensures.items c.new-2.ensures.items

pub with-requires-clause-driver : goal.with-requires-clause-driver
with-requires-clause-driver g c =
    its_driver {N = g.row.N.Denot} {B = g.row.B.Denot} g.N.ClusterName.meta g.N.ClusterName.streams c.args.stores.items c.args.drivers.items (into_iter_items c.loop-driver.driver-iterator) (into_iter_items c.next.new.self) c.in-Some.driver
    (into_iter_items c.loop-driver.clusters) (into_iter_items c.next-in-loop-driver.new.self) c.in-Some-next.cluster c.loop-driver.parts c.loop-driver.invariant c.in-Some.ensures.steps.0 c.in-Some-next.ensures.cases.0

pub with-requires-clause-apart : goal.with-requires-clause-apart
with-requires-clause-apart g c = subst (λ l. AreApart (0 ∷ l))
    (sym (same_ids {N = g.row.N.Denot} {B = g.row.B.Denot} g.N.ClusterName.meta g.N.ClusterName.streams c.args.stores.items c.args.drivers.items (into_iter_items c.loop-driver.driver-iterator) (into_iter_items c.loop-driver.clusters) c.loop-driver.parts c.loop-driver.invariant)) c.requires.apart

pub with-requires-clause-ports : goal.with-requires-clause-ports
with-requires-clause-ports g c =
    its_ports {N = g.row.N.Denot} {B = g.row.B.Denot} g.N.ClusterName.meta g.N.ClusterName.streams c.args.stores.items c.args.drivers.items (into_iter_items c.loop-driver.driver-iterator) (into_iter_items c.next.new.self) c.in-Some.driver
    (into_iter_items c.loop-driver.clusters) (into_iter_items c.next-in-loop-driver.new.self) c.in-Some-next.cluster c.loop-driver.parts c.loop-driver.invariant c.in-Some.ensures.steps.0 c.in-Some-next.ensures.cases.0

pub loop-driver-preserved : goal.loop-driver-preserved
loop-driver-preserved g c =
    let one = c.in_ok-parts.ensures in
    parted_more {N = g.row.N.Denot} {B = g.row.B.Denot} g.N.ClusterName.meta g.N.ClusterName.streams c.args.stores.items c.args.drivers.items (into_iter_items c.loop-driver.driver-iterator) (into_iter_items c.next.new.self) c.in-Some.driver
    (into_iter_items c.loop-driver.clusters) (into_iter_items c.next-in-loop-driver.new.self) c.in-Some-next.cluster c.loop-driver.parts c.loop-driver.invariant c.in-Some.ensures.steps.0 c.in-Some-next.ensures.cases.0
    c.in_ok-parts.parts one.fine one.oracle one.answers one.benches one.closed

pub returns-clause-fine : goal.returns-clause-fine
returns-clause-fine g c =
    let left = into_iter_items c.loop-driver.driver-iterator in
    let long : into_iter_len c.loop-driver.driver-iterator ≡ length left = search rules in
    let none = none_of left (sym long ∙ c.in-None.ensures.steps.0) in
    subst (All (λ (w : DriverWork g.row.N.Denot g.row.B.Denot). w.failed ≡ false)) (all_done {N = g.row.N.Denot} {B = g.row.B.Denot} g.N.ClusterName.meta g.N.ClusterName.streams c.args.stores.items c.args.drivers.items left (into_iter_items c.loop-driver.clusters) c.loop-driver.parts c.loop-driver.invariant none) c.loop-driver.invariant.fine

pub returns-clause-oracle : goal.returns-clause-oracle
returns-clause-oracle g c =
    let left = into_iter_items c.loop-driver.driver-iterator in
    let long : into_iter_len c.loop-driver.driver-iterator ≡ length left = search rules in
    let none = none_of left (sym long ∙ c.in-None.ensures.steps.0) in
    c.loop-driver.invariant.oracle ∙ ap (map (λ (w : DriverWork g.row.N.Denot g.row.B.Denot). seat_of w.means.driver)) (all_done {N = g.row.N.Denot} {B = g.row.B.Denot} g.N.ClusterName.meta g.N.ClusterName.streams c.args.stores.items c.args.drivers.items left (into_iter_items c.loop-driver.clusters) c.loop-driver.parts c.loop-driver.invariant none)

pub returns-clause-answers : goal.returns-clause-answers
returns-clause-answers g c =
    let left = into_iter_items c.loop-driver.driver-iterator in
    let long : into_iter_len c.loop-driver.driver-iterator ≡ length left = search rules in
    let none = none_of left (sym long ∙ c.in-None.ensures.steps.0) in
    c.loop-driver.invariant.answers ∙ ap (map (driver_part_of {N = g.row.N.Denot} {B = g.row.B.Denot})) (all_done {N = g.row.N.Denot} {B = g.row.B.Denot} g.N.ClusterName.meta g.N.ClusterName.streams c.args.stores.items c.args.drivers.items left (into_iter_items c.loop-driver.clusters) c.loop-driver.parts c.loop-driver.invariant none)

pub returns-clause-benches : goal.returns-clause-benches
returns-clause-benches g c =
    let left = into_iter_items c.loop-driver.driver-iterator in
    let long : into_iter_len c.loop-driver.driver-iterator ≡ length left = search rules in
    let none = none_of left (sym long ∙ c.in-None.ensures.steps.0) in
    c.loop-driver.invariant.benches ∙ ap (flat_map (λ (w : DriverWork g.row.N.Denot g.row.B.Denot). lent w.means.bench)) (all_done {N = g.row.N.Denot} {B = g.row.B.Denot} g.N.ClusterName.meta g.N.ClusterName.streams c.args.stores.items c.args.drivers.items left (into_iter_items c.loop-driver.clusters) c.loop-driver.parts c.loop-driver.invariant none)

pub returns-clause-own : goal.returns-clause-own
returns-clause-own g c =
    let left = into_iter_items c.loop-driver.driver-iterator in
    let long : into_iter_len c.loop-driver.driver-iterator ≡ length left = search rules in
    let none = none_of left (sym long ∙ c.in-None.ensures.steps.0) in
    subst (λ (l : List (DriverWork g.row.N.Denot g.row.B.Denot)). AllZip (IsDriversOwn {N = g.row.N.Denot} {B = g.row.B.Denot}) l c.loop-driver.parts.clusters.items) (all_done {N = g.row.N.Denot} {B = g.row.B.Denot} g.N.ClusterName.meta g.N.ClusterName.streams c.args.stores.items c.args.drivers.items left (into_iter_items c.loop-driver.clusters) c.loop-driver.parts c.loop-driver.invariant none) c.loop-driver.invariant.own

pub returns-clause-stores : goal.returns-clause-stores
returns-clause-stores g c =
    let left = into_iter_items c.loop-driver.driver-iterator in
    let long : into_iter_len c.loop-driver.driver-iterator ≡ length left = search rules in
    let none = none_of left (sym long ∙ c.in-None.ensures.steps.0) in
    same_parts {N = g.row.N.Denot} {B = g.row.B.Denot} g.N.ClusterName.meta g.N.ClusterName.streams c.args.stores.items c.args.drivers.items left (into_iter_items c.loop-driver.clusters) c.loop-driver.parts c.loop-driver.invariant none

pub returns-clause-failed : goal.returns-clause-failed
returns-clause-failed g c =
    let left = into_iter_items c.loop-driver.driver-iterator in
    let long : into_iter_len c.loop-driver.driver-iterator ≡ length left = search rules in
    let none = none_of left (sym long ∙ c.in-None.ensures.steps.0) in
    same_failed {N = g.row.N.Denot} {B = g.row.B.Denot} g.N.ClusterName.meta g.N.ClusterName.streams c.args.stores.items c.args.drivers.items left (into_iter_items c.loop-driver.clusters) c.loop-driver.parts c.loop-driver.invariant none
