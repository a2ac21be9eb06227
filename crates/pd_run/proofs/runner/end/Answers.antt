use Rattle.std.proofs.Common.{◌∙◌, ◌++◌, List, All, refl, ap, subst}
use Rattle.tso_board.specs.Boards.{setup_of}
use Rattle.meta_store.specs.Seats.{IsHeard}
use Rattle.pd_run.specs.declared.runner.Left.{Left}
use Rattle.pd_run.proofs.Finishing.{ends_finished, its_slips, lawful_oracle, some_slips, whole}
use Rattle.pd_run.proofs.Leaving.{all_fine, are_drivers, have_ports}
use Rattle.pd_run.proofs.Outcome.{all_behind, all_front, answers_run, heard_run, lawful_run, seats_of_meta}
use Rattle.pd_run.proofs.runner.end.Goals as goal

pub driver_parts-requires-clause-drivers : goal.driver_parts-requires-clause-drivers
driver_parts-requires-clause-drivers g c = let worked = c.requires.worked in are_drivers {N = g.row.N.Denot} {B = g.row.B.Denot} g.N.BoardName.board g.N.ClusterName.streams g.B.Seated.seats c.args.board worked.0 worked.1 c.args.workers worked.2

pub driver_parts-requires-clause-ports : goal.driver_parts-requires-clause-ports
driver_parts-requires-clause-ports g c = let worked = c.requires.worked in have_ports {N = g.row.N.Denot} {B = g.row.B.Denot} g.N.BoardName.board g.N.ClusterName.streams g.B.Seated.seats c.args.board worked.0 worked.1 c.args.workers worked.2

pub close-requires-clause-some : goal.close-requires-clause-some
close-requires-clause-some g c = let worked = c.requires.worked in some_slips {N = g.row.N.Denot} {B = g.row.B.Denot} g.N.BoardName.board g.N.ClusterName.streams g.B.Seated.seats c.args.board worked.0 worked.1 c.args.workers worked.2 c.requires.setup c.in_ok-parts.ensures.fine c.in_ok-calls.ensures.fine c.in_ok-calls.calls.slips.items c.in_ok-calls.ensures.slips

pub close-requires-clause-slips : goal.close-requires-clause-slips
close-requires-clause-slips g c = let worked = c.requires.worked in its_slips {N = g.row.N.Denot} {B = g.row.B.Denot} g.N.BoardName.board g.N.ClusterName.streams g.B.Seated.seats c.args.board worked.0 worked.1 c.args.workers worked.2 c.requires.setup c.in_ok-parts.ensures.fine c.in_ok-calls.ensures.fine c.in_ok-calls.calls.slips.items c.in_ok-calls.ensures.slips

pub close-requires-2-clause-seats : goal.close-requires-2-clause-seats
close-requires-2-clause-seats g c = (
  g.N.ClusterName.meta,
  seats_of_meta {N = g.row.N.Denot} g.N.ClusterName.meta c.args.workers.stores.items (setup_of c.args.board).drivers c.args.metas.seats.items c.in_ok-parts.parts.meta.items c.append.new.self.items c.in_ok-parts.parts.clusters.items c.requires.metas c.in_ok-parts.ensures.closed c.in_ok-append.ensures.items,
)

pub gather-requires : goal.gather-requires
gather-requires g c = let worked = c.requires.worked in record {
  whole = whole {N = g.row.N.Denot} {B = g.row.B.Denot} g.N.BoardName.board g.N.ClusterName.streams g.B.Seated.seats c.args.board worked.0 worked.1 c.args.workers worked.2 c.requires.setup c.in_ok-parts.ensures.fine c.in_ok-calls.ensures.fine
      (record { board = c.args.board; seats = c.in_ok-parts.parts.oracle; passes = c.in_ok-calls.calls.passes; notes = c.new.result }) refl c.in_ok-parts.ensures.oracle c.in_ok-calls.ensures.passes;
}

pub returns-clause-lawful : goal.returns-clause-lawful
returns-clause-lawful g c =
    let worked = c.requires.worked in
    let parts = c.in_ok-parts.parts in
    let left : Left = record { drivers = c.in_ok-parts.parts.answers; clients = c.in_ok-calls.calls.answers; stores = c.in_ok-stores.stores; clusters = c.in_ok-parts.parts.clusters; meta = c.in_ok-meta.meta; post = c.in_ok-post.post; ledger = c.in-Ok.ledger } in
    let spare = c.args.metas.seats.items in
    let back = parts.meta.items in
    let heard : All (IsHeard c.in_ok-meta.meta) (spare ++ back) = subst (All (IsHeard c.in_ok-meta.meta)) c.in_ok-append.ensures.items c.in_ok-meta.ensures.lists in
    let of = c.in_ok-meta.ensures.drivers g.N.ClusterName.meta (seats_of_meta {N = g.row.N.Denot} g.N.ClusterName.meta c.args.workers.stores.items (setup_of c.args.board).drivers spare back c.append.new.self.items parts.clusters.items c.requires.metas c.in_ok-parts.ensures.closed c.in_ok-append.ensures.items) in
    lawful_run {N = g.row.N.Denot} {B = g.row.B.Denot} g.N.BoardName.board g.N.ClusterName.streams g.B.Seated.seats c.args.board worked.0 worked.1 c.args.workers worked.2 c.requires.setup c.in_ok-parts.ensures.fine c.in_ok-calls.ensures.fine (all_fine {N = g.row.N.Denot} c.in_ok-parts.parts.stores.items c.args.workers.stores.items c.in_ok-parts.ensures.failed c.in_ok-stores.ensures.fine) g.N.ClusterName.meta left back c.in_ok-parts.ensures.closed c.in_ok-parts.ensures.own
    c.requires.apart (c.in_ok-stores.ensures.answers ∙ c.in_ok-parts.ensures.stores) spare c.requires.metas c.in_ok-meta.ensures.legal (all_front (IsHeard c.in_ok-meta.meta) spare back heard) (all_behind (IsHeard c.in_ok-meta.meta) spare back heard) of
    (lawful_oracle _ (ends_finished {N = g.row.N.Denot} {B = g.row.B.Denot} g.N.BoardName.board g.N.ClusterName.streams g.B.Seated.seats c.args.board worked.0 worked.1 c.args.workers worked.2 c.requires.setup c.in_ok-parts.ensures.fine c.in_ok-calls.ensures.fine
    left parts.oracle.items c.in_ok-calls.calls.passes.items c.in_ok-calls.calls.slips.items c.in_ok-parts.ensures.oracle c.in_ok-calls.ensures.passes c.in_ok-calls.ensures.slips c.in_ok-parts.ensures.answers c.in_ok-calls.ensures.answers
    c.in-Ok.ensures.ok c.in_ok-post.ensures.post c.in_ok-post.ensures.lists))

pub returns-clause-answers : goal.returns-clause-answers
returns-clause-answers g c =
    let left : Left = record { drivers = c.in_ok-parts.parts.answers; clients = c.in_ok-calls.calls.answers; stores = c.in_ok-stores.stores; clusters = c.in_ok-parts.parts.clusters; meta = c.in_ok-meta.meta; post = c.in_ok-post.post; ledger = c.in-Ok.ledger } in
    λ clients first from. answers_run {N = g.row.N.Denot} {B = g.row.B.Denot} g.N.BoardName.board g.N.ClusterName.streams g.B.Seated.seats c.args.board clients first c.args.workers from c.requires.setup c.in_ok-parts.ensures.fine c.in_ok-calls.ensures.fine (all_fine {N = g.row.N.Denot} c.in_ok-parts.parts.stores.items c.args.workers.stores.items c.in_ok-parts.ensures.failed c.in_ok-stores.ensures.fine) g.N.ClusterName.meta left c.in_ok-parts.parts.meta.items c.in_ok-parts.ensures.closed c.in_ok-parts.ensures.own
    c.in_ok-parts.ensures.answers c.in_ok-calls.ensures.answers (c.in_ok-stores.ensures.answers ∙ c.in_ok-parts.ensures.stores)

pub returns-clause-heard : goal.returns-clause-heard
returns-clause-heard g c =
    let left : Left = record { drivers = c.in_ok-parts.parts.answers; clients = c.in_ok-calls.calls.answers; stores = c.in_ok-stores.stores; clusters = c.in_ok-parts.parts.clusters; meta = c.in_ok-meta.meta; post = c.in_ok-post.post; ledger = c.in-Ok.ledger } in
    λ clients first benches from dealt. heard_run {N = g.row.N.Denot} {B = g.row.B.Denot} g.N.BoardName.board g.N.ClusterName.streams g.B.Seated.seats c.args.board clients first c.args.workers from c.requires.setup c.in_ok-parts.ensures.fine c.in_ok-calls.ensures.fine (all_fine {N = g.row.N.Denot} c.in_ok-parts.parts.stores.items c.args.workers.stores.items c.in_ok-parts.ensures.failed c.in_ok-stores.ensures.fine) g.N.ClusterName.meta left c.in_ok-parts.parts.meta.items c.in_ok-parts.ensures.closed c.in_ok-parts.ensures.own
    benches c.args.others.items c.append-2.new.self.items dealt (c.in_ok-append-2.ensures.items ∙ ap (λ (l : List g.row.B.Denot). l ++ c.args.others.items) c.in_ok-parts.ensures.benches)
