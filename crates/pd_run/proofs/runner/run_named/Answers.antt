use Rattle.std.proofs.Common.{◌≡◌, ◌∙◌, ◌∷◌, ℕ, List, Global, Option, Vec, length, map, sym, ap, arith, subst}
use Rattle.pd_turn.specs.Turns.{AreApart}
use Rattle.tso_model.specs.Moves.{numbers_from}
use Rattle.tso_model.proofs.Numbers.{numbers_length}
use Rattle.tso_board.specs.Boards.{setup_of}
use Rattle.tso_run.proofs.Ending.{all_map, map-map, ok_weaker}
use Rattle.tso_run.proofs.Rows.{rows_length}
use Rattle.pd_state.specs.Clusters.{ClusterValue}
use Rattle.tso_run.specs.declared.line.ClientLine.{ClientLine}
use Rattle.pd_run.specs.Crews.{CameFrom}
use Rattle.pd_run.specs.Heard.{AreHeard}
use Rattle.pd_run.specs.Pipes.{ArePipesTo}
use Rattle.pd_run.specs.Runs.{AnswersTasks, lines_of, run_of}
use Rattle.pd_run.specs.Starts.{AreDealt}
use Rattle.pd_run.specs.declared.begin.Start.{Start}
use Rattle.pd_run.specs.declared.driving.DriverWork.{DriverWork}
use Rattle.pd_run.specs.declared.line.DriverLine.{DriverLine}
use Rattle.pd_run.specs.declared.line.StoreLine.{StoreLine}
use Rattle.pd_run.specs.declared.line.StoreLines.{StoreLines}
use Rattle.pd_run.specs.declared.pipe.Pipe.{Pipe}
use Rattle.pd_run.specs.declared.storing.StoreWork.{StoreWork}
use Rattle.pd_run.proofs.Beginning.{tasks_of}
use Rattle.pd_run.proofs.Leaving.{same_stores}
use Rattle.pd_run.proofs.Readying.{all_starts, eight_seats, seats_count, spare_seats}
use Rattle.pd_run.proofs.runner.run_named.Goals as goal

pub starts_of-requires-clause-count : goal.starts_of-requires-clause-count
starts_of-requires-clause-count g c = let count = seats_count c.args.crew.board c.args.crew.seats.items c.requires.opened.drivers in let few = c.requires.setup.drivers.1 in omega (arith, count, few)

pub starts_of-requires-clause-seats : goal.starts_of-requires-clause-seats
starts_of-requires-clause-seats g c = eight_seats g.N.ClusterName.meta c.args.metas.seats.items c.requires.metas

pub starts_of-requires-clause-pipes : goal.starts_of-requires-clause-pipes
starts_of-requires-clause-pipes g c = c.requires.each ∙ sym (seats_count c.args.crew.board c.args.crew.seats.items c.requires.opened.drivers)

pub starts_of-requires-clause-lines : goal.starts_of-requires-clause-lines
starts_of-requires-clause-lines g c = c.requires.tasks.drivers ∙ sym (seats_count c.args.crew.board c.args.crew.seats.items c.requires.opened.drivers)

pub begin-requires-clause-starts : goal.begin-requires-clause-starts
begin-requires-clause-starts g c =
    let stores = map (λ (s : StoreLines). s.store) c.args.tasks.stores.items in
    let starts = c.in_ok-starts.starts.items in
    let same = sym (map-map (λ (one : Vec Pipe Global). one.items) (λ (s : Start g.row.B.Denot). s.pipes) starts) ∙ ap (map (λ (one : Vec Pipe Global). one.items)) c.in_ok-starts.ensures.pipes in
    all_starts {B = g.row.B.Denot} c.args.crew.board g.N.ClusterName.meta g.N.ClusterName.streams stores (setup_of c.args.crew.board).drivers starts c.args.crew.seats.items c.args.metas.seats.items c.starts_of.new.metas.seats.items
    (map (λ (one : Vec Pipe Global). one.items) c.args.pipes.items) (c.in_ok-starts.ensures.numbers ∙ ap (numbers_from 1) (seats_count c.args.crew.board c.args.crew.seats.items c.requires.opened.drivers)) c.in_ok-starts.ensures.oracle c.requires.opened.drivers c.requires.opened.seats
    c.requires.metas c.in_ok-starts.ensures.seats same (all_map (ArePipesTo stores) (λ (one : Vec Pipe Global). one.items) c.args.pipes.items c.requires.pipes) c.requires.streams

pub begin-requires-clause-drivers : goal.begin-requires-clause-drivers
begin-requires-clause-drivers g c =
    let starts = c.in_ok-starts.starts.items in
    let count = seats_count c.args.crew.board c.args.crew.seats.items c.requires.opened.drivers in
    let numbers : length (map (λ (s : Start g.row.B.Denot). s.driver) starts) ≡ length (numbers_from 1 (length c.args.crew.seats.items)) = ap length c.in_ok-starts.ensures.numbers in
    let rows = rows_length (λ (s : Start g.row.B.Denot). s.driver) starts in
    let row = numbers_length 1 (length c.args.crew.seats.items) in
    omega (arith, count, numbers, rows, row)

pub end-requires-clause-apart : goal.end-requires-clause-apart
end-requires-clause-apart g c =
    let from : CameFrom {N = g.row.N.Denot} {B = g.row.B.Denot} g.N.BoardName.board g.N.ClusterName.streams g.B.Seated.seats c.args.crew.board c.deref.result.now c.in_ok-workers.workers c.work.new.workers = (record { ready = c.in_ok-workers.ensures.ready; worked = c.work.ensures.worked }) in
    let workers = c.in_ok-workers.workers in
    let ids : map (λ (w : StoreWork g.row.N.Denot). w.store) workers.stores.items ≡ map (λ (s : StoreLines). s.store) c.args.tasks.stores.items =
    sym (map-map (λ (s : StoreLines). s.store) (tasks_of {N = g.row.N.Denot}) workers.stores.items) ∙ ap (map (λ (s : StoreLines). s.store)) c.in_ok-workers.ensures.store_lines in
    subst (λ l. AreApart (0 ∷ l))
    (sym (same_stores {N = g.row.N.Denot} {B = g.row.B.Denot} g.N.BoardName.board g.N.ClusterName.streams g.B.Seated.seats c.args.crew.board c.deref.result.now workers c.work.new.workers from ∙ ids)) c.requires.tasks.stores

pub end-requires-clause-metas : goal.end-requires-clause-metas
end-requires-clause-metas g c =
    let starts = c.in_ok-starts.starts.items in
    let count = seats_count c.args.crew.board c.args.crew.seats.items c.requires.opened.drivers in
    let numbers : length (map (λ (s : Start g.row.B.Denot). s.driver) starts) ≡ length (numbers_from 1 (length c.args.crew.seats.items)) = ap length c.in_ok-starts.ensures.numbers in
    let rows = rows_length (λ (s : Start g.row.B.Denot). s.driver) starts in
    let metas = rows_length (λ (s : Start g.row.B.Denot). s.meta) starts in
    let row = numbers_length 1 (length c.args.crew.seats.items) in
    spare_seats g.N.ClusterName.meta (setup_of c.args.crew.board).drivers (map (λ (s : Start g.row.B.Denot). s.meta) starts) c.args.metas.seats.items c.starts_of.new.metas.seats.items c.requires.metas c.in_ok-starts.ensures.seats
    (omega (arith, count, numbers, rows, metas, row))

pub end-requires-clause-worked : goal.end-requires-clause-worked
end-requires-clause-worked g c = (c.deref.result.now, c.in_ok-workers.workers, record { ready = c.in_ok-workers.ensures.ready; worked = c.work.ensures.worked })

pub returns-clause-answers : goal.returns-clause-answers
returns-clause-answers g c =
    let from : CameFrom {N = g.row.N.Denot} {B = g.row.B.Denot} g.N.BoardName.board g.N.ClusterName.streams g.B.Seated.seats c.args.crew.board c.deref.result.now c.in_ok-workers.workers c.work.new.workers = (record { ready = c.in_ok-workers.ensures.ready; worked = c.work.ensures.worked }) in
    let workers = c.in_ok-workers.workers in
    let tasks = c.args.tasks in
    let drivers : map (λ (w : DriverWork g.row.N.Denot g.row.B.Denot). w.lines.items) workers.drivers.items ≡ map (λ (lines : Vec DriverLine Global). lines.items) tasks.drivers.items =
    sym (map-map (λ (lines : Vec DriverLine Global). lines.items) (λ (w : DriverWork g.row.N.Denot g.row.B.Denot). w.lines) workers.drivers.items) ∙ ap (map (λ (lines : Vec DriverLine Global). lines.items)) (c.in_ok-workers.ensures.lines ∙ c.in_ok-starts.ensures.lines) in
    let stores : map (λ (w : StoreWork g.row.N.Denot). (w.store, w.lines.items)) workers.stores.items ≡ map lines_of tasks.stores.items =
    sym (map-map lines_of (tasks_of {N = g.row.N.Denot}) workers.stores.items) ∙ ap (map lines_of) c.in_ok-workers.ensures.store_lines in
    ok_weaker c.end.result _ (λ r. AnswersTasks (map (λ (lines : Vec DriverLine Global). lines.items) tasks.drivers.items) tasks.clients.items (map lines_of tasks.stores.items) (run_of (setup_of c.args.crew.board) r.0))
    (λ r all. subst (λ (y : List (List DriverLine) × List ClientLine × List (ℕ × List StoreLine)). AnswersTasks y.0 y.1 y.2 (run_of (setup_of c.args.crew.board) r.0)) (λ i. (drivers i, c.deref.ensures.value i, stores i)) (all c.deref.result.now workers from))
    c.end.ensures.answers

pub returns-clause-heard : goal.returns-clause-heard
returns-clause-heard g c =
    let from : CameFrom {N = g.row.N.Denot} {B = g.row.B.Denot} g.N.BoardName.board g.N.ClusterName.streams g.B.Seated.seats c.args.crew.board c.deref.result.now c.in_ok-workers.workers c.work.new.workers = (record { ready = c.in_ok-workers.ensures.ready; worked = c.work.ensures.worked }) in
    let workers = c.in_ok-workers.workers in
    let dealt : AreDealt c.args.benches.items (map (λ (w : DriverWork g.row.N.Denot g.row.B.Denot). w.means.bench) workers.drivers.items) c.in_ok-others.others.items =
    subst (λ (y : List g.row.B.Denot × List (Option g.row.B.Denot) × List g.row.B.Denot). AreDealt y.0 y.1 y.2) (λ i. (c.into_iter-benches.ensures.rest i, sym c.in_ok-workers.ensures.benches i, sym c.in_ok-others.ensures.items i)) c.in_ok-starts.ensures.benches in
    ok_weaker c.end.result _ (λ r. AreHeard 1 (map (λ (x : ClusterValue). x.entries) r.0.clusters.items) (map g.B.Seated.seats c.args.benches.items) (map g.B.Seated.seats r.1.items))
    (λ r all. all c.deref.result.now workers c.args.benches.items from dealt) c.end.ensures.heard
