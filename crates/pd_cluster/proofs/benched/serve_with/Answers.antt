use Rattle.std.proofs.Common.{arith}
use Rattle.pd_cluster.proofs.Serving.{alone_all, on_ok, on_value, over_all}
use Rattle.pd_cluster.proofs.benched.serve_with.Goals as goal

pub returns-in-Some-clause-reply : goal.returns-in-Some-clause-reply
returns-in-Some-clause-reply g c =
    on_value c.serve_over.result _ _ (λ reply s ends goes. ((over_all g.B.Seated.seats c.args.clusters.now.items _ c.args.driver c.args.meta.now _ c.args.benches.now.items c.in-Some.place c.index_mut-bench.result.now c.serve_over.new.bench c.args.number c.args.request reply
    c.requires.within c.requires.numbered c.index_mut-bench.ensures.value c.in-Some.ensures.place (omega (arith, c.in-Some.ensures.within, c.len.ensures, c.args.benches.now.ok)) s).served ends goes).replied) c.serve_over.ensures.ok

pub returns-in-Some-clause-after : goal.returns-in-Some-clause-after
returns-in-Some-clause-after g c =
    on_ok c.serve_over.result _ _ (λ reply s ends goes. ((over_all g.B.Seated.seats c.args.clusters.now.items _ c.args.driver c.args.meta.now _ c.args.benches.now.items c.in-Some.place c.index_mut-bench.result.now c.serve_over.new.bench c.args.number c.args.request reply
    c.requires.within c.requires.numbered c.index_mut-bench.ensures.value c.in-Some.ensures.place (omega (arith, c.in-Some.ensures.within, c.len.ensures, c.args.benches.now.ok)) s).served ends goes).kept) c.serve_over.ensures.ok

pub returns-in-Some-clause-turns : goal.returns-in-Some-clause-turns
returns-in-Some-clause-turns g c =
    on_ok c.serve_over.result _ _ (λ reply s ends goes. ((over_all g.B.Seated.seats c.args.clusters.now.items _ c.args.driver c.args.meta.now _ c.args.benches.now.items c.in-Some.place c.index_mut-bench.result.now c.serve_over.new.bench c.args.number c.args.request reply
    c.requires.within c.requires.numbered c.index_mut-bench.ensures.value c.in-Some.ensures.place (omega (arith, c.in-Some.ensures.within, c.len.ensures, c.args.benches.now.ok)) s).served ends goes).turns) c.serve_over.ensures.ok

pub returns-in-Some-clause-benches : goal.returns-in-Some-clause-benches
returns-in-Some-clause-benches g c =
    on_ok c.serve_over.result _ _ (λ reply s. (over_all g.B.Seated.seats c.args.clusters.now.items _ c.args.driver c.args.meta.now _ c.args.benches.now.items c.in-Some.place c.index_mut-bench.result.now c.serve_over.new.bench c.args.number c.args.request reply
    c.requires.within c.requires.numbered c.index_mut-bench.ensures.value c.in-Some.ensures.place (omega (arith, c.in-Some.ensures.within, c.len.ensures, c.args.benches.now.ok)) s).goes) c.serve_over.ensures.ok

pub returns-in-Some-clause-alive : goal.returns-in-Some-clause-alive
returns-in-Some-clause-alive g c =
    on_ok c.serve_over.result _ _ (λ reply s. (over_all g.B.Seated.seats c.args.clusters.now.items _ c.args.driver c.args.meta.now _ c.args.benches.now.items c.in-Some.place c.index_mut-bench.result.now c.serve_over.new.bench c.args.number c.args.request reply
    c.requires.within c.requires.numbered c.index_mut-bench.ensures.value c.in-Some.ensures.place (omega (arith, c.in-Some.ensures.within, c.len.ensures, c.args.benches.now.ok)) s).alive c.requires.alive) c.serve_over.ensures.ok

pub returns-in-Some-clause-numbered : goal.returns-in-Some-clause-numbered
returns-in-Some-clause-numbered g c =
    on_ok c.serve_over.result _ _ (λ reply s. (over_all g.B.Seated.seats c.args.clusters.now.items _ c.args.driver c.args.meta.now _ c.args.benches.now.items c.in-Some.place c.index_mut-bench.result.now c.serve_over.new.bench c.args.number c.args.request reply
    c.requires.within c.requires.numbered c.index_mut-bench.ensures.value c.in-Some.ensures.place (omega (arith, c.in-Some.ensures.within, c.len.ensures, c.args.benches.now.ok)) s).numbered) c.serve_over.ensures.ok

pub returns-in-None-clause-reply : goal.returns-in-None-clause-reply
returns-in-None-clause-reply g c =
    on_value c.serve_over-in-None.result _ _ (λ reply s ends goes. ((alone_all g.B.Seated.seats c.args.clusters.now.items _ c.args.driver c.args.meta.now _ c.args.benches.now.items _ _ c.args.number c.args.request reply
    c.requires.within c.requires.numbered c.empty-bench.ensures.list (λ some. omega (arith, c.in-None.ensures.none some, c.len.ensures, c.args.benches.now.ok)) s).served ends goes).replied) c.serve_over-in-None.ensures.ok

pub returns-in-None-clause-after : goal.returns-in-None-clause-after
returns-in-None-clause-after g c =
    on_ok c.serve_over-in-None.result _ _ (λ reply s ends goes. ((alone_all g.B.Seated.seats c.args.clusters.now.items _ c.args.driver c.args.meta.now _ c.args.benches.now.items _ _ c.args.number c.args.request reply
    c.requires.within c.requires.numbered c.empty-bench.ensures.list (λ some. omega (arith, c.in-None.ensures.none some, c.len.ensures, c.args.benches.now.ok)) s).served ends goes).kept) c.serve_over-in-None.ensures.ok

pub returns-in-None-clause-turns : goal.returns-in-None-clause-turns
returns-in-None-clause-turns g c =
    on_ok c.serve_over-in-None.result _ _ (λ reply s ends goes. ((alone_all g.B.Seated.seats c.args.clusters.now.items _ c.args.driver c.args.meta.now _ c.args.benches.now.items _ _ c.args.number c.args.request reply
    c.requires.within c.requires.numbered c.empty-bench.ensures.list (λ some. omega (arith, c.in-None.ensures.none some, c.len.ensures, c.args.benches.now.ok)) s).served ends goes).turns) c.serve_over-in-None.ensures.ok

pub returns-in-None-clause-benches : goal.returns-in-None-clause-benches
returns-in-None-clause-benches g c =
    on_ok c.serve_over-in-None.result _ _ (λ reply s. (alone_all g.B.Seated.seats c.args.clusters.now.items _ c.args.driver c.args.meta.now _ c.args.benches.now.items _ _ c.args.number c.args.request reply
    c.requires.within c.requires.numbered c.empty-bench.ensures.list (λ some. omega (arith, c.in-None.ensures.none some, c.len.ensures, c.args.benches.now.ok)) s).goes) c.serve_over-in-None.ensures.ok

pub returns-in-None-clause-alive : goal.returns-in-None-clause-alive
returns-in-None-clause-alive g c =
    on_ok c.serve_over-in-None.result _ _ (λ reply s. (alone_all g.B.Seated.seats c.args.clusters.now.items _ c.args.driver c.args.meta.now _ c.args.benches.now.items _ _ c.args.number c.args.request reply
    c.requires.within c.requires.numbered c.empty-bench.ensures.list (λ some. omega (arith, c.in-None.ensures.none some, c.len.ensures, c.args.benches.now.ok)) s).alive c.requires.alive) c.serve_over-in-None.ensures.ok

pub returns-in-None-clause-numbered : goal.returns-in-None-clause-numbered
returns-in-None-clause-numbered g c =
    on_ok c.serve_over-in-None.result _ _ (λ reply s. (alone_all g.B.Seated.seats c.args.clusters.now.items _ c.args.driver c.args.meta.now _ c.args.benches.now.items _ _ c.args.number c.args.request reply
    c.requires.within c.requires.numbered c.empty-bench.ensures.list (λ some. omega (arith, c.in-None.ensures.none some, c.len.ensures, c.args.benches.now.ok)) s).numbered) c.serve_over-in-None.ensures.ok
