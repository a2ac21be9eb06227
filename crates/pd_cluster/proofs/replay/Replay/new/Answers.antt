use Rattle.std.proofs.Common.{◌≡◌, ◌+◌, [], replicate, reverse, ap, sym, ◌∙◌, arith}
use Rattle.std.specs.Prelude.{None}
use Rattle.pd_cluster.proofs.Serving.{alive_more, count_more, numbered_more, journals_more, leads_more, streams_more}
use Rattle.pd_cluster.specs.Streams.{waiting_for}
use Rattle.pd_cluster.specs.Talks.{talks_of}
use Rattle.pd_types.specs.declared.oracle.CellWord.{CellWord}
use Rattle.tso_core.specs.Opened.{opened}
use Rattle.pd_cluster.proofs.replay.Replay.new.Goals as goal

pub loop-driver-preserved : goal.loop-driver-preserved
loop-driver-preserved c = rw (c.in_ok-push.ensures.items, c.in_ok-push-2.ensures.items, c.in_ok-push-3.ensures.items) (record {
  leads = leads_more c.loop-driver.leads.items c.loop-driver.driver c.loop-driver.invariant.leads;
  journals = journals_more c.loop-driver.clusters.items c.loop-driver.driver c.loop-driver.driver c.new-in-loop-driver.result c.new-in-loop-driver.ensures.value c.loop-driver.invariant.journals;
  alive = alive_more c.loop-driver.clusters.items c.loop-driver.driver c.loop-driver.driver c.new-in-loop-driver.result c.new-in-loop-driver.ensures.value c.loop-driver.invariant.alive;
  numbered = numbered_more c.loop-driver.clusters.items c.loop-driver.driver c.loop-driver.driver c.new-in-loop-driver.result c.new-in-loop-driver.ensures.value (sym c.loop-driver.invariant.len) c.loop-driver.invariant.numbered;
  len = count_more c.loop-driver.clusters.items c.loop-driver.driver c.loop-driver.driver c.new-in-loop-driver.result c.new-in-loop-driver.ensures.value c.loop-driver.invariant.len;
  streams = streams_more c.loop-driver.streams.items c.loop-driver.driver (waiting_for c.args.lines.now) _ c.loop-driver.invariant.streams c.in_ok-of.ensures.value;
})

pub returns-clause-value : goal.returns-clause-value
returns-clause-value c = λ benches ends.
    let last : c.loop-driver.driver ≡ c.args.drivers + 1 = omega (arith, c.loop-driver-test.false, c.loop-driver.auto.driver-end) in
    λ i. record {
      oracle = (c.in_ok-core.ensures.value ∙ ap (λ (cell : CellWord). opened (record { drivers = c.args.drivers; clients = c.args.clients; cell = cell })) c.opening_cell.ensures.value) i;
      leads = (c.loop-driver.invariant.leads ∙ ap (λ n. replicate n None) last) i;
      kept = record {
        journals = (c.loop-driver.invariant.journals ∙ ap (λ n. replicate n []) last) i;
        metadata = reverse (c.new-meta.ensures.value i);
        talks = talks_of ((c.loop-driver.invariant.len ∙ last) i) benches ends;
      };
      streams = (c.loop-driver.invariant.streams ∙ ap (λ n. replicate n (waiting_for c.args.lines.now)) last) i;
    }
