use Rattle.std.proofs.Common.{List, map, refl, sym, subst}
use Rattle.std.proofs.lemmas.Simd.{map-map}
use Rattle.pd_script.specs.declared.script.Mode.TheVariants.{Run as OnThreads}
use Rattle.tso_board.specs.Boards.{setup_of as board_setup}
use Rattle.tso_board.specs.Opened.{IsOpened}
use Rattle.tso_model.specs.Sound.{IsSetup}
use Rattle.pd_state.specs.Clusters.{ClusterValue}
use Rattle.pd_state.specs.declared.entry.Entry.{Entry}
use Rattle.pd_run.specs.Heard.{AreHeard}
use Rattle.pd_run.specs.Runs.{Journal, journal_of, run_of}
use Rattle.pd_run.specs.Tasks.{AreTasks}
use Rattle.pd_cluster.proofs.Histories.{is_setup}
use Rattle.pd_cluster.proofs.RunLines.{answers_script}
use Rattle.pd_cluster.proofs.run.run_script.Goals as goal

pub run-requires-clause-setup : goal.run-requires-clause-setup
run-requires-clause-setup g c κs within = subst IsSetup (sym c.requires.opened.setup) (is_setup OnThreads c.args.script c.requires.lawful)

pub run-requires-clause-opened : goal.run-requires-clause-opened
run-requires-clause-opened g c κs within = subst (λ k. IsOpened k c.args.crew) (sym c.requires.opened.setup) c.requires.opened

pub run-requires-clause-tasks : goal.run-requires-clause-tasks
run-requires-clause-tasks g c κs within = subst (λ k. AreTasks k c.in_ok-tasks.tasks) (sym c.requires.opened.setup) c.in_ok-tasks.ensures.tasks

pub returns-clause-text : goal.returns-clause-text
returns-clause-text g c =
    let k = board_setup c.args.crew.board in
    let left = c.in_ok-left.left in
    let run = run_of k left in
    let back = map g.B.Seated.seats c.in_ok-left.back.items in
    let entries : List (List Entry) = map (λ (cluster : ClusterValue). cluster.entries) left.clusters.items in
    let journals = map-map (λ (journal : Journal). journal.entries) journal_of left.clusters.items in
    record {
      tells = record {
        ran = record {
          run = run;
          answers = answers_script c.args.script c.in_ok-tasks.tasks run c.in_ok-tasks.ensures.value c.requires.opened.setup c.in_ok-left.ensures.answers;
          lawful = c.in_ok-left.ensures.lawful;
          heard = subst (λ es. AreHeard 1 es (map g.B.Seated.seats c.args.benches.now.items) back) (sym journals)
              (subst (λ lent. AreHeard 1 entries (map g.B.Seated.seats lent.items) back) c.replace-lent.ensures.value c.in_ok-left.ensures.heard);
        };
        told = c.in_ok-text.ensures.text k;
      };
      windows = refl;
      batches = refl;
    }
