use Rattle.std.proofs.Common.{◌∙◌, ◌++◌, List, ℕ, ap, sym}
use Rattle.std.proofs.lemmas.List.{take_all}
use Rattle.std.specs.Prelude.{string_bytes}
use Rattle.pd_state.specs.Clusters.{ClusterValue}
use Rattle.pd_run.specs.Runs.{journal_of}
use Rattle.pd_cluster.specs.RunText.{journal_section, numbered}
use Rattle.pd_cluster.proofs.RunTexts.{numbered-map, numbered_read}
use Rattle.pd_cluster.proofs.run_text.put_journals.Goals as goal

abbrev section_of : ℕ → ClusterValue → List ℕ
section_of n v = journal_section n (journal_of v)

pub loop-i-preserved : goal.loop-i-preserved
loop-i-preserved c = numbered_read section_of c.args.clusters.now c.loop-i.i c.index-clusters-i.result (string_bytes c.args.text.now) _ _ c.loop-i-test.true c.index-clusters-i.is c.loop-i.invariant c.in_ok-put_journal.ensures.text

pub returns : goal.returns
returns c = record {
  text = c.loop-i.invariant ∙ ap (λ (vs : List ClusterValue). string_bytes c.args.text.now ++ numbered section_of 1 vs) (take_all c.loop-i.i c.args.clusters.now c.loop-i-test.false)
      ∙ ap (λ (bs : List ℕ). string_bytes c.args.text.now ++ bs) (sym (numbered-map journal_section journal_of 1 c.args.clusters.now));
}
