use Rattle.std.proofs.Common.{◌≡◌, ◌++◌, take, ℕ}
use Rattle.std.specs.Prelude.{string_bytes}
use Rattle.pd_state.specs.Clusters.{ClusterValue}
use Rattle.pd_run.specs.Runs.{journal_of}
use Rattle.pd_cluster.specs.RunText.{journal_section, numbered}
use Rattle.pd_cluster.proofs.run_text.put_journals.Given as goal

abbrev pub invariant-loop-i : goal.invariant-loop-i
invariant-loop-i l = string_bytes l.text ≡ string_bytes l.fn.text ++ numbered (λ (n : ℕ) (c : ClusterValue). journal_section n (journal_of c)) 1 (take l.i l.clusters)
