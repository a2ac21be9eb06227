use Rattle.std.proofs.Common.{◌≡◌, ◌++◌, take}
use Rattle.std.specs.Prelude.{flat_map, string_bytes}
use Rattle.pd_run.specs.declared.answer.StoreAnswers.{StoreAnswers}
use Rattle.pd_cluster.specs.RunText.{store_section}
use Rattle.pd_cluster.proofs.run_text.put_stores.Given as goal

abbrev pub invariant-loop-store : goal.invariant-loop-store
invariant-loop-store l = string_bytes l.text ≡ string_bytes l.fn.text ++ flat_map (λ (d : StoreAnswers). store_section d.store d.answers.items) (take l.store-index l.stores)
