use Rattle.std.proofs.Common.{◌≡◌, ◌++◌, take}
use Rattle.std.specs.Prelude.{flat_map, string_bytes}
use Rattle.pd_cluster.specs.RunText.{client_line}
use Rattle.pd_cluster.proofs.run_text.put_client_answers.Given as goal

abbrev pub invariant-loop-answer : goal.invariant-loop-answer
invariant-loop-answer l = string_bytes l.text ≡ string_bytes l.fn.text ++ flat_map client_line (take l.answer-index l.answers)
