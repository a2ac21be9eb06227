use Rattle.std.proofs.Common.{◌∙◌, ◌++◌, List, ℕ, ap, sym}
use Rattle.std.specs.Prelude.{string_bytes}
use Rattle.pd_cluster.proofs.RunTexts.{key_pushed, no_text, text_key}
use Rattle.pd_cluster.proofs.run_text.put_key.Goals as goal
use Rattle.std.proofs.lemmas.List.{append-nil}

pub returns-in-Ok : goal.returns-in-Ok
returns-in-Ok c = record { text = key_pushed c.push_str.result _ _ _ _ c.push_str.ensures.bytes (c.in-Ok.ensures.cases.0 ∙ text_key c.args.key.now c.in-Ok.ensures.cases.1) }

pub returns-in-Err : goal.returns-in-Err
returns-in-Err c = record { text = sym (append-nil (string_bytes c.args.text.now)) ∙ ap (λ (bs : List ℕ). string_bytes c.args.text.now ++ bs) (no_text c.args.key.now c.in-Err.ensures.cases.0) }
