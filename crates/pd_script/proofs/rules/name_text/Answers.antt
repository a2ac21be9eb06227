use Rattle.std.proofs.Common.{◌≡◌, ◌<◌, ℕ, zero, suc, List, [], ◌∷◌, true, arith, ◌∙◌}
use Rattle.std.specs.List.{list_all}
use Rattle.std.specs.Str.{IsAscii}
use Rattle.std.proofs.lemmas.Bool.Decides.{nat_tests}
use Rattle.std.proofs.lemmas.Str.{IsUtf8-from_ascii}
use Rattle.pd_script.specs.RuleLines.{is_graphic}
use Rattle.pd_types.proofs.Bools.{and_true}
use Rattle.pd_script.proofs.rules.name_text.Goals as goal

low : (b : ℕ) → is_graphic b ≡ true → b < 128
low b graphic = grind (arith, nat_tests)

are_ascii : (word : List ℕ) → list_all is_graphic word ≡ true → IsAscii word
are_ascii [] e i = omega arith
are_ascii (b ∷ bs) e zero = low b (and_true (is_graphic b) (list_all is_graphic bs) e).0
are_ascii (b ∷ bs) e (suc i) = are_ascii bs (and_true (is_graphic b) (list_all is_graphic bs) e).1 i

pub returns : goal.returns
returns c = record { ok = c.of.ensures.value ∙ c.in_ok-from_utf8_lossy.ensures.ok (IsUtf8-from_ascii c.args.word.now (are_ascii c.args.word.now c.requires.graphic)) }
