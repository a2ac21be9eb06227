use Rattle.std.proofs.Common.{◌≡◌, drop}
use Rattle.std.specs.List.{find}
use Rattle.std.specs.Str.{bytes_eq}
use Rattle.pd_script.specs.Table.{row}
use Rattle.pd_script.proofs.verb.first_named.Given as goal

abbrev pub invariant-loop-verb : goal.invariant-loop-verb
invariant-loop-verb l = find (λ verb. bytes_eq l.word (row verb).name) l.verbs ≡ find (λ verb. bytes_eq l.word (row verb).name) (drop l.verb-index l.verbs)
