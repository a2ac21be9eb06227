use Rattle.std.proofs.Common.{◌≡◌, drop}
use Rattle.std.specs.List.{find}
use Rattle.std.specs.Str.{bytes_eq}
use Rattle.pd_script.specs.Asks.{request_word}
use Rattle.pd_script.proofs.request_verb.first_named_request.Given as goal

abbrev pub invariant-loop-verb : goal.invariant-loop-verb
invariant-loop-verb l = find (λ verb. bytes_eq l.word (request_word verb)) l.verbs ≡ find (λ verb. bytes_eq l.word (request_word verb)) (drop l.verb-index l.verbs)
