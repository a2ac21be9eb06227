use Rattle.std.proofs.Common.{◌≡◌, ℕ, List, ◌++◌, ◌-◌, length, replicate, ap, arith}
use Rattle.std.specs.Prelude.{codes}
use Rattle.std.specs.Fmt.{decimal}
use Rattle.std.specs.Str.Parse.{AllDigits}
use Rattle.std.proofs.lemmas.Fmt.{decimal-digits_value}
use Rattle.std.proofs.lemmas.Str.Parse.{numerals_by_value, tells_digits}
use Rattle.meta_store.proofs.store.a_stored_store_is_spelled.Goals as goal

twelve : decimal 12 ≡ codes "12"
twelve = decimal-digits_value (numerals_by_value (AllDigits 10) tells_digits) (codes "12") (omega arith, (omega arith, tt)) (omega arith) (λ e. absurd (omega arith)) (omega arith)

pub returns-clause-key : goal.returns-clause-key
returns-clause-key c = ap (λ (d : List ℕ). codes "store/" ++ replicate (20 - length d) 48 ++ d) twelve
