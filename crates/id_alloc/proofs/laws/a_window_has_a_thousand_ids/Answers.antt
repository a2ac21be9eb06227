use Rattle.std.proofs.Common.{◌≡◌, ◌∙◌, refl, true, ◌&&◌, cond, ℕ, List, Option, Some, None, ap, sym, arith}
use Rattle.std.specs.Prelude.{codes}
use Rattle.std.specs.Fmt.{decimal}
use Rattle.std.specs.Str.{bytes_eq}
use Rattle.std.specs.Str.Parse.{AllDigits}
use Rattle.std.proofs.lemmas.Bool.Decides.{nat_tests}
use Rattle.std.proofs.lemmas.Fmt.{decimal-digits_value}
use Rattle.std.proofs.lemmas.Str.Parse.{numerals_by_value, tells_digits}
use Rattle.pd_lines.specs.Numeral.{number_of}
use Rattle.pd_lines.proofs.Numerals.{number_law}
use Rattle.meta_store.specs.declared.record.MetaCall.{MetaCall}
use Rattle.meta_store.specs.declared.record.MetaCall.TheVariants as calls
use Rattle.id_alloc.specs.Windows.{Window, end_or}
use Rattle.id_alloc.proofs.laws.a_window_has_a_thousand_ids.Goals as goal

second : decimal 1002000 ≡ codes "1002000"
second = decimal-digits_value (numerals_by_value (AllDigits 10) tells_digits) (codes "1002000") (omega arith, (omega arith, (omega arith, (omega arith, (omega arith, (omega arith, (omega arith, tt))))))) (omega arith) (λ e. absurd (omega arith)) (omega arith)

first : decimal 1001000 ≡ codes "1001000"
first = decimal-digits_value (numerals_by_value (AllDigits 10) tells_digits) (codes "1001000") (omega arith, (omega arith, (omega arith, (omega arith, (omega arith, (omega arith, (omega arith, tt))))))) (omega arith) (λ e. absurd (omega arith)) (omega arith)

one : decimal 1 ≡ codes "1"
one = decimal-digits_value (numerals_by_value (AllDigits 10) tells_digits) (codes "1") (omega arith, tt) (omega arith) (λ e. absurd (omega arith)) (omega arith)

reads : number_of (codes "1001000") ≡ Some 1001000
reads = ap number_of (sym first) ∙ (number_law (decimal 1001000) 1001000).1 (omega arith, refl)

not_read : number_of (codes "01") ≡ None
unfolding number_of
not_read = ap (λ (d : List ℕ). cond {A = Option ℕ} (bytes_eq (codes "01") d && true) (Some 1) None) one

pub returns-clause-found : goal.returns-clause-found
returns-clause-found c = ap (λ (o : Option ℕ). let w : Window = record { end = end_or o; revision = 5; taken = end_or o } in w) reads

pub returns-clause-other : goal.returns-clause-other
returns-clause-other c = ap (λ (o : Option ℕ). let w : Window = record { end = end_or o; revision = 5; taken = end_or o } in w) not_read

pub returns-clause-call : goal.returns-clause-call
returns-clause-call c = ap (λ (d : List ℕ). let call : MetaCall = calls.Put 7 (codes "id") 5 d in call) second

pub returns-clause-spent : goal.returns-clause-spent
returns-clause-spent c = λ old talk is. (grind (arith, nat_tests, is.used), grind (arith, nat_tests, is.full))
