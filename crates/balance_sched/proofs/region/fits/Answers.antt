use Rattle.std.proofs.Common.{length, arith}
use Rattle.std.proofs.lemmas.Bool.Decides.{nat_tests}
use Rattle.rule_fit.specs.Suits.{suits_in, counts_of}
use Rattle.rule_fit.proofs.LawLemmas.{number_fits, fit_number}
use Rattle.balance_sched.proofs.region.fits.Goals as goal

pub returns : goal.returns
returns c =
    let n = c.in_ok-misfit_number.field-0 in
    rw (← c.requires.rules) (
      (λ h. number_fits (suits_in c.args.beat.now c.args.rules.now c.args.on.stores.now c.args.on.now) (length c.args.beat.now.region.peers) (counts_of c.args.rules.now) n c.in_ok-misfit_number.ensures.value (grind (arith, nat_tests, h))),
      (λ fit. let none = fit_number (suits_in c.args.beat.now c.args.rules.now c.args.on.stores.now c.args.on.now) (length c.args.beat.now.region.peers) (counts_of c.args.rules.now) n c.in_ok-misfit_number.ensures.value fit in grind (arith, nat_tests, none)),
    )
