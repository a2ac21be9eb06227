use Rattle.rule_fit.proofs.LawLemmas.{one_number, number_alone, number_fits, number_free, fit_number}
use Rattle.rule_fit.proofs.WayLemmas.{misfit_is}
use Rattle.rule_fit.proofs.laws.one_misfit_number.Goals as goal

pub returns-clause-one : goal.returns-clause-one
returns-clause-one c = one_number

pub returns-clause-zero_fits : goal.returns-clause-zero_fits
returns-clause-zero_fits c = number_fits

pub returns-clause-fits_zero : goal.returns-clause-fits_zero
returns-clause-fits_zero c = fit_number

pub returns-clause-no_peers : goal.returns-clause-no_peers
returns-clause-no_peers c = number_alone

pub returns-clause-no_rules : goal.returns-clause-no_rules
returns-clause-no_rules c = number_free

pub returns-clause-ways : goal.returns-clause-ways
returns-clause-ways c = misfit_is
