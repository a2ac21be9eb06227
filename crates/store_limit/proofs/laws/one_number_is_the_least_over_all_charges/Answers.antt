use Rattle.store_limit.proofs.ChargeLemmas.{available-least, charges-within}
use Rattle.store_limit.proofs.laws.one_number_is_the_least_over_all_charges.Goals as goal

pub returns-clause-least : goal.returns-clause-least
returns-clause-least c = available-least

pub returns-clause-within : goal.returns-clause-within
returns-clause-within c = charges-within
