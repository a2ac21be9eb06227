use Rattle.pd_script.proofs.Behind.{behind_has_the_others}
use Rattle.pd_script.proofs.laws.a_rest_keeps_its_words.Goals as goal

pub returns-clause-words : goal.returns-clause-words
returns-clause-words c = behind_has_the_others
