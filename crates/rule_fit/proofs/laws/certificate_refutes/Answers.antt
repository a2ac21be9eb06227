use Rattle.rule_fit.proofs.LawLemmas.{certificate_refutes}
use Rattle.rule_fit.proofs.laws.certificate_refutes.Goals as goal

pub returns : goal.returns
returns c = record { refutes = certificate_refutes }
