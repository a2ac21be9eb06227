use Rattle.std.proofs.Common.{◌≡◌, ◌==◌, ap, refl, sym, true, false, ◌∙◌}
use Rattle.std.proofs.lemmas.Bool.{ne_eqb}
use Rattle.op_step.proofs.CarriedLemmas.{same_number}
use Rattle.op_step.proofs.laws.the_first_fault_is_named.Goals as goal

pub returns-clause-unknown : goal.returns-clause-unknown
returns-clause-unknown c store now beat stores a = rw a refl

pub returns-clause-unusable : goal.returns-clause-unusable
returns-clause-unusable c store now beat stores a b = rw (a, b) refl

pub returns-clause-taken : goal.returns-clause-taken
returns-clause-taken c store now beat stores a b d = rw (a, b, d) refl

pub returns-clause-move_unusable : goal.returns-clause-move_unusable
returns-clause-move_unusable c from to now beat stores a b d = rw (a, b, d) refl

pub returns-clause-move_taken : goal.returns-clause-move_taken
returns-clause-move_taken c from to now beat stores a b d e = rw (a, b, d, e) refl

pub returns-clause-leads : goal.returns-clause-leads
returns-clause-leads c store now beat stores peer a b leads =
    let same : (peer.id == beat.leader) ≡ true = ap (λ n. peer.id == n) (sym leads) ∙ same_number peer.id in
    rw (a, b, same) refl

pub returns-clause-no_voter : goal.returns-clause-no_voter
returns-clause-no_voter c store now beat stores peer a b other learner =
    let differ : (peer.id == beat.leader) ≡ false = ne_eqb peer.id beat.leader other in
    rw (a, b, differ, learner) refl

pub returns-clause-no_peer : goal.returns-clause-no_peer
returns-clause-no_peer c store now beat stores a b = rw (a, b) refl

pub returns-clause-no_target : goal.returns-clause-no_target
returns-clause-no_target c store now beat stores peer a b leads none =
    let same : (peer.id == beat.leader) ≡ true = ap (λ n. peer.id == n) (sym leads) ∙ same_number peer.id in
    rw (a, b, same, none) refl
