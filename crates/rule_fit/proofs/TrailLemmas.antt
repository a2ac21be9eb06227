-- Trails under a move of the last step's peer, and under a new step.
use Rattle.std.proofs.Common.{ℕ, Bool, true, ◌≡◌, ◌+◌, ◌<◌, ◌≤◌, arith, sym, ◌∙◌, subst, List, length, get_or, set, Option, Some, None, get_or-set_other}
use Rattle.std.proofs.Math.ListN.{length-set}
use Rattle.rule_fit.specs.declared.search.Reached.{Reached}
use Rattle.rule_fit.specs.Assignment.{held, IsAssignment}
use Rattle.rule_fit.specs.Trail.{IsTrail, peer_at}
use Rattle.rule_fit.proofs.Moves.{moved}

-- the last step's peer moves: the steps before it are a trail
pub trail_set : (suits : ℕ → ℕ → Bool) (given : List (Option ℕ)) (queue : List Reached) (at n r : ℕ) → IsTrail suits (length given) given queue (at + 1) → n ≤ at → IsTrail suits (length (set given (peer_at queue at) (Some r))) (set given (peer_at queue at) (Some r)) queue n
trail_set suits given queue at n r trail less =
    let short = trail.short in
    let same : length (set given (peer_at queue at) (Some r)) ≡ length given = length-set given (peer_at queue at) (Some r) in
    let kept : (i : ℕ) → i < n → get_or (set given (peer_at queue at) (Some r)) (peer_at queue i) None ≡ get_or given (peer_at queue i) None
    = λ i h. get_or-set_other given (peer_at queue at) (peer_at queue i) (Some r) None (trail.apart i at (omega arith) (omega arith)) in
    record {
      short = omega arith;
      inside = λ i h. let one = trail.inside i (omega arith) in omega arith;
      start = λ i h e. kept i h ∙ trail.start i (omega arith) e;
      back = λ i link h e. trail.back i link (omega arith) e;
      leaves = λ i link h e. kept i h ∙ trail.leaves i link (omega arith) e;
      suited = λ i link h e. trail.suited i link (omega arith) e;
      apart = λ i j h k. trail.apart i j h (omega arith);
    }

pub moved_here : (suits : ℕ → ℕ → Bool) (counts : List ℕ) (given : List (Option ℕ)) (p r : ℕ) → IsAssignment suits (length given) counts given → p < length given → r < length counts → suits p r ≡ true → held given r < get_or counts r 0 → IsAssignment suits (length (set given p (Some r))) counts (set given p (Some r))
moved_here suits counts given p r assigned below known suited room =
    subst (λ (n : ℕ). IsAssignment suits n counts (set given p (Some r))) (sym (length-set given p (Some r))) (moved suits (length given) counts given p r assigned below known suited room)
