use Rattle.std.proofs.Common.{◌≡◌, ◌∙◌, sym, subst, true, false, List, length}
use Rattle.std.proofs.lemmas.Bool.{true≢false, ltb-true, lt-ltb}
use Rattle.std.specs.List.{list_all}
use Rattle.pd_types.specs.BeatCheck.{has_id}
use Rattle.pd_types.specs.declared.region.Peer.{Peer}
use Rattle.rule_fit.specs.Chosen.{size_of}
use Rattle.rule_fit.specs.Ids.{chosen_by}
use Rattle.rule_fit.proofs.certificate.lack.Goals as goal

pub returns-then-are_peers : goal.returns-then-are_peers
returns-then-are_peers c =
    let inside = subst (λ (peers : List Peer). list_all (has_id peers) c.args.ids.now ≡ true) c.as_slice-peers.ensures.value (sym c.are_peers.ensures ∙ c.if-are_peers.true) in
    let size = subst (λ (peers : List Peer). c.size.result ≡ size_of (length peers) (chosen_by c.args.ids.now peers)) c.as_slice-peers.ensures.value c.size.ensures in
    (λ less. record { inside = inside; lacks = rw (← c.capacity.ensures, ← size) (ltb-true _ _ less) }, λ lacking. lt-ltb _ _ (rw (c.capacity.ensures, size) lacking.lacks))

pub returns-else-are_peers : goal.returns-else-are_peers
returns-else-are_peers c =
    let outside = subst (λ (peers : List Peer). list_all (has_id peers) c.args.ids.now ≡ false) c.as_slice-peers.ensures.value (sym c.are_peers.ensures ∙ c.if-are_peers.false) in
    (λ yes. absurd (true≢false (sym yes ∙ c.if-are_peers.false)), λ lacking. absurd (true≢false (sym lacking.inside ∙ outside)))
