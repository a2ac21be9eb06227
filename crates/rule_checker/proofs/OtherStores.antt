-- The stores of a region's other peers.
use Rattle.std.proofs.Common.{refl, ◌≡◌, ◌≢◌, ◌==◌, Bool, not, cond, List, [], ◌∷◌, ◌++◌, map, All, ap, ◌∙◌}
use Rattle.std.specs.Prelude.{filter}
use Rattle.std.proofs.lemmas.Bool.{eq-eqb, ne_eqb}
use Rattle.std.proofs.lemmas.List.Elements.{All-head, All-tail}
use Rattle.pd_types.specs.declared.region.Peer.{Peer}
use Rattle.rule_checker.specs.Ranks.{other_stores as stores_beside}

-- another peer than this one
abbrev is_other : Peer → Peer → Bool
is_other peer one = not (one.id == peer.id)

abbrev IsApart : Peer → Peer → Type 0
IsApart peer one = one.id ≢ peer.id

others_stay : (peer : Peer) (peers : List Peer) → All (IsApart peer) peers → filter (is_other peer) peers ≡ peers
others_stay peer [] apart = refl
others_stay peer (one ∷ peers) apart =
    ap (λ (b : Bool). cond (not b) (one ∷ filter (is_other peer) peers) (filter (is_other peer) peers)) (ne_eqb one.id peer.id (All-head (IsApart peer) one peers apart))
    ∙ ap (λ (rest : List Peer). one ∷ rest) (others_stay peer peers (All-tail (IsApart peer) one peers apart))

others_beside : (peer : Peer) (before behind : List Peer) → All (IsApart peer) (before ++ behind) → filter (is_other peer) (before ++ peer ∷ behind) ≡ before ++ behind
others_beside peer [] behind apart =
    ap (λ (b : Bool). cond (not b) (peer ∷ filter (is_other peer) behind) (filter (is_other peer) behind)) (eq-eqb peer.id peer.id refl) ∙ others_stay peer behind apart
others_beside peer (one ∷ before) behind apart =
    ap (λ (b : Bool). cond (not b) (one ∷ filter (is_other peer) (before ++ peer ∷ behind)) (filter (is_other peer) (before ++ peer ∷ behind))) (ne_eqb one.id peer.id (All-head (IsApart peer) one (before ++ behind) apart))
    ∙ ap (λ (rest : List Peer). one ∷ rest) (others_beside peer before behind (All-tail (IsApart peer) one (before ++ behind) apart))

pub other_stores : (peer : Peer) (peers before behind : List Peer) → peers ≡ before ++ peer ∷ behind → All (λ (one : Peer). one.id ≢ peer.id) (before ++ behind) → stores_beside peer peers ≡ map (λ (one : Peer). one.store) (before ++ behind)
other_stores peer peers before behind is apart =
    ap (λ (all : List Peer). map (λ (one : Peer). one.store) (filter (is_other peer) all)) is ∙ ap (map (λ (one : Peer). one.store)) (others_beside peer before behind apart)
