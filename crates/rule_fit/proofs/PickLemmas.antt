-- The ids of the marked peers, in the region's order.
use Rattle.std.proofs.Common.{ℕ, Bool, true, false, cond, ◌≡◌, ◌+◌, ◌<◌, ◌≤◌, refl, ap, sym, ◌∙◌, List, [], ◌∷◌, ◌++◌, length, get_or, take, map, append-nil}
use Rattle.std.specs.List.{filter}
use Rattle.std.proofs.lemmas.List.{take_more, take_all, map-append}
use Rattle.std.proofs.lemmas.List.Elements.{filter-append}
use Rattle.std.proofs.lemmas.Option.{slice_get-get_or}
use Rattle.pd_types.specs.declared.region.Peer.{Peer}
use Rattle.pd_types.specs.declared.region.Role.TheVariants.{Voter}
use Rattle.rule_fit.specs.Chosen.{listed}
use Rattle.rule_fit.specs.Search.{marked}
use Rattle.rule_fit.specs.Ids.{id_listed, chosen_by}

-- the test finds just the marked peers
abbrev pub Agrees : (Peer → Bool) → List Peer → List Bool → Type 0
Agrees chosen peers reached = (p : ℕ) (d : Peer) → p < length peers → chosen (get_or peers p d) ≡ marked reached p

-- the ids are those of the first k peers that a test finds which agrees with the marks
abbrev pub ArePicked : List ℕ → List Peer → List Bool → ℕ → Type 0
ArePicked ids peers reached k =
    (chosen : Peer → Bool) → Agrees chosen peers reached → ids ≡ map (λ (peer : Peer). peer.id) (filter chosen (take k peers))

one_more : (chosen : Peer → Bool) (x : Peer) (t : Bool) → chosen x ≡ t → map (λ (peer : Peer). peer.id) (filter chosen (x ∷ [])) ≡ cond t (x.id ∷ []) []
one_more chosen x true is = rw is refl
one_more chosen x false is = rw is refl

kept_more : (chosen : Peer → Bool) (peers : List Peer) (k : ℕ) (d : Peer) (t : Bool) → k < length peers → chosen (get_or peers k d) ≡ t → map (λ (peer : Peer). peer.id) (filter chosen (take (k + 1) peers)) ≡ map (λ (peer : Peer). peer.id) (filter chosen (take k peers)) ++ cond t ((get_or peers k d).id ∷ []) []
kept_more chosen peers k d t inside is =
    ap (λ l. map (λ (peer : Peer). peer.id) (filter chosen l)) (take_more peers k d inside)
    ∙ ap (map (λ (peer : Peer). peer.id)) (filter-append chosen (take k peers) (get_or peers k d ∷ []))
    ∙ map-append (λ (peer : Peer). peer.id) (filter chosen (take k peers)) (filter chosen (get_or peers k d ∷ []))
    ∙ ap (λ l. map (λ (peer : Peer). peer.id) (filter chosen (take k peers)) ++ l) (one_more chosen (get_or peers k d) t is)

some_peer : Peer
some_peer = record { id = 0; store = 0; role = Voter }

pub picked_skip : (ids : List ℕ) (peers : List Peer) (reached : List Bool) (k : ℕ) → ArePicked ids peers reached k → k < length peers → marked reached k ≡ false → ArePicked ids peers reached (k + 1)
picked_skip ids peers reached k are inside unmarked chosen agrees =
    are chosen agrees ∙ sym (kept_more chosen peers k some_peer false inside (agrees k some_peer inside ∙ unmarked) ∙ append-nil (map (λ (peer : Peer). peer.id) (filter chosen (take k peers))))

pub picked_push : (d : Peer) (ids : List ℕ) (peers : List Peer) (reached : List Bool) (k : ℕ) → ArePicked ids peers reached k → k < length peers → marked reached k ≡ true → ArePicked (ids ++ (get_or peers k d).id ∷ []) peers reached (k + 1)
picked_push d ids peers reached k are inside mark chosen agrees =
    ap (λ l. l ++ (get_or peers k d).id ∷ []) (are chosen agrees) ∙ sym (kept_more chosen peers k d true inside (agrees k d inside ∙ mark))

pub picked_end : (ids : List ℕ) (peers : List Peer) (reached : List Bool) (k : ℕ) → ArePicked ids peers reached k → length peers ≤ k → (chosen : Peer → Bool) → Agrees chosen peers reached → ids ≡ map (λ (peer : Peer). peer.id) (filter chosen peers)
picked_end ids peers reached k are past chosen agrees =
    are chosen agrees ∙ ap (λ l. map (λ (peer : Peer). peer.id) (filter chosen l)) (take_all k peers past)

-- the ids themselves are such a test
pub listed_agrees : (ids : List ℕ) (peers : List Peer) (reached : List Bool) → ((p : ℕ) → p < length peers → chosen_by ids peers p ≡ marked reached p) → Agrees (λ peer. listed ids peer.id) peers reached
listed_agrees ids peers reached agree p d inside =
    ap (id_listed ids) (sym (slice_get-get_or peers p d inside)) ∙ agree p inside
