-- A store's isolation score by the labels of each store.
use Rattle.std.proofs.Common.{◌≡◌, ℕ, List, refl, sym, ◌∙◌, ap, Some}
use Rattle.pd_types.specs.declared.store.Label.{Label}
use Rattle.pd_types.specs.declared.region.Peer.{Peer}
use Rattle.pd_types.specs.declared.region.RegionBeat.{RegionBeat}
use Rattle.pd_types.specs.declared.rule.Rule.{Rule}
use Rattle.store_table.specs.declared.entry.StoreEntry.{StoreEntry}
use Rattle.store_table.specs.Entries.{entry_at}
use Rattle.rule_fit.specs.Isolation.{score_among}
use Rattle.rule_fit.specs.Suits.{labels_in, labels_of, labels_of_all}
use Rattle.rule_fit.proofs.IsolationLemmas.{score_among_labels}
use Rattle.rule_checker.specs.declared.class.Class.{Class}
use Rattle.rule_checker.specs.declared.class.Class.TheVariants.{Promote, Transfer, AddVoter, AddLearner, Remove}
use Rattle.rule_checker.specs.Arrival.{Adds}
use Rattle.rule_checker.specs.Candidates.{new_on}
use Rattle.rule_checker.specs.Ranks.{locations_by, locations_for, score_beside, score_of, stores_of}

pub score_by_labels : (rules : List Rule) (stores : List StoreEntry) (store : ℕ) (others : List ℕ) → score_beside rules stores store others ≡ score_among (labels_of store stores) (labels_of_all others stores) (locations_by rules (labels_of store stores))
score_by_labels rules stores store others = score_among_labels stores store others (locations_for rules stores store)

-- a known store's labels
labels_known : (stores : List StoreEntry) (entry : StoreEntry) → entry_at entry.store.id stores ≡ Some entry → labels_of entry.store.id stores ≡ entry.store.labels
labels_known stores entry known = ap labels_in known

-- a score beside the stores of the region's peers is that of a new peer
by_class : (class : Class) (beat : RegionBeat) (rules : List Rule) (stores : List StoreEntry) (peer : Peer) → Adds class → score_beside rules stores peer.store (stores_of beat.region.peers) ≡ score_of class beat rules stores peer
by_class Promote beat rules stores peer adds = absurd adds
by_class Transfer beat rules stores peer adds = absurd adds
by_class AddVoter beat rules stores peer adds = refl
by_class AddLearner beat rules stores peer adds = refl
by_class Remove beat rules stores peer adds = absurd adds

-- by the labels of the store and of the stores of the region's peers
pub new_score : (class : Class) (beat : RegionBeat) (rules : List Rule) (stores : List StoreEntry) (entry : StoreEntry) (own : List Label) (others : List (List Label)) (peer : Peer) (score : ℕ) → Adds class → entry_at entry.store.id stores ≡ Some entry → own ≡ entry.store.labels → others ≡ labels_of_all (stores_of beat.region.peers) stores → peer ≡ new_on entry.store.id → score ≡ score_among own others (locations_by rules own) → score ≡ score_of class beat rules stores peer
new_score class beat rules stores entry own others peer score adds known is are same scored =
    let all = stores_of beat.region.peers in
    let mine = is ∙ sym (labels_known stores entry known) in
    scored
    ∙ ap (λ (labels : List Label). score_among labels others (locations_by rules labels)) mine
    ∙ ap (λ (labels : List (List Label)). score_among (labels_of entry.store.id stores) labels (locations_by rules (labels_of entry.store.id stores))) are
    ∙ sym (score_by_labels rules stores entry.store.id all)
    ∙ by_class class beat rules stores (new_on entry.store.id) adds
    ∙ ap (λ (p : Peer). score_of class beat rules stores p) (sym same)
