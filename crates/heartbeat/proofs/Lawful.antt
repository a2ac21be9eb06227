-- The laws of answers and of counts.
use Rattle.std.proofs.Common.{◌≡◌, ℕ, ◌+◌, ◌<◌, ◌≤◌, Bool, true, false, ◌&&◌, cond, nat_eq, nat_lt, List, length, ap, ◌∙◌, Some, None, Option, ◌↔◌, arith}
use Rattle.std.proofs.lemmas.Bool.Decides.{nat_tests}
use Rattle.std.proofs.lemmas.List.Folds.{Any-from_list_any, list_any-from_Any}
use Rattle.std.specs.List.{Any, filter}
use Rattle.pd_types.specs.BeatCheck.{first_fault}
use Rattle.pd_types.specs.declared.beat.BeatFault.{BeatFault}
use Rattle.pd_types.specs.declared.region.Epoch.{Epoch}
use Rattle.pd_types.specs.declared.region.Peer.{Peer}
use Rattle.pd_types.specs.declared.region.RegionBeat.{RegionBeat}
use Rattle.pd_types.proofs.Bools.{and_both, and_true}
use Rattle.pd_types.proofs.Numbers.{equal, same_number}
use Rattle.region_tree.specs.Stale.{ids_of, put_beat, removed_by, stale_by}
use Rattle.region_tree.specs.Standing.{stays}
use Rattle.region_tree.proofs.Lawful.{inserted_length}
use Rattle.heartbeat.specs.Counts.{is_on, leads_on}
use Rattle.heartbeat.specs.Intakes.{fresh_intake, intake_by, intake_of}
use Rattle.heartbeat.specs.declared.intake.Intake.TheVariants.{Accepted, Bad, Stale, Full}

pub bad_first : (beat : RegionBeat) (held : List RegionBeat) (fault : BeatFault) → first_fault beat ≡ Some fault → intake_of beat held ≡ Bad fault
bad_first beat held fault is = ap (λ (o : Option BeatFault). intake_by o beat held) is

good : (beat : RegionBeat) (held : List RegionBeat) (o : Option Epoch) → first_fault beat ≡ None → stale_by beat held ≡ o → intake_of beat held ≡ fresh_intake o beat held
good beat held o passes is = ap (λ (o : Option BeatFault). intake_by o beat held) passes ∙ ap (λ (o : Option Epoch). fresh_intake o beat held) is

pub stale_second : (beat : RegionBeat) (held : List RegionBeat) (kept : Epoch) → first_fault beat ≡ None → stale_by beat held ≡ Some kept → intake_of beat held ≡ Stale kept
stale_second beat held kept passes is = good beat held (Some kept) passes is

over : (n : ℕ) → 65536 < n + 1 → nat_lt 65536 (n + 1) ≡ true
over n h = grind (arith, nat_tests)

under : (n : ℕ) → n + 1 ≤ 65536 → nat_lt 65536 (n + 1) ≡ false
under n h = grind (arith, nat_tests)

pub full_third : (beat : RegionBeat) (held : List RegionBeat) → first_fault beat ≡ None → stale_by beat held ≡ None → 65536 < length (put_beat beat held) → intake_of beat held ≡ Full
full_third beat held passes fresh high =
    let long = inserted_length beat (filter (stays beat) held) in
    good beat held None passes fresh ∙ ap (λ (t : Bool). cond t Full (Accepted (ids_of (removed_by beat held)))) (over (length (filter (stays beat) held)) (omega (arith, long, high)))

pub accepted_else : (beat : RegionBeat) (held : List RegionBeat) → first_fault beat ≡ None → stale_by beat held ≡ None → length (put_beat beat held) ≤ 65536 → intake_of beat held ≡ Accepted (ids_of (removed_by beat held))
accepted_else beat held passes fresh low =
    let long = inserted_length beat (filter (stays beat) held) in
    good beat held None passes fresh ∙ ap (λ (t : Bool). cond t Full (Accepted (ids_of (removed_by beat held)))) (under (length (filter (stays beat) held)) (omega (arith, long, low)))

-- counts
weaker : {X : Type 0} (P Q : X → Type 0) → ((x : X) → P x → Q x) → (xs : List X) → Any P xs → Any Q xs
weaker P Q f xs (k, x, low, at, p) = (k, x, low, at, f x p)

pub on_by_peer : (store : ℕ) (beat : RegionBeat) → (is_on store beat ≡ true) ↔ Any (λ (peer : Peer). peer.store ≡ store) beat.region.peers
on_by_peer store beat = (
  λ h. weaker (λ (peer : Peer). nat_eq peer.store store ≡ true) (λ (peer : Peer). peer.store ≡ store) (λ peer is. same_number peer.store store is) beat.region.peers (Any-from_list_any (λ (peer : Peer). nat_eq peer.store store) beat.region.peers h),
  λ h. list_any-from_Any (λ (peer : Peer). nat_eq peer.store store) beat.region.peers (weaker (λ (peer : Peer). peer.store ≡ store) (λ (peer : Peer). nat_eq peer.store store ≡ true) (λ peer is. equal peer.store store is) beat.region.peers h),
)

pub led_by_peer : (store : ℕ) (beat : RegionBeat) → (leads_on store beat ≡ true) ↔ Any (λ (peer : Peer). (peer.id ≡ beat.leader) × (peer.store ≡ store)) beat.region.peers
led_by_peer store beat = (
  λ h. weaker (λ (peer : Peer). nat_eq peer.id beat.leader && nat_eq peer.store store ≡ true) (λ (peer : Peer). (peer.id ≡ beat.leader) × (peer.store ≡ store))
      (λ peer is. let parts = and_true (nat_eq peer.id beat.leader) (nat_eq peer.store store) is in (same_number peer.id beat.leader parts.0, same_number peer.store store parts.1)) beat.region.peers
      (Any-from_list_any (λ (peer : Peer). nat_eq peer.id beat.leader && nat_eq peer.store store) beat.region.peers h),
  λ h. list_any-from_Any (λ (peer : Peer). nat_eq peer.id beat.leader && nat_eq peer.store store) beat.region.peers
      (weaker (λ (peer : Peer). (peer.id ≡ beat.leader) × (peer.store ≡ store)) (λ (peer : Peer). nat_eq peer.id beat.leader && nat_eq peer.store store ≡ true)
      (λ peer is. and_both (nat_eq peer.id beat.leader) (nat_eq peer.store store) (equal peer.id beat.leader is.0) (equal peer.store store is.1)) beat.region.peers h),
)
