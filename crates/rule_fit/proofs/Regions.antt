-- The table of a region says which peer suits which rule.
use Rattle.std.proofs.Common.{ℕ, zero, suc, Bool, false, ◌≡◌, refl, List, [], ◌∷◌, length, get_or, map, Some, Vec, arith, subst}
use Rattle.std.specs.Global.{Global}
use Rattle.std.specs.List.{slice_get}
use mathlib.Core.Path.{fun_ext}
use Rattle.pd_types.specs.declared.region.Peer.{Peer}
use Rattle.pd_types.specs.declared.rule.Rule.{Rule}
use Rattle.pd_types.specs.declared.region.RegionBeat.{RegionBeat}
use Rattle.store_table.specs.declared.entry.StoreEntry.{StoreEntry}
use Rattle.rule_fit.specs.Table.{suits}
use Rattle.rule_fit.specs.Suits.{peer_suits, both_suit, suits_in}

cell : (leader : ℕ) (stores : List StoreEntry) (now : ℕ) (peer : Peer) (rules : List Rule) (r : ℕ) → get_or (map (peer_suits leader stores now peer) rules) r false ≡ both_suit leader stores now (Some peer) (slice_get rules r)
cell leader stores now peer [] r = refl
cell leader stores now peer (rule ∷ rules) zero = refl
cell leader stores now peer (rule ∷ rules) (suc r) = cell leader stores now peer rules r

cells : (leader : ℕ) (stores : List StoreEntry) (now : ℕ) (rules : List Rule) (table : List (Vec Bool Global)) (peers : List Peer) → map (λ row. row.items) table ≡ map (λ peer. map (peer_suits leader stores now peer) rules) peers → (p r : ℕ) → suits table p r ≡ both_suit leader stores now (slice_get peers p) (slice_get rules r)
cells leader stores now rules [] [] e p r = refl
cells leader stores now rules [] (peer ∷ peers) e p r = absurd (cc)
cells leader stores now rules (row ∷ table) [] e p r = absurd (cc)
cells leader stores now rules (row ∷ table) (peer ∷ peers) e zero r =
    let first : row.items ≡ map (peer_suits leader stores now peer) rules = cc in rw first (cell leader stores now peer rules r)
cells leader stores now rules (row ∷ table) (peer ∷ peers) e (suc p) r =
    let rest : map (λ row. row.items) table ≡ map (λ peer. map (peer_suits leader stores now peer) rules) peers = cc in cells leader stores now rules table peers rest p r

pub table_suits : (beat : RegionBeat) (rules : List Rule) (stores : List StoreEntry) (now : ℕ) (table : List (Vec Bool Global)) → map (λ row. row.items) table ≡ map (λ peer. map (peer_suits beat.leader stores now peer) rules) beat.region.peers → suits table ≡ suits_in beat rules stores now
table_suits beat rules stores now table e = fun_ext (λ p. fun_ext (λ r. cells beat.leader stores now rules table beat.region.peers e p r))

pub table_length : (leader : ℕ) (stores : List StoreEntry) (now : ℕ) (rules : List Rule) (table : List (Vec Bool Global)) (peers : List Peer) → map (λ row. row.items) table ≡ map (λ peer. map (peer_suits leader stores now peer) rules) peers → length table ≡ length peers
table_length leader stores now rules [] [] e = refl
table_length leader stores now rules [] (peer ∷ peers) e = absurd (cc)
table_length leader stores now rules (row ∷ table) [] e = absurd (cc)
table_length leader stores now rules (row ∷ table) (peer ∷ peers) e =
    let rest : map (λ row. row.items) table ≡ map (λ peer. map (peer_suits leader stores now peer) rules) peers = cc in
    let same : length table ≡ length peers = table_length leader stores now rules table peers rest in omega arith

-- a fact of a table is one of its region
pub carry : (P : (ℕ → ℕ → Bool) → ℕ → List ℕ → Type 0) (s t : ℕ → ℕ → Bool) (m n : ℕ) (xs ys : List ℕ) → s ≡ t → m ≡ n → xs ≡ ys → P s m xs → P t n ys
carry P s t m n xs ys e f g p =
    subst (λ (v : List ℕ). P t n v) g (subst (λ (v : ℕ). P t v xs) f (subst (λ (v : ℕ → ℕ → Bool). P v m xs) e p))
