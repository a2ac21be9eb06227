-- The answer of `fit`.
use Rattle.std.specs.Prelude.{◌≡◌, ℕ, Bool, true, false, List, length, sum, map, filter, Option, ⊤}
use Rattle.pd_types.specs.declared.region.Peer.{Peer}
use Rattle.rule_fit.specs.declared.answer.Fit.{Fit}
use Rattle.rule_fit.specs.declared.answer.Fit.TheVariants.{Fits as FitsWith, Misfit}
use Rattle.rule_fit.specs.declared.answer.Certificate.{Certificate}
use Rattle.rule_fit.specs.declared.answer.Certificate.TheVariants.{Totals, Peers}
use Rattle.rule_fit.specs.Certificate.{Certifies, Differ}

-- whether it says that the region fits
abbrev pub says_fits : Fit → Bool
says_fits (FitsWith given) = true
says_fits (Misfit given certificate) = false

-- the assignment in it
abbrev pub given_of : Fit → List (Option ℕ)
given_of (FitsWith given) = given
given_of (Misfit given certificate) = given

-- a misfit has a certificate that holds
abbrev pub IsCertified : (ℕ → ℕ → Bool) → List Peer → List ℕ → Fit → Type 0
IsCertified suits peers counts (FitsWith given) = ⊤
IsCertified suits peers counts (Misfit given certificate) = Certifies suits peers counts certificate

-- the totals, where they differ; else the ids of some of the region's peers, each once and in the region's order
abbrev pub IsOfItsKind : List Peer → List ℕ → Certificate → Type 0
IsOfItsKind peers counts (Totals total many) = Differ (length peers) counts total many
IsOfItsKind peers counts (Peers ids) =
    (sum counts ≡ length peers) × (chosen : Peer → Bool) × (ids ≡ map (λ peer. peer.id) (filter chosen peers))

-- a misfit has a certificate of its kind
abbrev pub HasItsKind : List Peer → List ℕ → Fit → Type 0
HasItsKind peers counts (FitsWith given) = ⊤
HasItsKind peers counts (Misfit given certificate) = IsOfItsKind peers counts certificate
