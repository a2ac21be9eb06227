-- What a certificate and a misfit number say of a fit.
use Rattle.std.proofs.Common.{ℕ, zero, suc, Bool, ◌≡◌, ◌<◌, arith, refl, sym, ◌∙◌, List, [], ◌∷◌, length, sum, ◌≤◌}
use Rattle.std.specs.List.{count_by}
use Rattle.rule_fit.specs.declared.answer.Certificate.{Certificate}
use Rattle.rule_fit.specs.declared.answer.Certificate.TheVariants.{Totals, Peers}
use Rattle.pd_types.specs.declared.region.Peer.{Peer}
use Rattle.rule_fit.specs.Ids.{chosen_by}
use Rattle.rule_fit.specs.Chosen.{size_of}
use Rattle.rule_fit.specs.Certificate.{Lacks, Certifies, IsMisfitNumber}
use Rattle.rule_fit.specs.Assignment.{placed, Fits}
use Rattle.rule_fit.specs.Search.{marked}
use Rattle.rule_fit.proofs.Totals.{size_marked, in_and_out, size_same, capacity_same}
use Rattle.rule_fit.proofs.Duality.{placed_bound}
use Rattle.rule_fit.proofs.FitLemmas.{fit_totals, fit_whole, placed_total, placed_few}

-- the marks of a set
marks : ℕ → (ℕ → Bool) → List Bool
marks zero chosen = []
marks (suc n) chosen = chosen 0 ∷ marks n (λ p. chosen (suc p))

length_marks : (n : ℕ) (chosen : ℕ → Bool) → length (marks n chosen) ≡ n
unfolding marks
length_marks zero chosen = refl
length_marks (suc n) chosen = let rest : length (marks n (λ p. chosen (suc p))) ≡ n = length_marks n (λ p. chosen (suc p)) in omega arith

marked_marks : (n : ℕ) (chosen : ℕ → Bool) (p : ℕ) → p < n → marked (marks n chosen) p ≡ chosen p
unfolding marks
marked_marks zero chosen p h = absurd (omega arith)
marked_marks (suc n) chosen zero h = refl
marked_marks (suc n) chosen (suc p) h = marked_marks n (λ q. chosen (suc q)) p (omega arith)

lacks_refutes : (suits : ℕ → ℕ → Bool) (peers : List Peer) (counts : List ℕ) (ids : List ℕ) → Lacks suits peers counts ids → Fits suits (length peers) counts → ⊥
lacks_refutes suits peers counts ids lacking fit =
    let n : ℕ = length peers in
    let reached : List Bool = marks n (chosen_by ids peers) in
    let size : length reached ≡ n = length_marks n (chosen_by ids peers) in
    let same : (p : ℕ) → p < n → marked reached p ≡ chosen_by ids peers p = marked_marks n (chosen_by ids peers) in
    let bound = placed_bound suits n counts reached fit.given size fit.assigned in
    let every = fit.every in
    let lacks = lacking.lacks in
    let one : size_of n (marked reached) ≡ size_of n (chosen_by ids peers) = size_same n (marked reached) (chosen_by ids peers) same in
    let two = size_marked reached in
    let three : size_of n (marked reached) ≡ count_by (λ b. b) reached = rw size at two in
    let four = capacity_same suits n counts (marked reached) (chosen_by ids peers) same in
    let all = in_and_out reached in
    omega arith

-- a certificate that holds shows that there is no fit
pub certificate_refutes : (suits : ℕ → ℕ → Bool) (peers : List Peer) (counts : List ℕ) (certificate : Certificate) → Certifies suits peers counts certificate → Fits suits (length peers) counts → ⊥
certificate_refutes suits peers counts (Totals total many) holds fit = holds.unequal (holds.of_counts ∙ fit_totals suits (length peers) counts fit ∙ sym holds.of_peers)
certificate_refutes suits peers counts (Peers ids) holds fit = lacks_refutes suits peers counts ids holds fit

-- a region has one misfit number
pub one_number : (suits : ℕ → ℕ → Bool) (peers : ℕ) (counts : List ℕ) (m n : ℕ) → IsMisfitNumber suits peers counts m → IsMisfitNumber suits peers counts n → m ≡ n
one_number suits peers counts m n first second =
    let up = first.greatest.most second.given second.greatest.assigned in
    let down = second.greatest.most first.given first.greatest.assigned in
    let same : placed first.given ≡ placed second.given = omega arith in
    first.missing ∙ rw same (sym second.missing)

-- it is 0 exactly for a region that fits
pub number_fits : (suits : ℕ → ℕ → Bool) (peers : ℕ) (counts : List ℕ) (n : ℕ) → IsMisfitNumber suits peers counts n → n ≡ 0 → Fits suits peers counts
number_fits suits peers counts n number none =
    let missing = number.missing in
    let few = placed_few suits peers counts number.given number.greatest.assigned in
    let total = placed_total suits peers counts number.given number.greatest.assigned in
    fit_whole suits peers counts number.given number.greatest.assigned (omega arith) (omega arith)

pub fit_number : (suits : ℕ → ℕ → Bool) (peers : ℕ) (counts : List ℕ) (n : ℕ) → IsMisfitNumber suits peers counts n → Fits suits peers counts → n ≡ 0
fit_number suits peers counts n number fit =
    let missing = number.missing in
    let total = fit_totals suits peers counts fit in
    let most = number.greatest.most fit.given fit.assigned in
    let every = fit.every in omega arith

-- without peers the number is the sum of the counts, and without rules that of the peers
pub number_alone : (suits : ℕ → ℕ → Bool) (counts : List ℕ) (n : ℕ) → IsMisfitNumber suits 0 counts n → n ≡ sum counts
number_alone suits counts n number =
    let missing = number.missing in
    let few = placed_few suits 0 counts number.given number.greatest.assigned in omega arith

pub number_free : (suits : ℕ → ℕ → Bool) (peers n : ℕ) → IsMisfitNumber suits peers [] n → n ≡ peers
number_free suits peers n number =
    let missing = number.missing in
    let total : placed number.given ≤ 0 = placed_total suits peers [] number.given number.greatest.assigned in omega arith
