-- The tickets of a post's turn, and its slips.
use Rattle.std.proofs.Common.{◌≡◌, ℕ, zero, suc, ◌+◌, ◌<◌, ◌≤◌, List, [], ◌∷◌, ◌++◌, length, map, sym, refl, ap, ◌∙◌, subst, arith}
use Rattle.std.specs.Prelude.{All}
use Rattle.std.proofs.lemmas.List.Elements.{All-cons, All-map, All-nil}
use mathlib.Core.Option.{some-injective, some-ne-none}
use Rattle.pd_turn.specs.Turns.{Among, AreApart, IsFree, IsToldBy, TurnValue, new_ticket}
use Rattle.tso_model.specs.Moves.{numbers_from}
use Rattle.tso_client.specs.declared.entry.PostEntry.{PostEntry}
use Rattle.tso_client.specs.Logs.{tale_of}
use Rattle.tso_client.specs.Slips.{IsInJournal, IsOpen, SlipValue, new_slip, slip_by, ticket_by}
use Rattle.tso_client.proofs.Posting.{items_are}

-- THE NUMBERS
more : (a n : ℕ) → numbers_from a (suc n) ≡ numbers_from a n ++ (a + n) ∷ []
more a zero = ap (λ (m : ℕ). m ∷ []) (let e : a ≡ a + 0 = omega arith in e)
more a (suc n) = ap (λ (l : List ℕ). a ∷ l) (more (a + 1) n) ∙ ap (λ (m : ℕ). a ∷ (numbers_from (a + 1) n ++ m ∷ [])) (let e : a + 1 + n ≡ a + suc n = omega arith in e)

pub one_more : (n : ℕ) → numbers_from 1 (n + 1) ≡ numbers_from 1 n ++ (n + 1) ∷ []
one_more n =
    let e : n + 1 ≡ suc n = omega arith in
    let o : 1 + n ≡ n + 1 = omega arith in
    ap (numbers_from 1) e ∙ more 1 n ∙ ap (λ (m : ℕ). numbers_from 1 n ++ m ∷ []) o

pub length_of : (a n : ℕ) → length (numbers_from a n) ≡ n
length_of a zero = refl
length_of a (suc n) = ap suc (length_of (a + 1) n)

above : (a n x : ℕ) → Among x (numbers_from a n) → a ≤ x
above a zero x h = absurd (some-ne-none x (sym h.1))
above a (suc n) x (zero, e) = omega (arith, some-injective a x e)
above a (suc n) x (suc k, e) = omega (arith, above (a + 1) n x (k, e))

pub apart : (a n : ℕ) → AreApart (numbers_from a n)
apart a zero = tt
apart a (suc n) = ((λ h. absurd (omega (arith, above (a + 1) n a h))), apart (a + 1) n)

-- TICKETS AND SLIPS
pub are_open : (turn : TurnValue) (a n : ℕ) → 0 < a → a + n ≤ 65 → All IsOpen (map (new_ticket turn) (numbers_from a n))
are_open turn a zero pos most = All-nil IsOpen
are_open turn a (suc n) pos most = All-cons IsOpen (new_ticket turn a) (map (new_ticket turn) (numbers_from (a + 1) n)) (record { none = refl; number = (pos, omega (arith, most)) }) (are_open turn (a + 1) n (omega arith) (omega (arith, most)))

pub new_slips : (turn : TurnValue) (numbers : List ℕ) → map slip_by (map (new_ticket turn) numbers) ≡ map (new_slip turn) numbers
new_slips turn [] = refl
new_slips turn (n ∷ ns) = ap (λ l. new_slip turn n ∷ l) (new_slips turn ns)

pub are_free : (turn : TurnValue) (slips : List SlipValue) → All (λ (s : SlipValue). s.post ≡ turn) slips → All (IsFree turn) (map ticket_by slips)
are_free turn slips h = All-map (IsFree turn) ticket_by slips (λ k d lt. record { turn_is = h k d lt; none = refl })

pub are_told : (journal : List PostEntry) (slips : List SlipValue) → All (IsToldBy (tale_of journal)) (map ticket_by slips) → All (IsInJournal journal) slips
are_told journal [] h = All-nil (IsInJournal journal)
are_told journal (s ∷ ss) h = All-cons (IsInJournal journal) s ss (h 0 (ticket_by s) (omega arith) ∙ items_are s.client journal) (are_told journal ss (λ k d lt. h (suc k) d (omega (arith, lt))))

pub are_of : (post : TurnValue) (numbers : List ℕ) (slips : List SlipValue) → slips ≡ map (new_slip post) numbers → All (λ (s : SlipValue). s.post ≡ post) slips
are_of post numbers slips is = subst (All (λ (s : SlipValue). s.post ≡ post)) (sym is) (All-map (λ (s : SlipValue). s.post ≡ post) (new_slip post) numbers (λ k d lt. refl))
