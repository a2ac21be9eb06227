-- Which rules have room for one peer more, and what such a peer makes of the misfit number.
use Rattle.std.proofs.Common.{ℕ, zero, suc, Bool, true, false, cond, ◌≡◌, ◌+◌, ◌-◌, ◌<◌, ◌≤◌, eqb, arith, refl, ap, sym, ◌∙◌, subst, List, [], ◌∷◌, ◌++◌, length, get_or, set, Option, Some, None, ◌⊎◌, inl, inr, get_or-set_same, get_or-set_other, length-append}
use Rattle.std.specs.Prelude.{is_some}
use Rattle.std.specs.Prelude.{◌↔◌}
use Rattle.std.proofs.Math.ListN.{get_or-append}
use Rattle.std.proofs.Math.Seq.{get_or-append_seam}
use Rattle.std.proofs.lemmas.Bool.{cases_eq, cases_lt, eq-eqb, ne_eqb}
use Rattle.std.proofs.lemmas.List.{length-set}
use Rattle.std.proofs.lemmas.List.Sums.{sum_by_push}
use Rattle.rule_fit.specs.Assignment.{has, held, placed, IsAssignment, IsGreatest}
use Rattle.rule_fit.specs.Certificate.{IsMisfitNumber}
use Rattle.rule_fit.specs.Room.{HasRoom}
use Rattle.rule_fit.specs.Search.{marked}
use Rattle.rule_fit.proofs.FitLemmas.{placed_few, placed_total}

-- the counts, of which this one is one less
abbrev pub fewer : List ℕ → ℕ → List ℕ
fewer counts rule = set counts rule (get_or counts rule 0 - 1)

fewer_here : (counts : List ℕ) (rule : ℕ) → rule < length counts → get_or (fewer counts rule) rule 0 ≡ get_or counts rule 0 - 1
fewer_here counts rule known = get_or-set_same counts rule (get_or counts rule 0 - 1) 0 known

fewer_there : (counts : List ℕ) (rule r : ℕ) → (r ≡ rule → ⊥) → get_or (fewer counts rule) r 0 ≡ get_or counts r 0
fewer_there counts rule r other = get_or-set_other counts rule r (get_or counts rule 0 - 1) 0 other

fewer_least : (counts : List ℕ) (rule r : ℕ) → rule < length counts → get_or (fewer counts rule) r 0 ≤ get_or counts r 0
fewer_least counts rule r known =
    elim (cases_eq r rule) [
      | inl same ↦ subst (λ (k : ℕ). get_or (fewer counts rule) k 0 ≤ get_or counts k 0) (sym same) (let here = fewer_here counts rule known in omega arith)
      | inr other ↦ let there = fewer_there counts rule r other in omega arith
    ]

fewer_long : (counts : List ℕ) (rule : ℕ) → length (fewer counts rule) ≡ length counts
fewer_long counts rule = length-set counts rule (get_or counts rule 0 - 1)

-- an assignment for the lesser counts is one for all
of_fewer : (suits : ℕ → ℕ → Bool) (peers : ℕ) (counts : List ℕ) (rule : ℕ) (given : List (Option ℕ)) → rule < length counts → IsAssignment suits peers (fewer counts rule) given → IsAssignment suits peers counts given
of_fewer suits peers counts rule given known assigned =
    let long = fewer_long counts rule in
    record {
      each = assigned.each;
      known = λ p r e. let low = assigned.known p r e in omega arith;
      suited = assigned.suited;
      within = λ r low. let most = assigned.within r (omega arith) in let least = fewer_least counts rule r known in omega arith;
    }

-- and one for all that leaves the rule room is one for the lesser counts
to_fewer : (suits : ℕ → ℕ → Bool) (peers : ℕ) (counts : List ℕ) (rule : ℕ) (given : List (Option ℕ)) → rule < length counts → held given rule < get_or counts rule 0 → IsAssignment suits peers counts given → IsAssignment suits peers (fewer counts rule) given
to_fewer suits peers counts rule given known room assigned =
    let long = fewer_long counts rule in
    record {
      each = assigned.each;
      known = λ p r e. let low = assigned.known p r e in omega arith;
      suited = assigned.suited;
      within = λ r low. elim (cases_eq r rule) [
        | inl same ↦ subst (λ (k : ℕ). held given k ≤ get_or (fewer counts rule) k 0) (sym same) (let here = fewer_here counts rule known in omega arith)
        | inr other ↦ let there = fewer_there counts rule r other in let most = assigned.within r (omega arith) in omega arith
      ];
    }

-- a rule has room where as many peers have a rule with one place less
pub room_yes : (suits : ℕ → ℕ → Bool) (peers : ℕ) (counts : List ℕ) (rule : ℕ) (given other : List (Option ℕ)) → IsGreatest suits peers counts given → rule < length counts → 0 < get_or counts rule 0 → IsGreatest suits peers (fewer counts rule) other → placed other ≡ placed given → HasRoom suits peers counts rule
room_yes suits peers counts rule given other greatest known some also same =
    let low = also.assigned.within rule (let long = fewer_long counts rule in omega arith) in
    let here = fewer_here counts rule known in
    record {
      given = other;
      greatest = record {
        assigned = of_fewer suits peers counts rule other known also.assigned;
        most = λ third is. let most = greatest.most third is in omega arith;
      };
      known = known;
      room = omega arith;
    }

-- and only there
pub room_no : (suits : ℕ → ℕ → Bool) (peers : ℕ) (counts : List ℕ) (rule : ℕ) (given other : List (Option ℕ)) → IsGreatest suits peers counts given → IsGreatest suits peers (fewer counts rule) other → HasRoom suits peers counts rule → placed other ≡ placed given
room_no suits peers counts rule given other greatest also room =
    let one = also.most room.given (to_fewer suits peers counts rule room.given room.known room.room room.greatest.assigned) in
    let two = room.greatest.most given greatest.assigned in
    let three = greatest.most other (of_fewer suits peers counts rule other room.known also.assigned) in
    omega arith

-- one peer more, behind the others
held_more : (front : List (Option ℕ)) (x : Option ℕ) (r : ℕ) → held (front ++ x ∷ []) r ≡ held front r + cond (has r x) 1 0
held_more front x r = sum_by_push (λ y. cond (has r y) 1 0) front x

placed_more : (front : List (Option ℕ)) (x : Option ℕ) → placed (front ++ x ∷ []) ≡ placed front + cond (is_some x) 1 0
placed_more front x = sum_by_push (λ y. cond (is_some y) 1 0) front x

some_one : (a b : ℕ) → Some a ≡ Some b → a ≡ b
some_one a b e = cc

more_at : (front : List (Option ℕ)) (x : Option ℕ) (p r : ℕ) → get_or (front ++ x ∷ []) p None ≡ Some r → ((p < length front) × (get_or front p None ≡ Some r)) ⊎ ((p ≡ length front) × (x ≡ Some r))
more_at [] x zero r e = inr (refl, e)
more_at [] x (suc p) r e = absurd (cc)
more_at (y ∷ front) x zero r e = inl (omega arith, e)
more_at (y ∷ front) x (suc p) r e =
    elim (more_at front x p r e) [
      | inl h ↦ inl (let low = h.0 in omega arith, h.1)
      | inr h ↦ inr (let here = h.0 in omega arith, h.1)
    ]

at_front : (front : List (Option ℕ)) (x : Option ℕ) (p r : ℕ) → get_or front p None ≡ Some r → (p < length front) × (get_or (front ++ x ∷ []) p None ≡ Some r)
at_front [] x p r e = absurd (cc)
at_front (y ∷ front) x zero r e = (omega arith, e)
at_front (y ∷ front) x (suc p) r e = let h = at_front front x p r e in (let low = h.0 in omega arith, h.1)

at_end : (front : List (Option ℕ)) (x : Option ℕ) → get_or (front ++ x ∷ []) (length front) None ≡ x
at_end [] x = refl
at_end (y ∷ front) x = at_end front x

-- a list with an element is one behind others
split_last : (xs : List (Option ℕ)) (n : ℕ) → length xs ≡ n + 1 → (front : List (Option ℕ)) × (x : Option ℕ) × (xs ≡ front ++ x ∷ [])
split_last [] n e = absurd (omega arith)
split_last (x ∷ []) n e = ([], x, refl)
split_last (x ∷ (y ∷ xs)) n e =
    let rest = split_last (y ∷ xs) (n - 1) (omega arith) in
    (x ∷ rest.0, rest.1, ap (λ (zs : List (Option ℕ)). x ∷ zs) rest.2)

-- the peers that were there suit what they suited
abbrev pub Agree : (ℕ → ℕ → Bool) → (ℕ → ℕ → Bool) → ℕ → Type 0
Agree suits more peers = (p r : ℕ) → p < peers → more p r ≡ suits p r

more_assigned : (suits more : ℕ → ℕ → Bool) (peers : ℕ) (counts : List ℕ) (rule : ℕ) (front : List (Option ℕ)) → Agree suits more peers → IsAssignment suits peers counts front → rule < length counts → held front rule < get_or counts rule 0 → more peers rule ≡ true → IsAssignment more (peers + 1) counts (front ++ Some rule ∷ [])
more_assigned suits more peers counts rule front agree assigned known room suited =
    let each = assigned.each in
    let long = length-append front (Some rule ∷ []) in
    record {
      each = omega arith;
      known = λ p r e. elim (more_at front (Some rule) p r e) [
        | inl h ↦ assigned.known p r h.1
        | inr h ↦ subst (λ (k : ℕ). k < length counts) (some_one rule r h.1) known
      ];
      suited = λ p r e. elim (more_at front (Some rule) p r e) [
        | inl h ↦ agree p r (let low = h.0 in omega arith) ∙ assigned.suited p r h.1
        | inr h ↦ subst (λ (q : ℕ). more q r ≡ true) (sym (h.0 ∙ each)) (subst (λ (k : ℕ). more peers k ≡ true) (some_one rule r h.1) suited)
      ];
      within = λ r low. elim (cases_eq rule r) [
        | inl same ↦ subst (λ (k : ℕ). held (front ++ Some rule ∷ []) k ≤ get_or counts k 0) same (let all = rw (eq-eqb rule rule refl) at (held_more front (Some rule) rule) in omega arith)
        | inr other ↦ let all = rw (ne_eqb rule r other) at (held_more front (Some rule) r) in let most = assigned.within r low in omega arith
      ];
    }

less_assigned : (suits more : ℕ → ℕ → Bool) (peers : ℕ) (counts : List ℕ) (front : List (Option ℕ)) (x : Option ℕ) → Agree suits more peers → IsAssignment more (peers + 1) counts (front ++ x ∷ []) → IsAssignment suits peers counts front
less_assigned suits more peers counts front x agree assigned =
    let each = assigned.each in
    let long = length-append front (x ∷ []) in
    let same : length front ≡ peers = omega arith in
    record {
      each = same;
      known = λ p r e. assigned.known p r (at_front front x p r e).1;
      suited = λ p r e. let there = at_front front x p r e in
          let low = there.0 in
          sym (agree p r (omega arith)) ∙ assigned.suited p r there.1;
      within = λ r low. let all = held_more front x r in let most = assigned.within r low in omega arith;
    }

-- at most one more peer has a rule
most_more : (suits more : ℕ → ℕ → Bool) (peers : ℕ) (counts : List ℕ) (given other : List (Option ℕ)) → Agree suits more peers → IsGreatest suits peers counts given → IsAssignment more (peers + 1) counts other → placed other ≤ placed given + 1
most_more suits more peers counts given other agree greatest assigned =
    let parts = split_last other peers assigned.each in
    let also = subst (λ (xs : List (Option ℕ)). IsAssignment more (peers + 1) counts xs) parts.2 assigned in
    let most = greatest.most parts.0 (less_assigned suits more peers counts parts.0 parts.1 agree also) in
    let all = placed_more parts.0 parts.1 in
    let few : cond (is_some parts.1) 1 0 ≤ 1 = at_most_one (is_some parts.1) in
    let same = ap placed parts.2 in
    omega arith
  where
    at_most_one : (b : Bool) → cond b 1 0 ≤ 1
    at_most_one true = omega arith
    at_most_one false = omega arith

-- one peer more that suits a rule with room lowers the misfit number by one
pub room_lowers : (suits more : ℕ → ℕ → Bool) (peers : ℕ) (counts : List ℕ) (rule from : ℕ) → Agree suits more peers → IsMisfitNumber suits peers counts from → HasRoom suits peers counts rule → more peers rule ≡ true → IsMisfitNumber more (peers + 1) counts (from - 1) × (0 < from)
room_lowers suits more peers counts rule from agree number room suited =
    let assigned = more_assigned suits more peers counts rule room.given agree room.greatest.assigned room.known room.room suited in
    let all : placed (room.given ++ Some rule ∷ []) ≡ placed room.given + 1 = placed_more room.given (Some rule) in
    let one = room.greatest.most number.given number.greatest.assigned in
    let two = number.greatest.most room.given room.greatest.assigned in
    let total = placed_total more (peers + 1) counts (room.given ++ Some rule ∷ []) assigned in
    let few = placed_few suits peers counts room.given room.greatest.assigned in
    let missing = number.missing in (
      record {
        given = room.given ++ Some rule ∷ [];
        greatest = record {
          assigned = assigned;
          most = λ other also. let most = most_more suits more peers counts room.given other agree room.greatest also in omega arith;
        };
        missing = omega arith;
      },
      omega arith,
    )

-- and the number is lower only where the peer more suits a rule with room
pub lowered_by_room : (suits more : ℕ → ℕ → Bool) (peers : ℕ) (counts : List ℕ) (from to : ℕ) → Agree suits more peers → IsMisfitNumber suits peers counts from → IsMisfitNumber more (peers + 1) counts to → to < from → (rule : ℕ) × HasRoom suits peers counts rule × (more peers rule ≡ true)
lowered_by_room suits more peers counts from to agree number after lower =
    let parts = split_last after.given peers after.greatest.assigned.each in
    by parts.0 parts.1 parts.2
  where
    by : (front : List (Option ℕ)) (x : Option ℕ) → after.given ≡ front ++ x ∷ [] → (rule : ℕ) × HasRoom suits peers counts rule × (more peers rule ≡ true)
    by front None is =
        let also = subst (λ (xs : List (Option ℕ)). IsAssignment more (peers + 1) counts xs) is after.greatest.assigned in
        let less = less_assigned suits more peers counts front None agree also in
        let most = number.greatest.most front less in
        let all : placed (front ++ None ∷ []) ≡ placed front + 0 = placed_more front None in
        let same = ap placed is in
        let few = placed_few suits peers counts number.given number.greatest.assigned in
        let one = number.missing in
        let two = after.missing in
        absurd (omega arith)
    by front (Some rule) is =
        let also = subst (λ (xs : List (Option ℕ)). IsAssignment more (peers + 1) counts xs) is after.greatest.assigned in
        let less = less_assigned suits more peers counts front (Some rule) agree also in
        let most = number.greatest.most front less in
        let all : placed (front ++ Some rule ∷ []) ≡ placed front + 1 = placed_more front (Some rule) in
        let same = ap placed is in
        let few = placed_few suits peers counts number.given number.greatest.assigned in
        let one = number.missing in
        let two = after.missing in
        let known = also.known (length front) rule (at_end front (Some rule)) in
        let within = also.within rule known in
        let mine : held (front ++ Some rule ∷ []) rule ≡ held front rule + 1 = rw (eq-eqb rule rule refl) at (held_more front (Some rule) rule) in (
          rule,
          record {
            given = front;
            greatest = record {
              assigned = less;
              most = λ other is_one. let least = number.greatest.most other is_one in omega arith;
            };
            known = known;
            room = omega arith;
          },
          subst (λ (p : ℕ). more p rule ≡ true) less.each (also.suited (length front) rule (at_end front (Some rule))),
        )

-- one mark more
pub rooms_push : (suits : ℕ → ℕ → Bool) (peers : ℕ) (counts : List ℕ) (rooms : List Bool) (room : Bool) → ((r : ℕ) → r < length rooms → (marked rooms r ≡ true) ↔ HasRoom suits peers counts r) → ((room ≡ true) ↔ HasRoom suits peers counts (length rooms)) → (r : ℕ) → r < length (rooms ++ room ∷ []) → (marked (rooms ++ room ∷ []) r ≡ true) ↔ HasRoom suits peers counts r
rooms_push suits peers counts rooms room right last r low =
    let long = length-append rooms (room ∷ []) in
    elim (cases_lt r (length rooms)) [
      | inl before ↦
          let same : marked (rooms ++ room ∷ []) r ≡ marked rooms r = get_or-append rooms (room ∷ []) false r before in
          subst (λ (b : Bool). (b ≡ true) ↔ HasRoom suits peers counts r) (sym same) (right r before)
      | inr behind ↦
          let here : length rooms ≡ r = omega arith in
          subst (λ (k : ℕ). (marked (rooms ++ room ∷ []) k ≡ true) ↔ HasRoom suits peers counts k) here
          (subst (λ (b : Bool). (b ≡ true) ↔ HasRoom suits peers counts (length rooms)) (sym (get_or-append_seam rooms room [] false)) last)
    ]
