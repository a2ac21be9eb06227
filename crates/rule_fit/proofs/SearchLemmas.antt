-- A search under a new step.
use Rattle.std.proofs.Common.{ℕ, zero, suc, Bool, true, false, cond, ◌≡◌, ◌+◌, ◌<◌, ◌≤◌, ◌≢◌, arith, refl, ap, sym, ◌∙◌, subst, List, [], ◌∷◌, ◌++◌, length, get_or, set, Option, Some, None, inl, inr, get_or-set_same, get_or-set_other}
use Rattle.std.specs.List.{count_by}
use Rattle.std.specs.Prelude.{is_some}
use Rattle.std.proofs.lemmas.Bool.{cases_eq, cases_lt, false≢true}
use Rattle.std.proofs.lemmas.List.{get_or_append_left, get_or_push, length_push, length-set}
use Rattle.std.proofs.lemmas.List.Sums.{sum_by_push, sum_by-set, count_by-le-length}
use Rattle.rule_fit.specs.declared.search.Reached.{Reached}
use Rattle.rule_fit.specs.declared.search.Link.{Link}
use Rattle.rule_fit.specs.Assignment.{held}
use Rattle.rule_fit.specs.Trail.{IsTrail, peer_at, from_at}
use Rattle.rule_fit.specs.Search.{IsSearch, Extends, IsClosed, marked}
use Rattle.rule_fit.proofs.Duality.{marked_below}

peer_old : (queue : List Reached) (step : Reached) (i : ℕ) → i < length queue → peer_at (queue ++ step ∷ []) i ≡ peer_at queue i
peer_old queue step i h = ap (λ (s : Reached). s.peer) (get_or_append_left queue (step ∷ []) (record { peer = 0; from = None }) i h)

from_old : (queue : List Reached) (step : Reached) (i : ℕ) → i < length queue → from_at (queue ++ step ∷ []) i ≡ from_at queue i
from_old queue step i h = ap (λ (s : Reached). s.from) (get_or_append_left queue (step ∷ []) (record { peer = 0; from = None }) i h)

peer_new : (queue : List Reached) (step : Reached) → peer_at (queue ++ step ∷ []) (length queue) ≡ step.peer
peer_new queue step = ap (λ (s : Reached). s.peer) (get_or_push queue step (record { peer = 0; from = None }) (length queue) refl)

from_new : (queue : List Reached) (step : Reached) → from_at (queue ++ step ∷ []) (length queue) ≡ step.from
from_new queue step = ap (λ (s : Reached). s.from) (get_or_push queue step (record { peer = 0; from = None }) (length queue) refl)

either : (queue : List Reached) (at : ℕ) (a b : Reached) → at < length queue → get_or queue at a ≡ get_or queue at b
either [] at a b h = absurd (omega arith)
either (x ∷ queue) zero a b h = refl
either (x ∷ queue) (suc at) a b h = either queue at a b (omega arith)

-- what a new step must meet
pub record Follows (suits : ℕ → ℕ → Bool) (given : List (Option ℕ)) (queue : List Reached) (step : Reached) : Type 0 where
  pub inside : step.peer < length given
  pub start : step.from ≡ None → get_or given step.peer None ≡ None
  pub back : (link : Link) → step.from ≡ Some link → link.place < length queue
  pub leaves : (link : Link) → step.from ≡ Some link → get_or given step.peer None ≡ Some link.rule
  pub suited : (link : Link) → step.from ≡ Some link → suits (peer_at queue link.place) link.rule ≡ true
  pub apart : (i : ℕ) → i < length queue → peer_at queue i ≢ step.peer

pub trail_push : (suits : ℕ → ℕ → Bool) (given : List (Option ℕ)) (queue : List Reached) (step : Reached) → IsTrail suits (length given) given queue (length queue) → Follows suits given queue step → IsTrail suits (length given) given (queue ++ step ∷ []) (length (queue ++ step ∷ []))
trail_push suits given queue step trail follows =
    let longer = length_push queue step in
    let last : (i : ℕ) → i < length (queue ++ step ∷ []) → length queue ≤ i → i ≡ length queue = λ i h k. omega arith in
    record {
      short = omega arith;
      inside = λ i h. elim (cases_lt i (length queue)) [
        | inl old ↦ rw (peer_old queue step i old) (trail.inside i old)
        | inr past ↦ rw (last i h past, peer_new queue step) follows.inside
      ];
      start = λ i h e. elim (cases_lt i (length queue)) [
        | inl old ↦ rw (peer_old queue step i old) (trail.start i old (sym (from_old queue step i old) ∙ e))
        | inr past ↦ rw (last i h past, peer_new queue step) (follows.start (sym (from_new queue step) ∙ rw (last i h past) at e))
      ];
      back = λ i link h e. elim (cases_lt i (length queue)) [
        | inl old ↦ trail.back i link old (sym (from_old queue step i old) ∙ e)
        | inr past ↦ rw (last i h past) (follows.back link (sym (from_new queue step) ∙ rw (last i h past) at e))
      ];
      leaves = λ i link h e. elim (cases_lt i (length queue)) [
        | inl old ↦ rw (peer_old queue step i old) (trail.leaves i link old (sym (from_old queue step i old) ∙ e))
        | inr past ↦ rw (last i h past, peer_new queue step) (follows.leaves link (sym (from_new queue step) ∙ rw (last i h past) at e))
      ];
      suited = λ i link h e. elim (cases_lt i (length queue)) [
        | inl old ↦ let f = sym (from_old queue step i old) ∙ e in
            let b = trail.back i link old f in
            rw (peer_old queue step link.place (omega arith)) (trail.suited i link old f)
        | inr past ↦ let f = sym (from_new queue step) ∙ rw (last i h past) at e in
            let b = follows.back link f in
            rw (peer_old queue step link.place b) (follows.suited link f)
      ];
      apart = λ i j h k same. elim (cases_lt j (length queue)) [
        | inl old ↦ trail.apart i j h old (sym (peer_old queue step i (omega arith)) ∙ same ∙ peer_old queue step j old)
        | inr past ↦ follows.apart i (omega arith) (sym (peer_old queue step i (omega arith)) ∙ same ∙ rw (last j k past) (peer_new queue step))
      ];
    }

pub mark_same : (reached : List Bool) (p : ℕ) → p < length reached → marked (set reached p true) p ≡ true
mark_same reached p h = get_or-set_same reached p true false h

mark_other : (reached : List Bool) (p q : ℕ) → q ≢ p → marked (set reached p true) q ≡ marked reached q
mark_other reached p q h = get_or-set_other reached p q true false h

pub mark_still : (reached : List Bool) (p q : ℕ) → marked reached q ≡ true → marked (set reached p true) q ≡ true
mark_still reached p q m = elim (cases_eq q p) [
  | inl same ↦ let h = marked_below reached q m in rw same (mark_same reached p (subst (λ (t : ℕ). t < length reached) same h))
  | inr other ↦ mark_other reached p q other ∙ m
]

mark_many : (reached : List Bool) (p : ℕ) → p < length reached → marked reached p ≡ false → count_by (λ b. b) (set reached p true) ≡ count_by (λ b. b) reached + 1
mark_many reached p h m = let all = rw m at (sum_by-set (λ b. cond b 1 0) reached p true false h) in omega arith

-- a step to a peer that was not marked, which is marked
pub search_reach : (suits : ℕ → ℕ → Bool) (given : List (Option ℕ)) (queue : List Reached) (reached : List Bool) (p at rule : ℕ) → IsSearch suits given queue reached (length given) → at < length queue → p < length given → marked reached p ≡ false → get_or given p None ≡ Some rule → suits (peer_at queue at) rule ≡ true → IsSearch suits given (queue ++ record { peer = p; from = Some (record { place = at; rule = rule }) } ∷ []) (set reached p true) (length given)
search_reach suits given queue reached p at rule search early below fresh some suited =
    let step : Reached = record { peer = p; from = Some (record { place = at; rule = rule }) } in
    let size : length reached ≡ length given = search.size in
    let inside : p < length reached = omega arith in
    let many : length queue ≡ count_by (λ b. b) reached = search.many in
    let more : count_by (λ b. b) (set reached p true) ≡ count_by (λ b. b) reached + 1 = mark_many reached p inside fresh in
    let longer : length (queue ++ step ∷ []) ≡ length queue + 1 = length_push queue step in
    let mine : (link : Link) → step.from ≡ Some link → record { place = at; rule = rule } ≡ link = λ link e. cc in
    record {
      trail = trail_push suits given queue step search.trail record {
        inside = below;
        start = λ e. absurd (cc);
        back = λ link e. subst (λ (t : Link). t.place < length queue) (mine link e) early;
        leaves = λ link e. subst (λ (t : Link). get_or given p None ≡ Some t.rule) (mine link e) some;
        suited = λ link e. subst (λ (t : Link). suits (peer_at queue t.place) t.rule ≡ true) (mine link e) suited;
        apart = λ i h same. false≢true (sym fresh ∙ rw (sym same) (search.kept i h));
      };
      size = length-set reached p true ∙ size;
      many = omega arith;
      starts = λ q h e. mark_still reached p q (search.starts q h e);
      kept = λ i h. elim (cases_lt i (length queue)) [
        | inl old ↦ rw (peer_old queue step i old) (mark_still reached p (peer_at queue i) (search.kept i old))
        | inr past ↦ let last : i ≡ length queue = omega arith in rw (last, peer_new queue step) (mark_same reached p inside)
      ];
      met = λ q m. elim (cases_eq q p) [
        | inl same ↦ (length queue, omega arith, peer_new queue step ∙ sym same)
        | inr other ↦
            let found = search.met q (sym (mark_other reached p q other) ∙ m) in
            let old : found.0 < length queue = found.1 in
            (found.0, omega arith, peer_old queue step found.0 old ∙ found.2)
      ];
    }

pub extends_reach : (before queue : List Reached) (marks reached : List Bool) (step : Reached) (p : ℕ) → Extends before marks queue reached → Extends before marks (queue ++ step ∷ []) (set reached p true)
extends_reach before queue marks reached step p kept =
    let longer = kept.longer in
    let more : length (queue ++ step ∷ []) ≡ length queue + 1 = length_push queue step in
    record {
      longer = omega arith;
      steps = λ i h. peer_old queue step i (omega arith) ∙ kept.steps i h;
      still = λ q m. mark_still reached p q (kept.still q m);
    }

pub extends_none : (queue : List Reached) (reached : List Bool) → Extends queue reached queue reached
extends_none queue reached = record { longer = omega arith; steps = λ i h. refl; still = λ q m. m }

-- The start: the peers one by one.

mark_kept : (reached : List Bool) (b : Bool) (p : ℕ) → p < length reached → marked (reached ++ b ∷ []) p ≡ marked reached p
mark_kept reached b p h = get_or_append_left reached (b ∷ []) false p h

mark_new : (reached : List Bool) (b : Bool) → marked (reached ++ b ∷ []) (length reached) ≡ b
mark_new reached b = get_or_push reached b false (length reached) refl

pub search_none : (suits : ℕ → ℕ → Bool) (given : List (Option ℕ)) → IsSearch suits given [] [] 0
search_none suits given = record {
  trail = record {
    short = omega arith;
    inside = λ i h. absurd (omega arith);
    start = λ i h. absurd (omega arith);
    back = λ i link h. absurd (omega arith);
    leaves = λ i link h. absurd (omega arith);
    suited = λ i link h. absurd (omega arith);
    apart = λ i j h k. absurd (omega arith);
  };
  size = refl;
  many = refl;
  starts = λ p h. absurd (omega arith);
  kept = λ i h. absurd (omega arith);
  met = λ p m. absurd (false≢true m);
}

pub search_skip : (suits : ℕ → ℕ → Bool) (given : List (Option ℕ)) (queue : List Reached) (reached : List Bool) (n : ℕ) → IsSearch suits given queue reached n → (get_or given n None ≡ None → ⊥) → IsSearch suits given queue (reached ++ false ∷ []) (n + 1)
search_skip suits given queue reached n search some =
    let size = search.size in
    let longer : length (reached ++ false ∷ []) ≡ length reached + 1 = length_push reached false in
    let many = search.many in
    let same : count_by (λ b. b) (reached ++ false ∷ []) ≡ count_by (λ b. b) reached + 0 = sum_by_push (λ b. cond b 1 0) reached false in
    record {
      trail = search.trail;
      size = omega arith;
      many = omega arith;
      starts = λ p h e. elim (cases_lt p n) [
        | inl old ↦ mark_kept reached false p (omega arith) ∙ search.starts p old e
        | inr past ↦ let last : p ≡ n = omega arith in absurd (some (rw last at e))
      ];
      kept = λ i h. let m = search.kept i h in mark_kept reached false (peer_at queue i) (marked_below reached (peer_at queue i) m) ∙ m;
      met = λ p m. elim (cases_lt p (length reached)) [
        | inl old ↦ search.met p (sym (mark_kept reached false p old) ∙ m)
        | inr past ↦ let below = marked_below (reached ++ false ∷ []) p m in
            let last : p ≡ length reached = omega arith in
            absurd (false≢true (sym (mark_new reached false) ∙ rw last at m))
      ];
    }

pub search_start : (suits : ℕ → ℕ → Bool) (given : List (Option ℕ)) (queue : List Reached) (reached : List Bool) (n : ℕ) → IsSearch suits given queue reached n → n < length given → get_or given n None ≡ None → IsSearch suits given (queue ++ record { peer = n; from = None } ∷ []) (reached ++ true ∷ []) (n + 1)
search_start suits given queue reached n search below none =
    let step : Reached = record { peer = n; from = None } in
    let size = search.size in
    let longer : length (reached ++ true ∷ []) ≡ length reached + 1 = length_push reached true in
    let steps : length (queue ++ step ∷ []) ≡ length queue + 1 = length_push queue step in
    let many = search.many in
    let more : count_by (λ b. b) (reached ++ true ∷ []) ≡ count_by (λ b. b) reached + 1 = sum_by_push (λ b. cond b 1 0) reached true in
    record {
      trail = trail_push suits given queue step search.trail record {
        inside = below;
        start = λ e. none;
        back = λ link e. absurd (cc);
        leaves = λ link e. absurd (cc);
        suited = λ link e. absurd (cc);
        apart = λ i h same. let m = marked_below reached (peer_at queue i) (search.kept i h) in absurd (omega arith);
      };
      size = omega arith;
      many = omega arith;
      starts = λ p h e. elim (cases_lt p n) [
        | inl old ↦ mark_kept reached true p (omega arith) ∙ search.starts p old e
        | inr past ↦ let last : p ≡ length reached = omega arith in rw last (mark_new reached true)
      ];
      kept = λ i h. elim (cases_lt i (length queue)) [
        | inl old ↦ let m = search.kept i old in rw (peer_old queue step i old) (mark_kept reached true (peer_at queue i) (marked_below reached (peer_at queue i) m) ∙ m)
        | inr past ↦ let last : i ≡ length queue = omega arith in rw (last, peer_new queue step, ← size) (mark_new reached true)
      ];
      met = λ p m. elim (cases_lt p (length reached)) [
        | inl old ↦ let found = search.met p (sym (mark_kept reached true p old) ∙ m) in
            let early : found.0 < length queue = found.1 in
            (found.0, omega arith, peer_old queue step found.0 early ∙ found.2)
        | inr past ↦ let inside = marked_below (reached ++ true ∷ []) p m in
            let last : n ≡ p = omega arith in
            (length queue, omega arith, peer_new queue step ∙ last)
      ];
    }

-- The end: each step was looked at.
pub search_closed : (suits : ℕ → ℕ → Bool) (counts : List ℕ) (given : List (Option ℕ)) (queue : List Reached) (reached : List Bool) (at : ℕ) → IsSearch suits given queue reached (length given) → length queue ≤ at
    → ((i r : ℕ) → i < at → r < length counts → suits (peer_at queue i) r ≡ true → get_or counts r 0 ≤ held given r)
    → ((i q r : ℕ) → i < at → suits (peer_at queue i) r ≡ true → get_or given q None ≡ Some r → marked reached q ≡ true)
    → IsClosed suits (length given) counts given reached
search_closed suits counts given queue reached at search all full holders = record {
  size = search.size;
  starts = search.starts;
  full = λ p r h m s. let found = search.met p m in let early : found.0 < length queue = found.1 in
      full found.0 r (omega arith) h (rw found.2 s);
  holders = λ p q r m s e. let found = search.met p m in let early : found.0 < length queue = found.1 in
      holders found.0 q r (omega arith) (rw found.2 s) e;
}

pub search_short : (suits : ℕ → ℕ → Bool) (given : List (Option ℕ)) (queue : List Reached) (reached : List Bool) → IsSearch suits given queue reached (length given) → length queue ≤ length given
search_short suits given queue reached search =
    let most = count_by-le-length (λ b. b) reached in
    let size = search.size in let many = search.many in omega arith

pub some_not : (o : Option ℕ) → is_some o ≡ true → o ≡ None → ⊥
some_not None e n = false≢true e
some_not (Some x) e n = cc

pub none_is : (o : Option ℕ) → is_some o ≡ false → o ≡ None
none_is None e = refl
none_is (Some x) e = absurd (false≢true (sym e))

-- an element that was read is the step at its place
pub peer_read : (queue : List Reached) (at : ℕ) (step : Reached) → at < length queue → step ≡ get_or queue at step → step.peer ≡ peer_at queue at
peer_read queue at step h e = ap (λ (s : Reached). s.peer) (e ∙ either queue at step (record { peer = 0; from = None }) h)
