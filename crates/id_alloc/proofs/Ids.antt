-- No id is taken twice.
use Rattle.std.proofs.Common.{refl, ◌≡◌, ◌≢◌, ℕ, ◌+◌, ◌<◌, ◌≤◌, ◌^◌, true, false, List, [], ◌∷◌, ◌++◌, All, ◌⊎◌, inl, inr, ap, sym, ◌∙◌, subst, arith}
use Rattle.std.specs.Fmt.{decimal}
use Rattle.std.specs.List.{AllPairs}
use Rattle.std.proofs.lemmas.Bool.Decides.{nat_tests}
use Rattle.std.proofs.lemmas.List.Elements.{All-append, All-cons, All-head, All-tail, All-nil, All-push, All-weaker}
use Rattle.std.proofs.lemmas.List.Kept.{AllPairs-cons}
use Rattle.std.proofs.lemmas.List.Quantifiers.{all_pairs_push}
use Rattle.pd_types.proofs.Pairs.{pairs_head, pairs_tail}
use Rattle.meta_store.specs.declared.record.MetaCall.TheVariants as calls
use Rattle.meta_store.specs.declared.record.MetaEntry.{MetaEntry}
use Rattle.meta_store.specs.declared.record.MetaVerdict.{MetaVerdict}
use Rattle.meta_store.specs.declared.record.MetaVerdict.TheVariants as verdicts
use Rattle.meta_store.specs.Cells.{revision_in}
use Rattle.meta_store.specs.Past.{counter_of, entry_of, record_of, records_of, verdict_of}
use Rattle.meta_store.proofs.Verdicts.{put_counted}
use Rattle.id_alloc.specs.Runs.{Draws, IsMove, IsRun, Leads, Passes, State, talk_of}
use Rattle.id_alloc.specs.Windows.{Hears, IsQuiet, TakesLeft, TakesSaved, Window, end_in, id_call, id_key, is_spent, is_used_up, window_in}
use Rattle.id_alloc.proofs.Asked.{counter_grows, end_of, end_read, heard_past, heard_verdict, passed_record, put_expected, put_revision, quiet_past, rev_of, saved_record, window_found}

-- a window, beside the end and the revision that the record tells and the number of writes
record IsGood (end revision counter : ℕ) (w : Window) : Type 0 where
  low : w.end ≤ end
  within : w.taken ≤ w.end
  seen : w.revision ≤ counter
  same : w.revision ≡ revision → w.end ≡ end

-- no id is left in both
abbrev AreApart : Window → Window → Type 0
AreApart a b = (n : ℕ) → a.taken < n → n ≤ a.end → b.taken < n → n ≤ b.end → ⊥

-- none of these ids is left in the window
abbrev IsFree : List ℕ → Window → Type 0
IsFree ids w = All (λ id. w.taken < id → id ≤ w.end → ⊥) ids

record Holds (past : List MetaEntry) (windows : List Window) (ids : List ℕ) : Type 0 where
  good : All (IsGood (end_of past) (rev_of past) (counter_of past)) windows
  apart : AllPairs AreApart windows
  free : All (IsFree ids) windows
  low : All (λ id. id ≤ end_of past) ids
  distinct : AllPairs (λ one other. one ≢ other) ids
  seen : rev_of past ≤ counter_of past

-- lists with one element in place of another
all_left : {X : Type 0} (P : X → Type 0) (xs ys : List X) → All P (xs ++ ys) → All P xs
all_left P [] ys all = All-nil P
all_left P (x ∷ xs) ys all = All-cons P x xs (All-head P x (xs ++ ys) all) (all_left P xs ys (All-tail P x (xs ++ ys) all))

all_right : {X : Type 0} (P : X → Type 0) (xs ys : List X) → All P (xs ++ ys) → All P ys
all_right P [] ys all = all
all_right P (x ∷ xs) ys all = all_right P xs ys (All-tail P x (xs ++ ys) all)

all_replaced : {X : Type 0} (P Q : X → Type 0) (front : List X) (w v : X) (back : List X) → ((x : X) → P x → Q x) → Q v → All P (front ++ w ∷ back) → All Q (front ++ v ∷ back)
all_replaced P Q front w v back weaker new all =
    All-append Q front (v ∷ back) (All-weaker P Q weaker front (all_left P front (w ∷ back) all))
    (All-cons Q v back new (All-weaker P Q weaker back (All-tail P w back (all_right P front (w ∷ back) all))))

both_all : {X : Type 0} (P Q S : X → Type 0) (xs : List X) → ((x : X) → P x → Q x → S x) → All P xs → All Q xs → All S xs
both_all P Q S xs make p q k d low = make _ (p k d low) (q k d low)

pairs_replaced : {X : Type 0} (P : X → Type 0) (R : X → X → Type 0) (front : List X) (w v : X) (back : List X)
    → ((x : X) → P x → R x w → R x v) → ((x : X) → P x → R w x → R v x) → All P (front ++ w ∷ back) → AllPairs R (front ++ w ∷ back) → AllPairs R (front ++ v ∷ back)
pairs_replaced P R [] w v back into out all pairs =
    AllPairs-cons R v back (both_all P (R w) (R v) back out (All-tail P w back all) (pairs_head R w back pairs)) (pairs_tail R w back pairs)
pairs_replaced P R (x ∷ front) w v back into out all pairs =
    let row = pairs_head R x (front ++ w ∷ back) pairs in
    AllPairs-cons R x (front ++ v ∷ back)
    (all_replaced (R x) (R x) front w v back (λ y r. r) (into x (All-head P x (front ++ w ∷ back) all) (All-head (R x) w back (all_right (R x) front (w ∷ back) row))) row)
    (pairs_replaced P R front w v back into out (All-tail P x (front ++ w ∷ back) all) (pairs_tail R x (front ++ w ∷ back) pairs))

-- all windows but one, beside that one
beside : {X : Type 0} (R : X → X → Type 0) (front : List X) (w : X) (back : List X) → AllPairs R (front ++ w ∷ back) → All (λ x. R x w) front × All (R w) back
beside R [] w back pairs = (All-nil (λ x. R x w), pairs_head R w back pairs)
beside R (x ∷ front) w back pairs =
    let rest = beside R front w back (pairs_tail R x (front ++ w ∷ back) pairs) in
    (All-cons (λ y. R y w) x front (All-head (R x) w back (all_right (R x) front (w ∷ back) (pairs_head R x (front ++ w ∷ back) pairs))) rest.0, rest.1)

-- the start
holds_start : Holds [] [] []
holds_start = record {
  good = All-nil (IsGood 1000000 0 0);
  apart = λ i j d less low. absurd (omega arith);
  free = All-nil (IsFree []);
  low = All-nil (λ id. id ≤ 1000000);
  distinct = λ i j d less low. absurd (omega arith);
  seen = omega arith;
}

-- another call, which leaves the record
holds_passed : (past : List MetaEntry) (windows : List Window) (ids : List ℕ) (entry : MetaEntry) → record_of id_key (entry ∷ past) ≡ record_of id_key past → Holds past windows ids → Holds (entry ∷ past) windows ids
holds_passed past windows ids entry same h =
    let grows = counter_grows past entry in
    let end : end_of (entry ∷ past) ≡ end_of past = ap end_in same in
    let rev : rev_of (entry ∷ past) ≡ rev_of past = ap revision_in same in
    record {
      good = All-weaker (IsGood (end_of past) (rev_of past) (counter_of past)) (IsGood (end_of (entry ∷ past)) (rev_of (entry ∷ past)) (counter_of (entry ∷ past)))
          (λ w g. record { low = omega (arith, end, g.low); within = g.within; seen = omega (arith, grows, g.seen); same = λ is. g.same (is ∙ rev) ∙ sym end }) windows h.good;
      apart = h.apart;
      free = h.free;
      low = All-weaker (λ id. id ≤ end_of past) (λ id. id ≤ end_of (entry ∷ past)) (λ id l. omega (arith, end, l)) ids h.low;
      distinct = h.distinct;
      seen = omega (arith, rev, grows, h.seen);
    }

-- a window more, which is used up
holds_opened : (past : List MetaEntry) (windows : List Window) (ids : List ℕ) → Holds past windows ids → Holds past (windows ++ (record { end = end_of past; revision = rev_of past; taken = end_of past }) ∷ []) ids
holds_opened past windows ids h =
    let w : Window = record { end = end_of past; revision = rev_of past; taken = end_of past } in
    record {
      good = All-push (IsGood (end_of past) (rev_of past) (counter_of past)) windows w h.good (record { low = omega arith; within = omega arith; seen = h.seen; same = λ is. refl });
      apart = all_pairs_push AreApart windows w h.apart (λ k d low n a b c e. absurd (omega (arith, c, e)));
      free = All-push (IsFree ids) windows w h.free (λ k d low above upto. absurd (omega (arith, above, upto)));
      low = h.low;
      distinct = h.distinct;
      seen = h.seen;
    }

differ : (id : ℕ) (ids : List ℕ) → All (λ one. id ≢ one) ids → AllPairs (λ one other. one ≢ other) ids → AllPairs (λ one other. one ≢ other) (id ∷ ids)
differ id ids new distinct = AllPairs-cons (λ one other. one ≢ other) id ids new distinct

-- an id that was left
holds_left : (past : List MetaEntry) (front : List Window) (w : Window) (back : List Window) (v : Window) (ids : List ℕ) (id : ℕ) → TakesLeft w v id → Holds past (front ++ w ∷ back) ids → Holds past (front ++ v ∷ back) (id ∷ ids)
holds_left past front w back v ids id t h =
    let g = All-head (IsGood (end_of past) (rev_of past) (counter_of past)) w back (all_right (IsGood (end_of past) (rev_of past) (counter_of past)) front (w ∷ back) h.good) in
    let free = All-head (IsFree ids) w back (all_right (IsFree ids) front (w ∷ back) h.free) in
    let end : v.end ≡ w.end = ap (λ (x : Window). x.end) t.now in
    let rev : v.revision ≡ w.revision = ap (λ (x : Window). x.revision) t.now in
    let taken : v.taken ≡ id = ap (λ (x : Window). x.taken) t.now ∙ sym t.next in
    let other : w.taken ≢ w.end = λ is. (let used : is_used_up w ≡ true = grind (arith, nat_tests, is) in absurd (let two : true ≡ false = sym used ∙ t.left in cc)) in
    let next : id ≡ w.taken + 1 = t.next in
    let inside : id ≤ w.end = omega (arith, g.within, other, next) in
    let sides = beside AreApart front w back h.apart in
    record {
      good = all_replaced (IsGood (end_of past) (rev_of past) (counter_of past)) (IsGood (end_of past) (rev_of past) (counter_of past)) front w v back (λ x p. p)
          (record { low = omega (arith, end, g.low); within = omega (arith, end, taken, inside); seen = omega (arith, rev, g.seen); same = λ is. end ∙ g.same (sym rev ∙ is) }) h.good;
      apart = pairs_replaced (λ x. Unit {0}) AreApart front w v back (λ x u r n a b c e. r n a b (omega (arith, taken, next, c)) (omega (arith, end, e))) (λ x u r n a b c e. r n (omega (arith, taken, next, a)) (omega (arith, end, b)) c e) (λ k d low. tt) h.apart;
      free = All-append (IsFree (id ∷ ids)) front (v ∷ back)
          (both_all (IsFree ids) (λ x. AreApart x w) (IsFree (id ∷ ids)) front (λ x f r. All-cons (λ n. x.taken < n → n ≤ x.end → ⊥) id ids (λ a b. r id a b (omega (arith, next)) inside) f) (all_left (IsFree ids) front (w ∷ back) h.free) sides.0)
          (All-cons (IsFree (id ∷ ids)) v back
          (All-cons (λ n. v.taken < n → n ≤ v.end → ⊥) id ids (λ a b. absurd (omega (arith, taken, a)))
          (All-weaker (λ n. w.taken < n → n ≤ w.end → ⊥) (λ n. v.taken < n → n ≤ v.end → ⊥) (λ n f a b. f (omega (arith, taken, next, a)) (omega (arith, end, b))) ids free))
          (both_all (IsFree ids) (AreApart w) (IsFree (id ∷ ids)) back (λ x f r. All-cons (λ n. x.taken < n → n ≤ x.end → ⊥) id ids (λ a b. r id (omega (arith, next)) inside a b) f) (All-tail (IsFree ids) w back (all_right (IsFree ids) front (w ∷ back) h.free)) sides.1));
      low = All-cons (λ n. n ≤ end_of past) id ids (omega (arith, inside, g.low)) h.low;
      distinct = differ id ids (All-weaker (λ n. w.taken < n → n ≤ w.end → ⊥) (λ n. id ≢ n) (λ n f is. f (omega (arith, next, is)) (omega (arith, inside, is))) ids free) h.distinct;
      seen = h.seen;
    }

-- a window that isn't spent has one behind it that ends in the range
below_end : (w : Window) → is_spent w ≡ false → w.end + 1000 < 2 ^ 64
below_end w room = grind (arith, nat_tests, room)

-- a window that is saved first
holds_saved : (past : List MetaEntry) (front : List Window) (w : Window) (back : List Window) (v : Window) (ids : List ℕ) (id driver term revision : ℕ)
    → TakesSaved w v revision id → verdict_of past (id_call term w) ≡ verdicts.Accepted revision → Holds past (front ++ w ∷ back) ids
    → Holds (entry_of driver (id_call term w) (verdicts.Accepted revision) ∷ past) (front ++ v ∷ back) (id ∷ ids)
holds_saved past front w back v ids id driver term revision t accepted h =
    let entry : MetaEntry = entry_of driver (id_call term w) (verdicts.Accepted revision) in
    let g = All-head (IsGood (end_of past) (rev_of past) (counter_of past)) w back (all_right (IsGood (end_of past) (rev_of past) (counter_of past)) front (w ∷ back) h.good) in
    let known : w.revision ≡ rev_of past = put_expected past term id_key w.revision (decimal (w.end + 1000)) revision accepted in
    let here : w.end ≡ end_of past = g.same known in
    let counted : counter_of (entry ∷ past) ≡ counter_of past + 1 = put_counted past driver term w.revision revision id_key (decimal (w.end + 1000)) in
    let number : revision ≡ counter_of past + 1 = put_revision past term id_key w.revision (decimal (w.end + 1000)) revision accepted in
    let left = saved_record past driver term w.revision (w.end + 1000) revision in
    let end : end_of (entry ∷ past) ≡ w.end + 1000 = ap end_in left ∙ end_read (w.end + 1000) (below_end w t.room) in
    let rev : rev_of (entry ∷ past) ≡ counter_of past + 1 = ap revision_in left in
    let v_end : v.end ≡ w.end + 1000 = ap (λ (x : Window). x.end) t.now in
    let v_rev : v.revision ≡ revision = ap (λ (x : Window). x.revision) t.now in
    let v_taken : v.taken ≡ id = ap (λ (x : Window). x.taken) t.now ∙ sym t.next in
    let next : id ≡ w.end + 1 = t.next in
    record {
      good = all_replaced (IsGood (end_of past) (rev_of past) (counter_of past)) (IsGood (end_of (entry ∷ past)) (rev_of (entry ∷ past)) (counter_of (entry ∷ past))) front w v back
          (λ x p. record { low = omega (arith, end, here, p.low); within = p.within; seen = omega (arith, counted, p.seen); same = λ is. absurd (omega (arith, is, rev, p.seen)) })
          (record { low = omega (arith, v_end, end); within = omega (arith, v_taken, v_end, next); seen = omega (arith, v_rev, number, counted); same = λ is. v_end ∙ sym end }) h.good;
      apart = pairs_replaced (IsGood (end_of past) (rev_of past) (counter_of past)) AreApart front w v back
          (λ x p r n a b c e. absurd (omega (arith, b, p.low, here, c, v_taken, next))) (λ x p r n a b c e. absurd (omega (arith, e, p.low, here, a, v_taken, next))) h.good h.apart;
      free = All-append (IsFree (id ∷ ids)) front (v ∷ back)
          (both_all (IsFree ids) (IsGood (end_of past) (rev_of past) (counter_of past)) (IsFree (id ∷ ids)) front (λ x f p. All-cons (λ n. x.taken < n → n ≤ x.end → ⊥) id ids (λ a b. absurd (omega (arith, b, p.low, here, next))) f)
          (all_left (IsFree ids) front (w ∷ back) h.free) (all_left (IsGood (end_of past) (rev_of past) (counter_of past)) front (w ∷ back) h.good))
          (All-cons (IsFree (id ∷ ids)) v back
          (All-cons (λ n. v.taken < n → n ≤ v.end → ⊥) id ids (λ a b. absurd (omega (arith, v_taken, a)))
          (All-weaker (λ n. n ≤ end_of past) (λ n. v.taken < n → n ≤ v.end → ⊥) (λ n l a b. absurd (omega (arith, l, here, v_taken, next, a))) ids h.low))
          (both_all (IsFree ids) (IsGood (end_of past) (rev_of past) (counter_of past)) (IsFree (id ∷ ids)) back (λ x f p. All-cons (λ n. x.taken < n → n ≤ x.end → ⊥) id ids (λ a b. absurd (omega (arith, b, p.low, here, next))) f)
          (All-tail (IsFree ids) w back (all_right (IsFree ids) front (w ∷ back) h.free)) (All-tail (IsGood (end_of past) (rev_of past) (counter_of past)) w back (all_right (IsGood (end_of past) (rev_of past) (counter_of past)) front (w ∷ back) h.good))));
      low = All-cons (λ n. n ≤ end_of (entry ∷ past)) id ids (omega (arith, end, next)) (All-weaker (λ n. n ≤ end_of past) (λ n. n ≤ end_of (entry ∷ past)) (λ n l. omega (arith, l, here, end)) ids h.low);
      distinct = differ id ids (All-weaker (λ n. n ≤ end_of past) (λ n. id ≢ n) (λ n l is. absurd (omega (arith, l, here, next, is))) ids h.low) h.distinct;
      seen = omega (arith, rev, counted);
    }

-- each move
after_lead : (old new : State) → Leads old new → Holds old.past old.windows old.ids → Holds new.past new.windows new.ids
after_lead old new m h =
    let entry : MetaEntry = entry_of m.driver (calls.Lead m.term) (verdicts.Accepted m.counter) in
    let opened = holds_opened old.past old.windows old.ids h in
    let made = subst (λ (w : Window). Holds old.past (old.windows ++ w ∷ []) old.ids) (sym (window_found old.past)) opened in
    rw (m.past, m.windows, m.ids) (holds_passed old.past (old.windows ++ window_in (records_of old.past) ∷ []) old.ids entry refl made)

after_pass : (old new : State) → Passes old new → Holds old.past old.windows old.ids → Holds new.past new.windows new.ids
after_pass old new m h = rw (m.past, m.windows, m.ids) (holds_passed old.past old.windows old.ids m.entry (passed_record old.past m.entry m.other) h)

after_draw : (old new : State) → Draws old new → Holds old.past old.windows old.ids → Holds new.past new.windows new.ids
after_draw old new m h = by m.takes (subst (λ (ws : List Window). Holds old.past ws old.ids) m.was h)
  where
    by : (TakesLeft m.window m.then m.id × IsQuiet (talk_of old.past new.past))
        ⊎ ((revision : ℕ) × TakesSaved m.window m.then revision m.id × Hears (talk_of old.past new.past) m.driver (id_call m.term m.window) (verdicts.Accepted revision))
        → Holds old.past (m.front ++ m.window ∷ m.back) old.ids → Holds new.past new.windows new.ids
    by (inl left) h =
        let same : new.past ≡ old.past = quiet_past old.past new.past left.1 in
        rw (same, m.windows, m.ids) (holds_left old.past m.front m.window m.back m.then old.ids m.id left.0 h)
    by (inr saved) h =
        let call = id_call m.term m.window in
        let accepted = heard_verdict old.past new.past m.driver m.term id_key m.window.revision (decimal (m.window.end + 1000)) saved.0 saved.2 in
        let past : new.past ≡ entry_of m.driver (id_call m.term m.window) (verdicts.Accepted saved.0) ∷ old.past =
        heard_past old.past new.past m.driver (id_call m.term m.window) (verdicts.Accepted saved.0) saved.2 ∙ ap (λ (v : MetaVerdict). entry_of m.driver (id_call m.term m.window) v ∷ old.past) accepted in
        rw (past, m.windows, m.ids) (holds_saved old.past m.front m.window m.back m.then old.ids m.id m.driver m.term saved.0 saved.1 accepted h)

after_move : (old new : State) → IsMove old new → Holds old.past old.windows old.ids → Holds new.past new.windows new.ids
after_move old new (inl lead) h = after_lead old new lead h
after_move old new (inr (inl pass)) h = after_pass old new pass h
after_move old new (inr (inr draw)) h = after_draw old new draw h

run_holds : (now : State) (earlier : List State) → IsRun now earlier → Holds now.past now.windows now.ids
run_holds now [] run = subst (λ (s : State). Holds s.past s.windows s.ids) (sym run) holds_start
run_holds now (before ∷ earlier) run = after_move before now run.0 (run_holds before earlier run.1)

pub ids_differ : (now : State) (earlier : List State) → IsRun now earlier → AllPairs (λ one other. one ≢ other) now.ids
ids_differ now earlier run = (run_holds now earlier run).distinct
