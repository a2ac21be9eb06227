-- The batches of a run: those answered are those of the ledger, they lie apart, and each is above all that its client had seen.
use Rattle.std.proofs.Common.{◌≡◌, ℕ, ◌<◌, ◌≤◌, ◌⊎◌, List, [], ◌∷◌, ◌++◌, sym, refl, ap, ◌∙◌, subst, inl, inr, ⊎_elim, arith}
use Rattle.std.specs.Prelude.{Contains, map, Ok, Err, All, AllPairs}
use Rattle.std.proofs.lemmas.List.Elements.{All-weaker, All-head, All-tail, All-contains_itself}
use Rattle.std.proofs.lemmas.List.Kept.{AllPairs-cons}
use mathlib.Core.Logic.{dite}
use native.Mathlib.Decide.{dec_le}
use Rattle.pd_types.specs.declared.oracle.Batch.{Batch}
use Rattle.pd_types.specs.Batch.{first_of}
use Rattle.tso_model.specs.declared.entries.Claim.{Claim}
use Rattle.tso_model.specs.declared.entries.Grant.{Grant}
use Rattle.tso_model.specs.declared.view.View.{View}
use Rattle.tso_model.specs.Lists.{total}
use Rattle.tso_model.specs.Words.{Inside, opening_claim}
use Rattle.tso_model.specs.Moves.{nothing_seen, client_view}
use Rattle.tso_model.specs.Ledger.{IsDrawList, IsWindowList, Climb}
use Rattle.tso_model.proofs.Basics.{in_head, in_tail, in_cons, in_nil}
use Rattle.tso_model.proofs.Sums.{total-append}
use Rattle.tso_outcome.specs.declared.said.ClientSaid.{ClientSaid}
use Rattle.tso_outcome.specs.declared.said.ClientAnswer.{ClientAnswer}
use Rattle.tso_outcome.specs.declared.said.ClientSaid.TheVariants.{Took, Told, Heard}
use Rattle.tso_outcome.specs.Clients.{Drew, got_by, seen_by}
use Rattle.tso_outcome.proofs.Passes.{pass_kept, ClientTold, grant_of}
use Rattle.tso_model.specs.OneHistory.{IsAbove}
use Rattle.tso_outcome.specs.Runs.{Run, ClientPart, all_got}
use Rattle.tso_model.specs.OneHistory.{IsBelow, AreApart}
use Rattle.tso_outcome.specs.Batches.{KeepsAbove, KeepBatches}
use Rattle.tso_outcome.proofs.Ended.{CameBack}
use Rattle.tso_outcome.specs.Ends.{ClientEnd}
use Rattle.tso_model.proofs.Codes.{hit, hit-same, hit-is, stands, weighs, batch_code, batch_one}
use Rattle.tso_outcome.proofs.Chains.{ClientSplit, drew_split, drew_seen, drew_grants}

-- LISTS THAT CLIMB
-- the batches have a count, which is at most the last
abbrev pub AreSome : List Batch → Type 0
AreSome bs = All (λ (b : Batch). (0 < b.count) × (b.count ≤ b.last)) bs

pub some_of : (ws : List Claim) (bs : List Batch) → IsDrawList ws bs → AreSome bs
some_of ws bs l = All-weaker (λ (b : Batch). (c : Claim) × Contains ws c × Inside c.window b) (λ (b : Batch). (0 < b.count) × (b.count ≤ b.last)) (λ b x. (x.2.3, omega (arith, x.2.4))) bs l.inside

-- each is above the low end
climb_above : (low t : ℕ) (bs : List Batch) (high u : ℕ) → AreSome bs → Climb low t bs high u → (y : Batch) → Contains bs y → (low < first_of y) × (t ≤ y.term) × (low < y.last)
climb_above low t [] high u some c y h = in_nil y h
climb_above low t (b ∷ bs) high u some c y h =
    let here = All-head (λ (x : Batch). (0 < x.count) × (x.count ≤ x.last)) b bs some in
    ⊎_elim
    (λ (e : b ≡ y). subst (λ (z : Batch). (low < first_of z) × (t ≤ z.term) × (low < z.last)) e (c.0, c.1, omega (arith, c.0, here.0, here.1)))
    (λ (z : Contains bs y). let r = climb_above b.last b.term bs high u (All-tail (λ (x : Batch). (0 < x.count) × (x.count ≤ x.last)) b bs some) c.2 y z in (omega (arith, r.0, c.0, here.0, here.1), omega (arith, r.1, c.1), omega (arith, r.2, c.0, here.0, here.1)))
    (in_cons b bs y h)

-- two of them are one, or one lies below the other
climb_apart : (low t : ℕ) (bs : List Batch) (high u : ℕ) → AreSome bs → Climb low t bs high u → (x y : Batch) → Contains bs x → Contains bs y → (x ≡ y) ⊎ AreApart x y
climb_apart low t [] high u some c x y hx hy = in_nil x hx
climb_apart low t (b ∷ bs) high u some c x y hx hy =
    let more = All-tail (λ (z : Batch). (0 < z.count) × (z.count ≤ z.last)) b bs some in
    let above : (z : Batch) → Contains bs z → IsBelow b z = λ z h. let r = climb_above b.last b.term bs high u more c.2 z h in record { term = r.1; rises = r.0 } in
    ⊎_elim
    (λ (e : b ≡ x). ⊎_elim (λ (f : b ≡ y). inl (sym e ∙ f)) (λ (z : Contains bs y). inr (inl (subst (λ w. IsBelow w y) e (above y z)))) (in_cons b bs y hy))
    (λ (hx' : Contains bs x). ⊎_elim (λ (f : b ≡ y). inr (inr (subst (λ w. IsBelow w x) f (above x hx')))) (λ (z : Contains bs y). climb_apart b.last b.term bs high u more c.2 x y hx' z) (in_cons b bs y hy))
    (in_cons b bs x hx)

-- each stands in it once
climb_once : (low t : ℕ) (bs : List Batch) (high u : ℕ) → AreSome bs → Climb low t bs high u → (x : Batch) → total (hit batch_code batch_one x) bs ≤ 1
climb_once low t [] high u some c x = omega arith
climb_once low t (b ∷ bs) high u some c x =
    let more = All-tail (λ (z : Batch). (0 < z.count) × (z.count ≤ z.last)) b bs some in
    let rest = climb_once b.last b.term bs high u more c.2 x in
    dite (dec_le (hit batch_code batch_one x b) 0)
    (λ none. omega (arith, none, rest))
    (λ here. let same : b ≡ x = hit-is batch_code batch_one x b (omega (arith, here)) in
    let one : hit batch_code batch_one x b ≡ 1 = ap (hit batch_code batch_one x) same ∙ hit-same batch_code batch_one x in
    dite (dec_le (total (hit batch_code batch_one x) bs) 0)
    (λ none. omega (arith, none, one))
    (λ some. absurd (let r = climb_above b.last b.term bs high u more c.2 x (stands batch_code batch_one x bs (omega (arith, some))) in omega (arith, r.2, ap (λ (z : Batch). z.last) same))))

-- a list that weighs no more than one that climbs has no two that touch
apart_all : (low t : ℕ) (bs : List Batch) (high u : ℕ) → AreSome bs → Climb low t bs high u → (xs : List Batch) → ((f : Batch → ℕ) → total f xs ≤ total f bs) → AllPairs AreApart xs
apart_all low t bs high u some c [] le = λ i j d lt within. absurd (omega (arith, lt, within))
apart_all low t bs high u some c (x ∷ xs) le = AllPairs-cons AreApart x xs
    (All-weaker (Contains xs) (AreApart x) (λ y h. ⊎_elim
    (λ (e : x ≡ y). absurd (omega (arith, le (hit batch_code batch_one x), climb_once low t bs high u some c x, hit-same batch_code batch_one x, weighs batch_code batch_one x xs (subst (Contains xs) (sym e) h))))
    (λ (a : AreApart x y). a)
    (climb_apart low t bs high u some c x y (in_bs x (in_head x xs)) (in_bs y (in_tail x xs y h))))
    xs (All-contains_itself xs))
    (apart_all low t bs high u some c xs (λ f. omega (arith, le f)))
  where
    in_bs : (y : Batch) → Contains (x ∷ xs) y → Contains bs y
    in_bs y h = stands batch_code batch_one y bs (omega (arith, le (hit batch_code batch_one y), weighs batch_code batch_one y (x ∷ xs) h))

-- WHAT WAS ANSWERED
map_grants : (c : ℕ) (f : Batch → ℕ) (bs : List Batch) → total (λ (g : Grant). f g.batch) (map (grant_of c) bs) ≡ total f bs
map_grants c f [] = refl
map_grants c f (b ∷ bs) = omega (arith, map_grants c f bs)

all_weigh : (f : Batch → ℕ) (es : List ClientEnd) → ((e : ClientEnd) → Contains es e → e.last.view.grants ≡ map (grant_of e.part.number) (got_by e.part.answers))
    → total (λ (w : View). total (λ (g : Grant). f g.batch) w.grants) (map (λ (e : ClientEnd). e.last.view) es) ≡ total f (all_got (map (λ (e : ClientEnd). e.part) es))
all_weigh f [] each = refl
all_weigh f (e ∷ es) each = omega (arith, total-append f (got_by e.part.answers) (all_got (map (λ (e : ClientEnd). e.part) es)), ap (total (λ (g : Grant). f g.batch)) (each e (in_head e es)), map_grants e.part.number f (got_by e.part.answers), all_weigh f es (λ x h. each x (in_tail e es x h)))

pub in_map : {A B : Type 0} (f : A → B) (xs : List A) (y : B) → Contains (map f xs) y → (x : A) × Contains xs x × (f x ≡ y)
in_map f [] y h = in_nil y h
in_map f (x ∷ xs) y h = ⊎_elim (λ (e : f x ≡ y). (x, in_head x xs, e)) (λ (z : Contains (map f xs) y). let r = in_map f xs y z in (r.0, in_tail x xs r.0 r.1, r.2)) (in_cons (f x) (map f xs) y h)

pub to_map : {A B : Type 0} (f : A → B) (xs : List A) (x : A) → Contains xs x → Contains (map f xs) (f x)
to_map f [] x h = in_nil x h
to_map f (y ∷ ys) x h = ⊎_elim (λ (e : y ≡ x). subst (λ z. Contains (map f (y ∷ ys)) (f z)) e (in_head (f y) (map f ys))) (λ (z : Contains ys x). in_tail (f y) (map f ys) (f x) (to_map f ys x z)) (in_cons y ys x h)

-- the client's end of a part that was printed
pub client_end : (run : Run) (b : CameBack run) (part : ClientPart) → Contains run.clients part → (e : ClientEnd) × Contains b.clients e × (e.part ≡ part)
client_end run b part h = in_map (λ (e : ClientEnd). e.part) b.clients part (subst (λ l. Contains l part) b.clients_are h)

-- one answer of a client with what it knew before and after
pub client_at : (run : Run) (b : CameBack run) (e : ClientEnd) → Contains b.clients e → (before : List ClientAnswer) (a : ClientAnswer) (after : List ClientAnswer) → e.part.answers ≡ before ++ a ∷ after
    → ClientSplit (record { view = client_view run.setup e.part.number; slip = [] }) before a after e.last
client_at run b e h before a after is = drew_split (record { view = client_view run.setup e.part.number; slip = [] }) before a after e.last (subst (λ l. Drew (record { view = client_view run.setup e.part.number; slip = [] }) l e.last) is (b.drew e h).1)

keeps_above : (before : List ClientAnswer) (said : ClientSaid) (old new : View) → old.seen ≡ seen_by nothing_seen before → ClientTold said old new → KeepsAbove before said
keeps_above before (Took d n (Ok b)) old new seen t = (t.0.count, t.0.driver, subst (λ s. IsAbove s b) seen t.0.above)
keeps_above before (Took d n (Err fault)) old new seen t = tt
keeps_above before (Told to) old new seen t = tt
keeps_above before (Heard heard) old new seen t = tt

pub lists_of : (run : Run) (b : CameBack run) → IsWindowList (opening_claim run.setup.cell) b.claims × IsDrawList b.claims run.batches
lists_of run b = (b.window_list, b.draw_list)

got_weigh : (run : Run) (b : CameBack run) (f : Batch → ℕ) → total f (all_got run.clients) ≡ total f run.batches
got_weigh run b f = sym (b.batches_weigh f ∙ b.unites.grants (λ (g : Grant). f g.batch)
    ∙ all_weigh f b.clients (λ e h. drew_grants (record { view = client_view run.setup e.part.number; slip = [] }) e.part.answers e.last (b.drew e h).1)
    ∙ ap (λ l. total f (all_got l)) (sym b.clients_are))

pub keep_batches : (run : Run) → CameBack run → KeepBatches run
keep_batches run b = record {
  draws = record { claims = b.claims; are = b.windows_are; draws = draws };
  got = got_weigh run b;
  apart = apart_all 0 0 run.batches draws.high draws.term (some_of b.claims run.batches draws) draws.rises (all_got run.clients) (λ f. omega (arith, got_weigh run b f));
  above = λ part h before a after is. let e = client_end run b part h in
      let s = client_at run b e.0 e.1 before a after (ap (λ (p : ClientPart). p.answers) e.2 ∙ is) in
      keeps_above before a.said s.old.view s.new.view (drew_seen (record { view = client_view run.setup e.0.part.number; slip = [] }) before s.old s.to) (pass_kept a.said s.old.view s.new.view s.did.pass).told;
}
  where
    draws : IsDrawList b.claims run.batches
    draws = (lists_of run b).1
