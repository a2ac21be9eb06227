-- The answers to any lawful script are a safe history.
use Rattle.std.proofs.Common.{cond, ltb, nat_eq, ◌⊎◌, inl, inr, ⊎_elim, ◌<◌, ◌≤◌, ◌≡◌, ℕ, ◌+◌, zero, suc, ◌^◌, List, [], ◌∷◌, ◌++◌, Bool, true, false, length, map, refl, sym, ap, ◌∙◌, subst, arith, append_assoc}
use Rattle.std.specs.Prelude.{All, AllPairs, Contains, Option, None, Some, option_to_list, reverse, slice_index_or}
use Rattle.std.specs.List.{AllByRecursion}
use Rattle.std.proofs.lemmas.List.Elements.{All-from_recursion, All-nil, recursion_from_All}
use Rattle.std.proofs.lemmas.List.Kept.{AllPairs-cons}
use Rattle.std.proofs.lemmas.List.{append-nil, length-replicate}
use Rattle.pd_types.proofs.Numbers.{other_number, same_number}
use Rattle.pd_types.specs.Batch.{first_of}
use Rattle.pd_types.specs.declared.oracle.Batch.{Batch}
use Rattle.pd_types.specs.declared.oracle.Seen.{Seen}
use Rattle.pd_types.specs.declared.oracle.Window.{Window}
use Rattle.tso_model.specs.declared.entries.Claim.{Claim}
use Rattle.tso_model.specs.declared.view.Setup.{Setup}
use Rattle.tso_model.specs.Ledger.{Climb, place}
use Rattle.tso_model.specs.Sound.{IsSetup}
use Rattle.tso_model.specs.Words.{Inside, passes}
use Rattle.tso_model.specs.OneHistory.{IsAbove}
use Rattle.tso_laws.specs.Laws.{Adds, IsFair, IsUpTo, Tells, seen_at, seen_by, windows_with, with_batch}
use Rattle.tso_core.specs.Says.{OfWindows, Stay, says}
use Rattle.tso_core.specs.Rows.{resigned_of}
use Rattle.tso_core.specs.Sound.{IsSound, HasDriver, HasClient}
use Rattle.tso_core.specs.Asked.{IsCount}
use Rattle.tso_core.specs.Steps.{Stepped, decided, ends}
use Rattle.tso_core.specs.Whole.{Whole, made, view_at}
use Rattle.tso_core.specs.declared.reply.Reply.{Reply}
use Rattle.tso_core.specs.declared.reply.Reply.TheVariants.{Got, Nothing, CellRead, NotLeading, Resigned}
use Rattle.tso_core.specs.declared.reply.Kind.TheVariants.{Read as ToRead, Campaign as ToCampaign, Save as ToSave, Raise as ToRaise, Publish as ToPublish, Probe as ToProbe, Look as ToLook, Arm as ToArm, Draw as ToDraw, Resign as Resigning}
use Rattle.pd_types.specs.declared.oracle.Actor.{Actor}
use Rattle.pd_types.specs.declared.oracle.Actor.TheVariants.{Driver, Client, Store}
use Rattle.tso_laws.proofs.Granted.{ledger, bounded}
use Rattle.tso_core.proofs.Stepping.{call_by}
use Rattle.tso_laws.proofs.Telling.{each_call_tells, is_new}
use Rattle.tso_model.specs.declared.step.WordStep.TheVariants.{ClearLimit}
use Rattle.pd_script.specs.Lawful.{AreLawful, IsInRange, IsLawful, IsLawfulScript, actor_in}
use Rattle.pd_script.specs.declared.place.Place.TheVariants.{Driver as AtDriver, Client as AtClient, Count as AtCount}
use Rattle.pd_types.specs.declared.request.Request.{Request}
use Rattle.pd_types.specs.declared.request.Request.TheVariants.{Hello, Alive, Beat}
use Rattle.pd_script.specs.Scripts.{asker}
use Rattle.pd_script.specs.declared.act.Act.{Act}
use Rattle.pd_script.specs.declared.act.Act.TheVariants.{Cell, Lead, Tick, Resign, Take, Tell, Hear, Read, Campaign, Save, Raise, Publish, Probe, Look, Arm, Draw, Ask, Pop}
use Rattle.pd_script.specs.declared.act.Line.{Line}
use Rattle.pd_script.specs.declared.script.Mode.{Mode}
use Rattle.pd_script.specs.declared.script.Mode.TheVariants.{Replay as ByLine}
use Rattle.pd_script.specs.declared.script.Script.{Script}
use Rattle.pd_cluster.specs.Answers.{Answer, answer_text, answers_text, client_in, driver_in, named_cell, opening_cell, oracle_reply}
use Rattle.tso_model.specs.OneHistory.{AreApart, LiesInOne}
use Rattle.pd_cluster.specs.History.{HasPassed, IsFairAfter, batches_of, caller, opening_window, reply, windows_from, windows_of}
use Rattle.pd_cluster.specs.Outcome.{IsSafeRun, StaysBounded}
use Rattle.pd_cluster.specs.Replay.{State, TakeTurns, act_step, answers_from, answers_of, gives_up, line_step, part_at, past_at, setup_of, start, state_after}
use Rattle.pd_cluster.specs.Talks.{Talk}
use Rattle.pd_state.specs.declared.entry.Entry.{Entry}
use Rattle.pd_cluster.specs.declared.lead.BegunLead.{BegunLead}
use Rattle.pd_cluster.specs.Sent.{AreMade, HaveSafeSteps, IsSafeSaid}
use Rattle.pd_cluster.proofs.Sending.{no_lead_at_first, none_at_first, printed, start_sound}

-- the ranges of a script are the oracle's
pub has_driver : (k : Setup) (d : ℕ) → IsInRange k.drivers k.clients (AtDriver, d) → HasDriver k d
has_driver k d range = record { pos = omega (arith, range.low); low = range.high }

pub has_client : (k : Setup) (c : ℕ) → IsInRange k.drivers k.clients (AtClient, c) → HasClient k c
has_client k c range = record { pos = omega (arith, range.low); low = range.high }

pub is_count : (drivers clients n : ℕ) → IsInRange drivers clients (AtCount, n) → IsCount n
is_count drivers clients n range = record { some = omega (arith, range.low); most = range.high }

up_to_itself : (seen : Seen) → IsUpTo seen seen
up_to_itself seen = record { term = omega arith; last = omega arith }

-- nothing is done and nothing told of the oracle
silent : (w : Whole) → IsSound w → (d c : ℕ) → (let r : Stepped = record { reply = Nothing; after = w } in Tells w d c r)
silent w s d c = record {
  sound = s;
  setup = refl;
  windows = refl;
  batches = refl;
  fair = λ seen is. record { above = tt; passed = tt };
  own = λ has. refl;
  risen = λ has. up_to_itself (seen_at w c);
  shown = λ has. All-nil (λ (seen : Seen). IsUpTo seen (seen_at w c));
  others = λ e has apart. refl;
}

-- nothing is done where the opening cell is told
opens : (w : Whole) → IsSound w → (saved term : ℕ) → (let r : Stepped = record { reply = CellRead (record { saved = saved; term = term }); after = w } in Tells w 0 0 r)
opens w s saved term = record {
  sound = s;
  setup = refl;
  windows = refl;
  batches = refl;
  fair = λ seen is. record { above = tt; passed = tt };
  own = λ has. refl;
  risen = λ has. up_to_itself (seen_at w 0);
  shown = λ has. All-nil (λ (seen : Seen). IsUpTo seen (seen_at w 0));
  others = λ e has apart. refl;
}

-- a resignation says nothing of windows and of batches
record SaysLittle (r : Stepped) : Type 0 where
  windows : (says r.reply).windows ≡ Stay
  batch : (says r.reply).batch ≡ None

resign_says : (w : Whole) (d : ℕ) → SaysLittle (resigned_of w d)
resign_says w d = call_by SaysLittle w (Driver d) Resigning [] refl (record { windows = refl; batch = refl }) (λ rest. by (view_at w d).holds)
  where
    by : (b : Bool) → SaysLittle (cond b (decided (made w d ClearLimit) d (ends Resigned)) (record { reply = NotLeading; after = w }))
    by true = record { windows = refl; batch = refl }
    by false = record { windows = refl; batch = refl }

-- a driver that resigns behind an answer that says nothing of the oracle
resigned_tells : (w : Whole) → IsSound w → (driver d c : ℕ) → HasDriver w.setup driver → (let r : Stepped = record { reply = Nothing; after = (resigned_of w driver).after } in Tells w d c r)
resigned_tells w s driver d c has =
    let t = (each_call_tells w s).resign driver has in
    let little = resign_says w driver in
    let same : (e : ℕ) → HasClient w.setup e → seen_at (resigned_of w driver).after e ≡ seen_at w e = λ e own. t.others e own (λ none. absurd (omega (arith, own.pos, none))) in
    record {
      sound = t.sound;
      setup = t.setup;
      windows = t.windows ∙ ap (λ (o : OfWindows). windows_with driver o w.windows) little.windows;
      batches = t.batches ∙ ap (λ (o : Option Batch). with_batch o w.batches) little.batch;
      fair = λ seen is. record { above = tt; passed = tt };
      own = λ own. same c own;
      risen = λ own. subst (λ (x : Seen). IsUpTo (seen_at w c) x) (sym (same c own)) (up_to_itself (seen_at w c));
      shown = λ own. All-nil (λ (seen : Seen). IsUpTo seen (seen_at (resigned_of w driver).after c));
      others = λ e own apart. same e own;
    }

-- what is asked of a cluster, where its driver may resign
asked_tells : (w : Whole) → IsSound w → (driver d c : ℕ) → HasDriver w.setup driver → (b : Bool) → (let r : Stepped = record { reply = Nothing; after = cond b (resigned_of w driver).after w } in Tells w d c r)
asked_tells w s driver d c has true = resigned_tells w s driver d c has
asked_tells w s driver d c has false = silent w s d c

-- what a line's answer tells
act_tells : (w : Whole) → IsSound w → (act : Act) → IsLawful w.setup.drivers w.setup.clients act → Tells w (driver_in (actor_in act)) (client_in (actor_in act)) (act_step w act)
act_tells w s (Cell saved term) asked = opens w s saved term
act_tells w s (Lead driver now) asked = (each_call_tells w s).lead driver now (has_driver w.setup driver asked.0)
act_tells w s (Tick driver now) asked = (each_call_tells w s).tick driver now (has_driver w.setup driver asked.0)
act_tells w s (Resign driver) asked = (each_call_tells w s).resign driver (has_driver w.setup driver asked.0)
act_tells w s (Take client driver n) asked = (each_call_tells w s).take client driver n (has_client w.setup client asked.0) (has_driver w.setup driver asked.1.0) (is_count w.setup.drivers w.setup.clients n asked.1.1.0)
act_tells w s (Tell client to) asked = (each_call_tells w s).tell client to (has_client w.setup client asked.0) (has_client w.setup to asked.1.0)
act_tells w s (Hear client) asked = (each_call_tells w s).hear client (has_client w.setup client asked.0)
act_tells w s (Read driver now) asked = (each_call_tells w s).step (Driver driver) (ToRead now) (has_driver w.setup driver asked.0) tt
act_tells w s (Campaign driver) asked = (each_call_tells w s).step (Driver driver) ToCampaign (has_driver w.setup driver asked.0) tt
act_tells w s (Save driver) asked = (each_call_tells w s).step (Driver driver) ToSave (has_driver w.setup driver asked.0) tt
act_tells w s (Raise driver) asked = (each_call_tells w s).step (Driver driver) ToRaise (has_driver w.setup driver asked.0) tt
act_tells w s (Publish driver) asked = (each_call_tells w s).step (Driver driver) ToPublish (has_driver w.setup driver asked.0) tt
act_tells w s (Probe driver now) asked = (each_call_tells w s).step (Driver driver) (ToProbe now) (has_driver w.setup driver asked.0) tt
act_tells w s (Look client driver) asked = (each_call_tells w s).step (Client client) (ToLook driver) (has_client w.setup client asked.0) (has_driver w.setup driver asked.1.0)
act_tells w s (Arm client n) asked = (each_call_tells w s).step (Client client) (ToArm n) (has_client w.setup client asked.0) (is_count w.setup.drivers w.setup.clients n asked.1.0)
act_tells w s (Draw client) asked = (each_call_tells w s).step (Client client) ToDraw (has_client w.setup client asked.0) tt
act_tells w s (Ask driver request) asked = silent w s (driver_in (Some (asker driver request))) (client_in (Some (asker driver request)))
act_tells w s (Pop store driver) asked = silent w s (driver_in (Some (Store store))) (client_in (Some (Store store)))

-- the element is in the list
abbrev In : {A : Type 0} → A → List A → Type 0
In x [] = ⊥
In x (y ∷ ys) = (x ≡ y) ⊎ In x ys

in_all : {A : Type 0} (P : A → Type 0) (x : A) (ys : List A) → In x ys → AllByRecursion P ys → P x
in_all P x [] is all = absurd is
in_all P x (y ∷ ys) is all = ⊎_elim (λ same. subst P (sym same) all.0) (λ behind. in_all P x ys behind all.1) is

all_weaker : {A : Type 0} (P Q : A → Type 0) → ((x : A) → P x → Q x) → (xs : List A) → AllByRecursion P xs → AllByRecursion Q xs
all_weaker P Q weaker [] all = tt
all_weaker P Q weaker (x ∷ xs) all = (weaker x all.0, all_weaker P Q weaker xs all.1)

-- a batch in its place
in_cond : (x : Batch) (t : Bool) (l m : List Batch) → In x l → In x m → In x (cond t l m)
in_cond x true l m hit miss = hit
in_cond x false l m hit miss = miss

in_place : (b : Batch) (l : List Batch) → In b (place b l)
in_place b [] = inl refl
in_place b (x ∷ xs) = in_cond b (ltb b.term x.term) (b ∷ x ∷ xs) (x ∷ place b xs) (inl refl) (inr (in_place b xs))

still_in : (x b : Batch) (l : List Batch) → In x l → In x (place b l)
still_in x b [] is = absurd is
still_in x b (y ∷ ys) is = in_cond x (ltb b.term y.term) (b ∷ y ∷ ys) (y ∷ place b ys) (inr is) (⊎_elim (λ same. inl same) (λ behind. inr (still_in x b ys behind)) is)

-- a batch that has a timestamp
abbrev HasSome : Batch → Type 0
HasSome b = first_of b ≤ b.last

record Above (low t : ℕ) (x : Batch) : Type 0 where
  term : t ≤ x.term
  rises : low < first_of x

climbs_above : (l : List Batch) (low t high u : ℕ) → AllByRecursion HasSome l → Climb low t l high u → AllByRecursion (Above low t) l
climbs_above [] low t high u some climb = tt
climbs_above (x ∷ xs) low t high u some climb = (
  record { term = climb.1; rises = climb.0 },
  all_weaker (Above x.last x.term) (Above low t) (λ y above. record { term = omega (arith, above.term, climb.1); rises = omega (arith, above.rises, climb.0, some.0) }) xs (climbs_above xs x.last x.term high u some.1 climb.2),
)

-- a batch in its place in a list that climbs is apart from all others
apart_from : (b : Batch) (l : List Batch) (low t high u : ℕ) → AllByRecursion HasSome (place b l) → Climb low t (place b l) high u → AllByRecursion (λ x. AreApart x b) l
apart_from b [] low t high u some climb = tt
apart_from b (x ∷ xs) low t high u some climb = cases (ltb b.term x.term) (λ many climbs. apart_from b xs x.last x.term high u many climbs) some climb
  where
    cases : (test : Bool) → (AllByRecursion HasSome (place b xs) → Climb x.last x.term (place b xs) high u → AllByRecursion (λ y. AreApart y b) xs) → AllByRecursion HasSome (cond test (b ∷ x ∷ xs) (x ∷ place b xs))
        → Climb low t (cond test (b ∷ x ∷ xs) (x ∷ place b xs)) high u → AllByRecursion (λ y. AreApart y b) (x ∷ xs)
    cases true rest many climbs = all_weaker (Above b.last b.term) (λ y. AreApart y b) (λ y above. inr (record { term = above.term; rises = above.rises })) (x ∷ xs) (climbs_above (x ∷ xs) b.last b.term high u many.1 climbs.2)
    cases false rest many climbs =
        let above : Above x.last x.term b = in_all (Above x.last x.term) b (place b xs) (in_place b xs) (climbs_above (place b xs) x.last x.term high u many.1 climbs.2) in
        (inl (record { term = above.term; rises = above.rises }), rest many.1 climbs.2)

-- the batches of a sound state
inside_some : (w : Window) (b : Batch) → Inside w b → HasSome b
inside_some w b is = omega (arith, is.3, is.4)

all_some : (w : Whole) → IsSound w → AllByRecursion HasSome w.batches
all_some w s = let l = ledger w s in all_weaker (λ (b : Batch). (c : Claim) × Contains l.claims c × Inside c.window b) HasSome (λ b is. inside_some is.0.window b is.2) w.batches (recursion_from_All _ _ l.draws.inside)

new_apart : (u : Whole) → IsSound u → (old : List Batch) (b : Batch) → u.batches ≡ place b old → AllByRecursion (λ x. AreApart x b) old
new_apart u s old b is =
    let d = (ledger u s).draws in
    apart_from b old 0 0 d.high d.term (subst (λ (bs : List Batch). AllByRecursion HasSome bs) is (all_some u s)) (subst (λ (bs : List Batch). Climb 0 0 bs d.high d.term) is d.rises)

-- a window that a claim names
contains_mapped : (cs : List Claim) (c : Claim) → In c cs → In c.window (map (λ (x : Claim). x.window) cs)
contains_mapped [] c is = absurd is
contains_mapped (x ∷ xs) c is = ⊎_elim (λ same. inl (ap (λ (y : Claim). y.window) same)) (λ behind. inr (contains_mapped xs c behind)) is

from_contains : {A : Type 0} (xs : List A) (x : A) (k : ℕ) → k < length xs → slice_index_or xs k x ≡ x → In x xs
from_contains [] x k within is = absurd (omega (arith, within))
from_contains (y ∷ ys) x zero within is = inl (sym is)
from_contains (y ∷ ys) x (suc k) within is = inr (from_contains ys x k (omega (arith, within)) is)

to_contains : {A : Type 0} (xs : List A) (x : A) → In x xs → Contains xs x
to_contains [] x is = absurd is
to_contains (y ∷ ys) x is = ⊎_elim
    (λ same. (0, omega arith, sym same))
    (λ behind. let found = to_contains ys x behind in (suc found.0, omega (arith, found.1), found.2)) is

lies_in_one : (w : Whole) → IsSound w → (b : Batch) → In b w.batches → LiesInOne w.windows b
lies_in_one w s b is =
    let l = ledger w s in
    let one = in_all (λ (x : Batch). (c : Claim) × Contains l.claims c × Inside c.window x) b w.batches is (recursion_from_All _ _ l.draws.inside) in
    record {
      window = one.0.window;
      one = to_contains w.windows one.0.window (subst (λ (ws : List Window). In one.0.window ws) (sym l.windows) (contains_mapped l.claims one.0 (from_contains l.claims one.0 one.1.0 one.1.1 one.1.2)));
      inside = one.2;
    }

-- what the batches that are printed from a state on are to those before and to those of the last state
record Prints (old final printed : List Batch) : Type 0 where
  kept : (b : Batch) → In b old → In b final
  among : AllByRecursion (λ b. In b final) printed
  behind : (b : Batch) → In b old → AllByRecursion (AreApart b) printed
  apart : AllPairs AreApart printed

nothing_apart : AllPairs AreApart []
nothing_apart i j d before within = absurd (omega (arith, within))

prints_nothing : (bs : List Batch) → Prints bs bs []
prints_nothing bs = record { kept = λ b is. is; among = tt; behind = λ b is. tt; apart = nothing_apart }

prints_got : (u : Whole) → IsSound u → (old final printed : List Batch) (b : Batch) → u.batches ≡ place b old → Prints u.batches final printed → Prints old final (b ∷ printed)
prints_got u s old final printed b is p = record {
  kept = λ x within. p.kept x (subst (In x) (sym is) (still_in x b old within));
  among = (p.kept b (subst (In b) (sym is) (in_place b old)), p.among);
  behind = λ x within. (in_all (λ y. AreApart y b) x old within (new_apart u s old b is), p.behind x (subst (In x) (sym is) (still_in x b old within)));
  apart = AllPairs-cons AreApart b printed (All-from_recursion _ _ (p.behind b (subst (In b) (sym is) (in_place b old)))) p.apart;
}

prints_batch : (u : Whole) → IsSound u → (o : Option Batch) (old final printed : List Batch) → u.batches ≡ with_batch o old → Prints u.batches final printed → Prints old final (option_to_list o ++ printed)
prints_batch u s None old final printed same p = subst (λ (bs : List Batch). Prints bs final printed) same p
prints_batch u s (Some b) old final printed placed p = prints_got u s old final printed b placed p

prints_one : (u : Whole) → IsSound u → (r : Reply) (old final printed : List Batch) → Adds r old u.batches → Prints u.batches final printed → Prints old final (option_to_list (says r).batch ++ printed)
prints_one u s r old final printed adds p = prints_batch u s (says r).batch old final printed adds p

-- what a line answers of the oracle, and the oracle after it
abbrev oracle_turn : State → Line → Stepped
oracle_turn state line = record { reply = oracle_reply (line_step state line).said; after = (line_step state line).after.oracle }

turn_told : (state : State) (number : ℕ) (actor : Option Actor) (act : Act) → IsSound state.oracle → IsLawful state.oracle.setup.drivers state.oracle.setup.clients act
    → Tells state.oracle (driver_in (actor_in act)) (client_in (actor_in act)) (oracle_turn state (record { number = number; actor = actor; act = act }))
turn_told state number actor (Ask driver request) s asked =
    asked_tells state.oracle s driver (driver_in (Some (asker driver request))) (client_in (Some (asker driver request))) (has_driver state.oracle.setup driver asked.0) (gives_up (part_at state.kept driver) request)
turn_told state number actor (Pop store driver) s asked = silent state.oracle s (driver_in (Some (Store store))) (client_in (Some (Store store)))
turn_told state number actor act s asked = act_tells state.oracle s act asked

has_or_not : (k : Setup) (c : ℕ) → HasClient k c ⊎ (HasClient k c → ⊥)
has_or_not k c = by (order 0 c) (order k.clients c)
  where
    order : (a b : ℕ) → (a < b) ⊎ (b ≤ a)
    order a b = grind arith

    by : (0 < c) ⊎ (c ≤ 0) → (k.clients < c) ⊎ (c ≤ k.clients) → HasClient k c ⊎ (HasClient k c → ⊥)
    by (inr none) other = inr (λ has. absurd (omega (arith, has.pos)))
    by (inl some) (inl past) = inr (λ has. absurd (omega (arith, has.low)))
    by (inl some) (inr low) = inl (record { pos = some; low = low })

above_more : (a b : Seen) (batch : Batch) → IsUpTo a b → IsAbove b batch → IsAbove a batch
above_more a b batch upto above = record { term = omega (arith, upto.term, above.term); last = omega (arith, upto.last, above.last) }

-- a batch that is granted to a client is above this pair
abbrev Exceeds : ℕ → Seen → Answer → Type 0
Exceeds c seen answer = caller answer ≡ c → (batch : Batch) → reply answer ≡ Got batch → IsAbove seen batch

-- what an answer grants is above all that its client had seen, whatever counts as seen of nobody
exceeds_now : (w : Whole) (d c : ℕ) (r : Stepped) → Tells w d c r → (seen : Seen) → (HasClient w.setup c → IsUpTo seen (seen_at w c)) → (batch : Batch) → r.reply ≡ Got batch → IsAbove seen batch
exceeds_now w d c r tells seen upto batch is = by (has_or_not w.setup c)
  where
    by : HasClient w.setup c ⊎ (HasClient w.setup c → ⊥) → IsAbove seen batch
    by (inl has) = above_more seen (seen_at w c) batch (upto has) (subst (λ (x : Reply). IsFair x (seen_at w c)) is (tells.fair (seen_at w c) (λ own. refl))).above
    by (inr none) = (subst (λ (x : Reply). IsFair x seen) is (tells.fair seen (λ has. absurd (none has)))).above

up_to_more : (a b c : Seen) → IsUpTo a b → IsUpTo b c → IsUpTo a c
up_to_more a b c one two = record { term = omega (arith, one.term, two.term); last = omega (arith, one.last, two.last) }

-- no client's pair falls
rises_all : (w : Whole) (d c : ℕ) (r : Stepped) → Tells w d c r → (e : ℕ) → HasClient w.setup e → IsUpTo (seen_at w e) (seen_at r.after e)
rises_all w d c r told e has = cases (nat_eq c e) refl
  where
    kept : (x y : Seen) → y ≡ x → IsUpTo x y
    kept x y is = record { term = omega (arith, ap (λ (s : Seen). s.term) is); last = omega (arith, ap (λ (s : Seen). s.last) is) }

    cases : (test : Bool) → nat_eq c e ≡ test → IsUpTo (seen_at w e) (seen_at r.after e)
    cases true is = subst (λ (x : ℕ). HasClient w.setup x → IsUpTo (seen_at w x) (seen_at r.after x)) (same_number c e is) told.risen has
    cases false is = kept (seen_at w e) (seen_at r.after e) (told.others e has (other_number c e is))

-- of each element all, so all of each
all_swap : {A B : Type 0} (P : A → B → Type 0) (xs : List A) (ys : List B) → AllByRecursion (λ x. AllByRecursion (P x) ys) xs → AllByRecursion (λ y. AllByRecursion (λ x. P x y) xs) ys
all_swap {B = B} P [] ys all = empty ys
  where
    empty : (zs : List B) → AllByRecursion (λ y. AllByRecursion (λ x. P x y) []) zs
    empty [] = tt
    empty (z ∷ zs) = (tt, empty zs)
all_swap {B = B} P (x ∷ xs) ys all = both ys all.0 (all_swap P xs ys all.1)
  where
    both : (zs : List B) → AllByRecursion (P x) zs → AllByRecursion (λ y. AllByRecursion (λ x. P x y) xs) zs → AllByRecursion (λ y. AllByRecursion (λ x. P x y) (x ∷ xs)) zs
    both [] one more = tt
    both (z ∷ zs) one more = ((one.0, more.0), both zs one.1 more.1)

-- a whole run from a state
record Runs (state : State) (lines : List Line) : Type 0 where
  sound : IsSound (state_after state lines).oracle
  exceed : AllPairs IsFairAfter (answers_from state lines)
  ahead : (c : ℕ) (seen : Seen) → (HasClient state.oracle.setup c → IsUpTo seen (seen_at state.oracle c)) → AllByRecursion (Exceeds c seen) (answers_from state lines)
  passed : AllByRecursion HasPassed (answers_from state lines)
  windows : windows_from state.oracle.windows (answers_from state lines) ≡ (state_after state lines).oracle.windows
  prints : Prints state.oracle.batches (state_after state lines).oracle.batches (batches_of (answers_from state lines))
  cursors : StaysBounded state lines

-- the lines of a script
record IsAsked (k : Setup) (line : Line) : Type 0 where
  lawful : IsLawful k.drivers k.clients line.act
  actor : line.actor ≡ actor_in line.act

abbrev AreAsked : Setup → List Line → Type 0
AreAsked k lines = AllByRecursion (IsAsked k) lines

none_exceed : AllPairs IsFairAfter []
none_exceed i j d before within = absurd (omega (arith, within))

line_told : (state : State) (line : Line) → IsSound state.oracle → IsAsked state.oracle.setup line → Tells state.oracle (driver_in line.actor) (client_in line.actor) (oracle_turn state line)
line_told state line s asked =
    subst (λ (a : Option Actor). Tells state.oracle (driver_in a) (client_in a) (oracle_turn state line)) (sym asked.actor)
    (turn_told state line.number line.actor line.act s asked.lawful)

has_passed : (state : State) (line : Line) (d c : ℕ) → Tells state.oracle d c (oracle_turn state line) → HasPassed (record { line = line; said = (line_step state line).said })
has_passed state line d c tells at hi n is = by (has_or_not state.oracle.setup c)
  where
    by : HasClient state.oracle.setup c ⊎ (HasClient state.oracle.setup c → ⊥) → passes at hi n ≡ true
    by either = (subst (λ (x : Reply). IsFair x (seen_at state.oracle c)) is (tells.fair (seen_at state.oracle c) (λ has. refl))).passed

fair_one : (answer later : Answer) (c : ℕ) → caller answer ≡ c → AllByRecursion (λ seen. Exceeds c seen later) (seen_by (reply answer)) → IsFairAfter answer later
fair_one answer later c is all same batch got = All-from_recursion (λ seen. IsAbove seen batch) (seen_by (reply answer))
    (all_weaker (λ seen. Exceeds c seen later) (λ seen. IsAbove seen batch) (λ seen exceeds. exceeds (sym same ∙ is) batch got) (seen_by (reply answer)) all)

fair_after : (answer : Answer) (c : ℕ) (laters : List Answer) → caller answer ≡ c → AllByRecursion (λ later. AllByRecursion (λ seen. Exceeds c seen later) (seen_by (reply answer))) laters → All (IsFairAfter answer) laters
fair_after answer c laters is all = All-from_recursion (IsFairAfter answer) laters
    (all_weaker (λ later. AllByRecursion (λ seen. Exceeds c seen later) (seen_by (reply answer))) (IsFairAfter answer) (λ later one. fair_one answer later c is one) laters all)

shown_ahead : (next : State) (lines : List Line) → Runs next lines → (c : ℕ) (seens : List Seen) → (HasClient next.oracle.setup c → AllByRecursion (λ s. IsUpTo s (seen_at next.oracle c)) seens) → AllByRecursion (λ seen. AllByRecursion (Exceeds c seen) (answers_from next lines)) seens
shown_ahead next lines rest c [] upto = tt
shown_ahead next lines rest c (seen ∷ seens) upto = (rest.ahead c seen (λ own. (upto own).0), shown_ahead next lines rest c seens (λ own. (upto own).1))

runs : (lines : List Line) (state : State) → IsSound state.oracle → AreAsked state.oracle.setup lines → Runs state lines
runs [] state s asked = record { sound = s; exceed = none_exceed; ahead = λ c seen upto. tt; passed = tt; windows = refl; prints = prints_nothing state.oracle.batches; cursors = bounded state.oracle s }
runs (line ∷ lines) state s asked =
    let r : Stepped = oracle_turn state line in
    let next : State = (line_step state line).after in
    let answer : Answer = record { line = line; said = (line_step state line).said } in
    let c : ℕ = client_in line.actor in
    let told : Tells state.oracle (driver_in line.actor) c r = line_told state line s asked.0 in
    let rest : Runs next lines = runs lines next told.sound (subst (λ (k : Setup). AreAsked k lines) (sym told.setup) asked.1) in
    let has : (e : ℕ) → HasClient next.oracle.setup e → HasClient state.oracle.setup e = λ e own. subst (λ (k : Setup). HasClient k e) told.setup own in
    let shown : AllByRecursion (λ seen. AllByRecursion (Exceeds c seen) (answers_from next lines)) (seen_by r.reply) =
    shown_ahead next lines rest c (seen_by r.reply) (λ own. recursion_from_All _ _ (told.shown (has c own))) in
    record {
      sound = rest.sound;
      exceed = AllPairs-cons IsFairAfter answer (answers_from next lines) (fair_after answer c (answers_from next lines) refl (all_swap (λ (seen : Seen) (later : Answer). Exceeds c seen later) (seen_by r.reply) (answers_from next lines) shown)) rest.exceed;
      ahead = λ e seen upto. (
        λ same batch is. exceeds_now state.oracle (driver_in line.actor) c r told seen (λ own. subst (λ (x : ℕ). HasClient state.oracle.setup x → IsUpTo seen (seen_at state.oracle x)) (sym same) upto own) batch is,
        rest.ahead e seen (λ own. up_to_more seen (seen_at state.oracle e) (seen_at next.oracle e) (upto (has e own)) (rises_all state.oracle (driver_in line.actor) c r told e (has e own))),
      );
      passed = (has_passed state line (driver_in line.actor) c told, rest.passed);
      windows = ap (λ (ws : List Window). windows_from ws (answers_from next lines)) (sym told.windows) ∙ rest.windows;
      prints = prints_one next.oracle told.sound r.reply state.oracle.batches (state_after next lines).oracle.batches (batches_of (answers_from next lines)) told.batches rest.prints;
      cursors = (bounded state.oracle s, rest.cursors);
    }

-- the opening cell of a lawful script
act_cell : (drivers clients : ℕ) (act : Act) → IsLawful drivers clients act → ((named_cell act).saved < 2 ^ 45) × ((named_cell act).term < 262144)
act_cell drivers clients (Cell saved term) asked = (omega (arith, asked.0.high), omega (arith, asked.1.0.high))
act_cell drivers clients _ asked = (omega arith, omega arith)

lines_cell : (mode : Mode) (drivers clients : ℕ) (first : Bool) (lines : List Line) → AreLawful mode drivers clients first lines → ((opening_cell lines).saved < 2 ^ 45) × ((opening_cell lines).term < 262144)
lines_cell mode drivers clients first [] asked = (omega arith, omega arith)
lines_cell mode drivers clients first (line ∷ lines) asked = act_cell drivers clients line.act asked.1

pub is_setup : (mode : Mode) (script : Script) → IsLawfulScript mode script → IsSetup (setup_of script)
is_setup mode script lawful = record {
  drivers = (lawful.drivers.pos, lawful.drivers.low);
  clients = (lawful.clients.pos, lawful.clients.low);
  cell = lines_cell mode script.drivers script.clients true script.lines lawful.lines;
}

pub each_lawful : (mode : Mode) (drivers clients : ℕ) (first : Bool) (lines : List Line) → AreLawful mode drivers clients first lines → AllByRecursion (λ line. IsLawful drivers clients line.act) lines
each_lawful mode drivers clients first [] asked = tt
each_lawful mode drivers clients first (line ∷ lines) asked = (asked.1, each_lawful mode drivers clients false lines asked.2)

pub all_asked : (mode : Mode) (script : Script) → IsLawfulScript mode script → All (λ line. IsLawful script.drivers script.clients line.act) script.lines
all_asked mode script lawful = All-from_recursion _ _ (each_lawful mode script.drivers script.clients true script.lines lawful.lines)

with_actors : (k : Setup) (lines : List Line) → AllByRecursion (λ line. IsLawful k.drivers k.clients line.act) lines → AllByRecursion (λ line. line.actor ≡ actor_in line.act) lines → AreAsked k lines
with_actors k [] lawful actors = tt
with_actors k (line ∷ lines) lawful actors = (record { lawful = lawful.0; actor = actors.0 }, with_actors k lines lawful.1 actors.1)

-- the answers have the lines
pub same_lines : (lines : List Line) (state : State) → map (λ (answer : Answer). answer.line) (answers_from state lines) ≡ lines
same_lines [] state = refl
same_lines (line ∷ lines) state = ap (λ (ls : List Line). line ∷ ls) (same_lines lines (line_step state line).after)

-- the driver that acts in a line is one of the oracle's, or 0
asker_low : (drivers driver : ℕ) (request : Request) → driver ≤ drivers → driver_in (Some (asker driver request)) ≤ drivers
asker_low drivers driver (Hello store moment address labels) low = omega arith
asker_low drivers driver (Alive store moment) low = omega arith
asker_low drivers driver (Beat store moment beat) low = omega arith
asker_low drivers driver _ low = low

driver_low : (drivers clients : ℕ) (act : Act) → IsLawful drivers clients act → driver_in (actor_in act) ≤ drivers
driver_low drivers clients (Ask driver request) asked = asker_low drivers driver request asked.0.high
driver_low drivers clients (Pop store driver) asked = omega arith
driver_low drivers clients _ asked = omega (arith, asked.0.high)

pub actor_low : (drivers clients : ℕ) (actor : Option Actor) (act : Act) → actor ≡ actor_in act → IsLawful drivers clients act → driver_in actor ≤ drivers
actor_low drivers clients actor act is asked = subst (λ (a : Option Actor). driver_in a ≤ drivers) (sym is) (driver_low drivers clients act asked)

actors_low : (drivers clients : ℕ) (lines : List Line) → AllByRecursion (λ line. IsLawful drivers clients line.act) lines → AllByRecursion (λ line. line.actor ≡ actor_in line.act) lines
    → AllByRecursion (λ line. driver_in line.actor ≤ drivers) lines
actors_low drivers clients [] lawful actors = tt
actors_low drivers clients (line ∷ lines) lawful actors = (actor_low drivers clients line.actor line.act actors.0 lawful.0, actors_low drivers clients lines lawful.1 actors.1)

-- the steps that are printed
pub safe_steps : (talks : List Talk) (script : Script) → IsLawfulScript ByLine script → TakeTurns (start talks script) script.lines → HaveSafeSteps (answers_of talks script)
safe_steps talks script lawful turns =
    let each = each_lawful ByLine script.drivers script.clients true script.lines lawful.lines in
    let low = actors_low script.drivers script.clients script.lines each (recursion_from_All _ _ lawful.actors) in
    let all = printed script.drivers script.clients script.lines (start talks script) each low turns
    (start_sound script.drivers script.lines (start talks script) (length-replicate (script.drivers + 1) []) (length-replicate (script.drivers + 1) None) refl refl) in
    let js = (state_after (start talks script) script.lines).kept.journals in
    record {
      journals = past_at js;
      legal = all.legal;
      made = λ d.
          let one = all.made d in
          subst (λ (j : List Entry). AreMade d None (answers_of talks script) (reverse j)) (sym (one.is ∙ ap (λ (j : List Entry). one.more ++ j) (none_at_first script.drivers d) ∙ append-nil one.more))
          (subst (λ (lead : Option BegunLead). AreMade d lead (answers_of talks script) (reverse one.more)) (no_lead_at_first script.drivers d (start talks script) refl) one.made);
      safe = All-from_recursion (λ (answer : Answer). IsSafeSaid (past_at js) answer.line answer.said) (answers_of talks script) all.safe;
    }

pub history : (talks : List Talk) (mode : Mode) (script : Script) → IsLawfulScript mode script → IsSafeRun talks script
history talks mode script lawful =
    let new = is_new (setup_of script) (is_setup mode script lawful) in
    let asked = with_actors (setup_of script) script.lines (each_lawful mode script.drivers script.clients true script.lines lawful.lines) (recursion_from_All _ _ lawful.actors) in
    let run = runs script.lines (start talks script) new.sound asked in
    let last : Whole = (state_after (start talks script) script.lines).oracle in
    let l = ledger last run.sound in
    let told : windows_of (answers_of talks script) ≡ last.windows =
    ap (λ (ls : List Line). windows_from (opening_window (opening_cell ls) ∷ []) (answers_of talks script)) (same_lines script.lines (start talks script))
    ∙ ap (λ (ws : List Window). windows_from ws (answers_of talks script)) (sym new.windows) ∙ run.windows in
    record {
      answers = record {
        history = record {
          rises = run.prints.apart;
          follow = record { opening = last.setup.cell; claims = l.claims; are = told ∙ l.windows; rise = l.rise };
          inside = subst (λ (ws : List Window). All (LiesInOne ws) (batches_of (answers_of talks script))) (sym told) (All-from_recursion _ _ (all_weaker (λ b. In b last.batches) (LiesInOne last.windows) (λ b is. lies_in_one last run.sound b is) (batches_of (answers_of talks script)) run.prints.among));
        };
        fair = record { exceed = run.exceed; passed = All-from_recursion _ _ run.passed };
      };
      told = told;
      cursors = run.cursors;
    }

-- one more answer in the text
pub text_more : (state next : State) (line : Line) (lines : List Line) (old new all : List ℕ) → next ≡ (line_step state line).after → new ≡ old ++ answer_text (record { line = line; said = (line_step state line).said })
    → old ++ answers_text (answers_from state (line ∷ lines)) ≡ all → new ++ answers_text (answers_from next lines) ≡ all
text_more state next line lines old new all after text before =
    let one : List ℕ = answer_text (record { line = line; said = (line_step state line).said }) in
    ap (λ (s : List ℕ). s ++ answers_text (answers_from next lines)) text
    ∙ append_assoc old one (answers_text (answers_from next lines))
    ∙ ap (λ (v : State). old ++ (one ++ answers_text (answers_from v lines))) after ∙ before
