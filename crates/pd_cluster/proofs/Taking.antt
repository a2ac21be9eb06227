-- The streams of a driver hand out what was kept, the oldest first.
use Rattle.std.proofs.Common.{refl, ◌≡◌, ℕ, zero, suc, ◌+◌, ◌<◌, ◌≤◌, ◌↔◌, Bool, true, false, cond, eqb, ◌&&◌, ◌||◌, nat_eq, nat_lt, List, [], ◌∷◌, ◌++◌, length, length-append, length-set, replicate, get_or, get_or-set_same, get_or-set_other, append_assoc, reverse, ap, sym, ◌∙◌, subst, Option, Some, None, arith}
use Rattle.std.specs.FinMap as map
use Rattle.std.specs.Ordering.{nat_cmp}
use Rattle.std.proofs.lemmas.Bool.Decides.{nat_tests}
use Rattle.std.proofs.lemmas.List.{reverse-append, length-replicate, length-reverse, append_cancel_right}
use Rattle.pd_types.specs.declared.oracle.Actor.{Actor}
use Rattle.pd_types.specs.declared.oracle.Actor.TheVariants.{Driver, Client, Store}
use Rattle.pd_types.specs.declared.step.StepMsg.{StepMsg}
use Rattle.pd_types.specs.declared.request.Request.{Request}
use Rattle.id_map.proofs.Inserted.{get-insert}
use Rattle.pd_script.specs.declared.act.Act.{Act}
use Rattle.pd_script.specs.declared.act.Act.TheVariants.{Ask, Pop}
use Rattle.pd_script.specs.declared.act.Line.{Line}
use Rattle.pd_script.specs.declared.script.Script.{Script}
use Rattle.pd_state.specs.declared.entry.Entry.{Entry}
use Rattle.pd_cluster.specs.Answers.{driver_in}
use Rattle.pd_cluster.specs.Replay.{State, act_step, asked_besides, asked_line, lead_at, line_step, oracle_line, past_at, pop_line, served, start, waiting_at}
use Rattle.pd_cluster.specs.Streams.{Waiting, first_of, has_room, last_sends, messages_in, left_by, oldest_in, waiting_for, with_actor, with_actors, with_message, with_messages, without_first}
use Rattle.pd_cluster.specs.Talks.{Talk}
use Rattle.pd_cluster.specs.Taking.{AreByStreams, AreInOrder, Event, Sent, Answered, IsDue, acts_in, events_at, events_from, is_store, kept_for, streams_after, taken_by, with_line, with_sent}
use Rattle.pd_cluster.specs.declared.streams.TheConstants.{MOST_MESSAGES}
use Rattle.pd_cluster.proofs.Sending.{besides_len}

eq_of : (x y : ℕ) → eqb x y ≡ true → x ≡ y
eq_of x y is = grind (arith, nat_tests)

-- AT MOST 64 WAIT
kept_more : (b : Bool) (m : StepMsg) (kept taken : List StepMsg) (t a : Bool) → b ≡ (t && (a && nat_lt (length kept) (length taken + MOST_MESSAGES))) → length kept ≤ length taken + 64 → length (cond b (m ∷ kept) kept) ≤ length taken + 64
kept_more false m kept taken t a is few = few
kept_more true m kept taken false a is few = absurd cc
kept_more true m kept taken true false is few = absurd cc
kept_more true m kept taken true true is few = grind (arith, nat_tests)

taken_more : (b : Bool) (m : StepMsg) (kept taken : List StepMsg) → length kept ≤ length taken + 64 → length kept ≤ length (cond b (m ∷ taken) taken) + 64
taken_more false m kept taken few = few
taken_more true m kept taken few = omega arith

pub most_wait : (lines : List Line) (store : ℕ) (events : List Event) → length (kept_for lines store events) ≤ length (taken_by store events) + 64
most_wait lines store [] = omega arith
most_wait lines store (Sent m ∷ past) =
    kept_more (nat_eq store m.to && (acts_in lines store && nat_lt (length (kept_for lines store past)) (length (taken_by store past) + MOST_MESSAGES))) m (kept_for lines store past) (taken_by store past) (nat_eq store m.to) (acts_in lines store) refl (most_wait lines store past)
most_wait lines store (Answered other None ∷ past) = most_wait lines store past
most_wait lines store (Answered other (Some m) ∷ past) = taken_more (nat_eq store other) m (kept_for lines store past) (taken_by store past) (most_wait lines store past)

-- BEFORE THE FIRST EVENT
opened_with : (waiting : Waiting) (o : Option Actor) (rest : Bool) (store : ℕ) → cond rest (Some []) (map.get (with_actor waiting o) store) ≡ cond (is_store store o || rest) (Some []) (map.get waiting store)
opened_with waiting None rest store = refl
opened_with waiting (Some (Driver d)) rest store = refl
opened_with waiting (Some (Client c)) rest store = refl
opened_with waiting (Some (Store s)) rest store = ap (λ (o : Option (List StepMsg)). cond rest (Some []) o) (get-insert waiting s [] store) ∙ by (eqb store s) rest (map.get waiting store)
  where
    by : (b rest : Bool) (o : Option (List StepMsg)) → cond rest (Some []) (cond b (Some []) o) ≡ cond (b || rest) (Some []) o
    by true true o = refl
    by true false o = refl
    by false rest o = refl

opened_all : (waiting : Waiting) (lines : List Line) (store : ℕ) → map.get (with_actors waiting lines) store ≡ cond (acts_in lines store) (Some []) (map.get waiting store)
opened_all waiting [] store = refl
opened_all waiting (line ∷ lines) store = opened_all (with_actor waiting line.actor) lines store ∙ opened_with waiting line.actor (acts_in lines store) store

-- WHAT WAITS FOR A STORE
-- what was kept for a store is what waits for it, the oldest last, over what it was given
abbrev Stands : Bool → Option (List StepMsg) → List StepMsg → List StepMsg → Type 0
Stands false None kept taken = (kept ≡ []) × (taken ≡ [])
Stands true (Some queue) kept taken = kept ≡ reverse queue ++ taken
Stands false (Some queue) kept taken = ⊥
Stands true None kept taken = ⊥

abbrev AllStand : List Line → Waiting → List Event → Type 0
AllStand lines waiting past = (store : ℕ) → Stands (acts_in lines store) (map.get waiting store) (kept_for lines store past) (taken_by store past)

none_stand : (acts : Bool) (o : Option (List StepMsg)) → o ≡ cond acts (Some []) None → Stands acts o [] []
none_stand false None is = (refl, refl)
none_stand true (Some queue) is = let empty : queue ≡ [] = cc in ap (λ (q : List StepMsg). reverse q ++ []) (sym empty)
none_stand false (Some queue) is = absurd cc
none_stand true None is = absurd cc

-- a message is sent to the store
same_room : (queue kept taken : List StepMsg) → kept ≡ reverse queue ++ taken → nat_lt (length queue) MOST_MESSAGES ≡ nat_lt (length kept) (length taken + MOST_MESSAGES)
same_room queue kept taken stands =
    let len : length kept ≡ length queue + length taken = ap length stands ∙ length-append (reverse queue) taken ∙ ap (λ (n : ℕ). n + length taken) (length-reverse queue) in
    grind (arith, nat_tests)

sent_one : (r : Bool) (queue kept taken : List StepMsg) (m : StepMsg) → kept ≡ reverse queue ++ taken → Stands true (cond r (Some (queue ++ m ∷ [])) (Some queue)) (cond r (m ∷ kept) kept) taken
sent_one false queue kept taken m stands = stands
sent_one true queue kept taken m stands = ap (λ (k : List StepMsg). m ∷ k) stands ∙ ap (λ (k : List StepMsg). k ++ taken) (sym (reverse-append queue (m ∷ [])))

sent_here : (acts : Bool) (o : Option (List StepMsg)) (kept taken : List StepMsg) (m : StepMsg) → Stands acts o kept taken
    → Stands acts (cond (has_room o) (Some (messages_in o ++ m ∷ [])) o) (cond (acts && nat_lt (length kept) (length taken + MOST_MESSAGES)) (m ∷ kept) kept) taken
sent_here false None kept taken m stands = stands
sent_here false (Some queue) kept taken m stands = absurd stands
sent_here true None kept taken m stands = absurd stands
sent_here true (Some queue) kept taken m stands =
    subst (λ (r : Bool). Stands true (cond (nat_lt (length queue) MOST_MESSAGES) (Some (queue ++ m ∷ [])) (Some queue)) (cond r (m ∷ kept) kept) taken) (same_room queue kept taken stands)
    (sent_one (nat_lt (length queue) MOST_MESSAGES) queue kept taken m stands)

sent_by : (to acts : Bool) (o own : Option (List StepMsg)) (kept taken : List StepMsg) (m : StepMsg) → (to ≡ true → own ≡ o) → Stands acts o kept taken
    → Stands acts (cond (to && has_room own) (Some (messages_in own ++ m ∷ [])) o) (cond (to && (acts && nat_lt (length kept) (length taken + MOST_MESSAGES))) (m ∷ kept) kept) taken
sent_by false acts o own kept taken m same stands = stands
sent_by true acts o own kept taken m same stands =
    subst (λ (own : Option (List StepMsg)). Stands acts (cond (has_room own) (Some (messages_in own ++ m ∷ [])) o) (cond (acts && nat_lt (length kept) (length taken + MOST_MESSAGES)) (m ∷ kept) kept) taken) (sym (same refl))
    (sent_here acts o kept taken m stands)

get_sent : (waiting : Waiting) (room : Bool) (to : ℕ) (queue : List StepMsg) (store : ℕ) → map.get (cond room (map.insert waiting to queue) waiting) store ≡ cond (eqb store to && room) (Some queue) (map.get waiting store)
get_sent waiting true to queue store = get-insert waiting to queue store ∙ by (eqb store to)
  where
    by : (b : Bool) → cond b (Some queue) (map.get waiting store) ≡ cond (b && true) (Some queue) (map.get waiting store)
    by true = refl
    by false = refl
get_sent waiting false to queue store = by (eqb store to)
  where
    by : (b : Bool) → map.get waiting store ≡ cond (b && false) (Some queue) (map.get waiting store)
    by true = refl
    by false = refl

message_stands : (lines : List Line) (waiting : Waiting) (past : List Event) (m : StepMsg) → AllStand lines waiting past → AllStand lines (with_message waiting m) (Sent m ∷ past)
message_stands lines waiting past m all store =
    let own = map.get waiting m.to in
    subst (λ (o : Option (List StepMsg)). Stands (acts_in lines store) o (kept_for lines store (Sent m ∷ past)) (taken_by store past)) (sym (get_sent waiting (has_room own) m.to (messages_in own ++ m ∷ []) store))
    (sent_by (eqb store m.to) (acts_in lines store) (map.get waiting store) own (kept_for lines store past) (taken_by store past) m (λ is. ap (map.get waiting) (sym (eq_of store m.to is))) (all store))

-- a store is answered
under : (m : StepMsg) (queue taken : List StepMsg) → reverse (m ∷ queue) ++ taken ≡ reverse queue ++ m ∷ taken
under m queue taken = ap (λ (k : List StepMsg). k ++ taken) (reverse-append (m ∷ []) queue) ∙ append_assoc (reverse queue) (m ∷ []) taken

given_by : (to acts : Bool) (o : Option (List StepMsg)) (kept taken : List StepMsg) (m : StepMsg) (queue : List StepMsg) → (to ≡ true → o ≡ Some (m ∷ queue)) → Stands acts o kept taken
    → Stands acts (cond to (Some queue) o) kept (cond to (m ∷ taken) taken)
given_by false acts o kept taken m queue is stands = stands
given_by true acts o kept taken m queue is stands = by acts (subst (λ (o : Option (List StepMsg)). Stands acts o kept taken) (is refl) stands)
  where
    by : (acts : Bool) → Stands acts (Some (m ∷ queue)) kept taken → Stands acts (Some queue) kept (m ∷ taken)
    by false stands = absurd stands
    by true stands = stands ∙ under m queue taken

left_stands : (lines : List Line) (waiting : Waiting) (past : List Event) (store : ℕ) (o : Option (List StepMsg)) → map.get waiting store ≡ o → AllStand lines waiting past
    → (other : ℕ) → Stands (acts_in lines other) (map.get (without_first o waiting store) other) (kept_for lines other past) (taken_by other (Answered store (first_of o) ∷ past))
left_stands lines waiting past store None is all other = all other
left_stands lines waiting past store (Some []) is all other = all other
left_stands lines waiting past store (Some (m ∷ queue)) is all other =
    subst (λ (o : Option (List StepMsg)). Stands (acts_in lines other) o (kept_for lines other past) (cond (eqb other store) (m ∷ taken_by other past) (taken_by other past))) (sym (get-insert waiting store queue other))
    (given_by (eqb other store) (acts_in lines other) (map.get waiting other) (kept_for lines other past) (taken_by other past) m queue (λ same. ap (map.get waiting) (eq_of other store same) ∙ is) (all other))

-- THE ANSWER IS DUE, AND NO OTHER IS
-- what has to be answered
IsDueOf : List StepMsg → List StepMsg → Option StepMsg → Type 0
IsDueOf kept taken None = kept ≡ taken
IsDueOf kept taken (Some m) = (newer : List StepMsg) × (kept ≡ newer ++ m ∷ taken)

due_of : (acts : Bool) (o : Option (List StepMsg)) (kept taken : List StepMsg) → Stands acts o kept taken → IsDueOf kept taken (first_of o)
unfolding IsDueOf
due_of false None kept taken stands = stands.0 ∙ sym stands.1
due_of true (Some []) kept taken stands = stands
due_of true (Some (m ∷ queue)) kept taken stands = (reverse queue, stands ∙ under m queue taken)
due_of false (Some queue) kept taken stands = absurd stands
due_of true None kept taken stands = absurd stands

last_same : (xs ys : List StepMsg) (x y : StepMsg) → xs ++ x ∷ [] ≡ ys ++ y ∷ [] → x ≡ y
last_same xs ys x y same = let turned : x ∷ reverse xs ≡ y ∷ reverse ys = sym (reverse-append xs (x ∷ [])) ∙ ap reverse same ∙ reverse-append ys (y ∷ []) in cc

longer : (xs ys zs : List StepMsg) (y : StepMsg) → xs ≡ zs → xs ≡ ys ++ y ∷ zs → ⊥
longer xs ys zs y same more = omega (arith, ap length same, ap length more, length-append ys (y ∷ zs))

only_due : (acts : Bool) (o : Option (List StepMsg)) (kept taken : List StepMsg) (answer : Option StepMsg) → Stands acts o kept taken → IsDueOf kept taken answer → answer ≡ first_of o
unfolding IsDueOf
only_due false None kept taken None stands due = refl
only_due false None kept taken (Some a) stands due = absurd (longer kept due.0 taken a (stands.0 ∙ sym stands.1) due.1)
only_due true (Some []) kept taken None stands due = refl
only_due true (Some []) kept taken (Some a) stands due = absurd (longer kept due.0 taken a stands due.1)
only_due true (Some (m ∷ queue)) kept taken None stands due = absurd (longer kept (reverse queue) taken m due (stands ∙ under m queue taken))
only_due true (Some (m ∷ queue)) kept taken (Some a) stands due =
    let same : (reverse queue ++ m ∷ []) ++ taken ≡ (due.0 ++ a ∷ []) ++ taken = append_assoc (reverse queue) (m ∷ []) taken ∙ sym (under m queue taken) ∙ sym stands ∙ due.1 ∙ sym (append_assoc due.0 (a ∷ []) taken) in
    ap Some (sym (last_same (reverse queue) due.0 m a (append_cancel_right (reverse queue ++ m ∷ []) (due.0 ++ a ∷ []) taken same)))
only_due false (Some queue) kept taken answer stands due = absurd stands
only_due true None kept taken answer stands due = absurd stands

to_due : (lines : List Line) (past : List Event) (store : ℕ) (answer : Option StepMsg) → IsDueOf (kept_for lines store past) (taken_by store past) answer → IsDue lines past store answer
unfolding IsDueOf
to_due lines past store None due = due
to_due lines past store (Some m) due = due

of_due : (lines : List Line) (past : List Event) (store : ℕ) (answer : Option StepMsg) → IsDue lines past store answer → IsDueOf (kept_for lines store past) (taken_by store past) answer
unfolding IsDueOf
of_due lines past store None due = due
of_due lines past store (Some m) due = due

-- ALL EVENTS
record IsKept (lines : List Line) (events : List Event) : Type 0 where
  stands : AllStand lines (streams_after (waiting_for lines) events) events
  ordered : AreInOrder lines events

kept_order : (lines : List Line) (events : List Event) → AreByStreams (waiting_for lines) events → IsKept lines events
kept_order lines [] by = record { stands = λ store. none_stand (acts_in lines store) (map.get (waiting_for lines) store) (opened_all map.empty lines store ∙ ap (λ (o : Option (List StepMsg)). cond (acts_in lines store) (Some []) o) (map.get-empty nat_cmp store)); ordered = tt }
kept_order lines (Sent m ∷ past) by =
    let before = kept_order lines past by in
    record { stands = message_stands lines (streams_after (waiting_for lines) past) past m before.stands; ordered = before.ordered }
kept_order lines (Answered store answer ∷ past) by =
    let before = kept_order lines past by.1 in
    let waiting : Waiting = streams_after (waiting_for lines) past in
    let o = map.get waiting store in
    record {
      stands = subst (λ (a : Option StepMsg). AllStand lines (left_by waiting store) (Answered store a ∷ past)) (sym by.0) (left_stands lines waiting past store o refl before.stands);
      ordered = (
        subst (IsDue lines past store) (sym by.0) (to_due lines past store (first_of o) (due_of (acts_in lines store) o (kept_for lines store past) (taken_by store past) (before.stands store))),
        before.ordered,
      );
    }

by_streams : (lines : List Line) (events : List Event) → AreInOrder lines events → AreByStreams (waiting_for lines) events
by_streams lines [] ordered = tt
by_streams lines (Sent m ∷ past) ordered = by_streams lines past ordered
by_streams lines (Answered store answer ∷ past) ordered =
    let rest = by_streams lines past ordered.1 in
    let before = kept_order lines past rest in (
      only_due (acts_in lines store) (map.get (streams_after (waiting_for lines) past) store) (kept_for lines store past) (taken_by store past) answer (before.stands store) (of_due lines past store answer ordered.0),
      rest,
    )

pub in_order : (lines : List Line) (events : List Event) → AreByStreams (waiting_for lines) events ↔ AreInOrder lines events
in_order lines events = ((λ by. (kept_order lines events by).ordered), by_streams lines events)

-- A REPLAY
-- what a driver's cluster sent and stores were answered is what its streams took in and gave
record Follows (lines : List Line) (d : ℕ) (state : State) (past : List Event) : Type 0 where
  journals : d < length state.kept.journals
  streams : d < length state.streams
  waits : waiting_at state d ≡ streams_after (waiting_for lines) past
  answered : AreByStreams (waiting_for lines) past

sent_waits : (opening : Waiting) (ms : List StepMsg) (past : List Event) → streams_after opening (with_sent ms past) ≡ with_messages (streams_after opening past) ms
sent_waits opening [] past = refl
sent_waits opening (m ∷ ms) past = sent_waits opening ms (Sent m ∷ past)

sent_answered : (opening : Waiting) (ms : List StepMsg) (past : List Event) → AreByStreams opening past → AreByStreams opening (with_sent ms past)
sent_answered opening [] past answered = answered
sent_answered opening (m ∷ ms) past answered = sent_answered opening ms (Sent m ∷ past) answered

module _ (lines : List Line) (d : ℕ) (state : State) (past : List Event) (f : Follows lines d state past) where
  asked_here : (n : ℕ) (request : Request) → Follows lines d (asked_line state n d request).after (with_sent (last_sends (past_at (asked_line state n d request).after.kept.journals d)) past)
  asked_here n request =
      let ms : List StepMsg = (served state.kept d n request).sends in
      let own : List Entry = served state.kept d n request ∷ past_at state.kept.journals d in
      let is : last_sends (past_at (asked_line state n d request).after.kept.journals d) ≡ ms = ap last_sends (get_or-set_same state.kept.journals d own [] f.journals) in
      subst (λ (sends : List StepMsg). Follows lines d (asked_line state n d request).after (with_sent sends past)) (sym is) (record {
        journals = omega (arith, f.journals, length-set state.kept.journals d own);
        streams = omega (arith, f.streams, length-set state.streams d (with_messages (waiting_at state d) ms));
        waits = get_or-set_same state.streams d (with_messages (waiting_at state d) ms) map.empty f.streams ∙ ap (λ (w : Waiting). with_messages w ms) f.waits ∙ sym (sent_waits (waiting_for lines) ms past);
        answered = sent_answered (waiting_for lines) ms past f.answered;
      })

  asked_apart : (n other : ℕ) (request : Request) → (d ≡ other → ⊥) → Follows lines d (asked_line state n other request).after past
  asked_apart n other request apart =
      let ms : List StepMsg = (served state.kept other n request).sends in
      record {
        journals = omega (arith, f.journals, length-set state.kept.journals other (served state.kept other n request ∷ past_at state.kept.journals other));
        streams = omega (arith, f.streams, length-set state.streams other (with_messages (waiting_at state other) ms));
        waits = get_or-set_other state.streams other d (with_messages (waiting_at state other) ms) map.empty apart ∙ f.waits;
        answered = f.answered;
      }

  popped_here : (store : ℕ) → Follows lines d (pop_line state store d).after (Answered store (oldest_in (waiting_at state d) store) ∷ past)
  popped_here store = record {
    journals = f.journals;
    streams = omega (arith, f.streams, length-set state.streams d (left_by (waiting_at state d) store));
    waits = get_or-set_same state.streams d (left_by (waiting_at state d) store) map.empty f.streams ∙ ap (λ (w : Waiting). left_by w store) f.waits;
    answered = (ap (λ (w : Waiting). oldest_in w store) f.waits, f.answered);
  }

  popped_apart : (store other : ℕ) → (d ≡ other → ⊥) → Follows lines d (pop_line state store other).after past
  popped_apart store other apart = record {
    journals = f.journals;
    streams = omega (arith, f.streams, length-set state.streams other (left_by (waiting_at state other) store));
    waits = get_or-set_other state.streams other d (left_by (waiting_at state other) store) map.empty apart ∙ f.waits;
    answered = f.answered;
  }

  asked_follows : (n other : ℕ) (request : Request) (b : Bool) → eqb other d ≡ b → Follows lines d (asked_line state n other request).after (cond b (with_sent (last_sends (past_at (asked_line state n other request).after.kept.journals d)) past) past)
  asked_follows n other request true is =
      subst (λ (k : ℕ). Follows lines d (asked_line state n k request).after (with_sent (last_sends (past_at (asked_line state n k request).after.kept.journals d)) past)) (sym (eq_of other d is)) (asked_here n request)
  asked_follows n other request false is = asked_apart n other request (λ same. let e : eqb d d ≡ false = subst (λ (k : ℕ). eqb k d ≡ false) (sym same) is in grind (arith, nat_tests))

  popped_follows : (store other : ℕ) (b : Bool) → eqb other d ≡ b → Follows lines d (pop_line state store other).after (cond b (Answered store (oldest_in (waiting_at state other) store) ∷ past) past)
  popped_follows store other true is =
      subst (λ (k : ℕ). Follows lines d (pop_line state store k).after (Answered store (oldest_in (waiting_at state k) store) ∷ past)) (sym (eq_of other d is)) (popped_here store)
  popped_follows store other false is = popped_apart store other (λ same. let e : eqb d d ≡ false = subst (λ (k : ℕ). eqb k d ≡ false) (sym same) is in grind (arith, nat_tests))

  oracle_follows : (line : Line) → Follows lines d (oracle_line state line).after past
  oracle_follows line =
      let e = driver_in line.actor in
      record {
        journals = omega (arith, f.journals, besides_len state.kept e line.number (asked_besides line.act (act_step state.oracle line.act).reply (lead_at state e)));
        streams = f.streams;
        waits = f.waits;
        answered = f.answered;
      }

  line_follows : (n : ℕ) (actor : Option Actor) (act : Act)
      → Follows lines d (line_step state (record { number = n; actor = actor; act = act })).after (with_line d act (line_step state (record { number = n; actor = actor; act = act })) past)
  line_follows n actor (Ask other request) = asked_follows n other request (eqb other d) refl
  line_follows n actor (Pop store other) = popped_follows store other (eqb other d) refl
  line_follows n actor act = oracle_follows (record { number = n; actor = actor; act = act })

all_follow : (lines : List Line) (d : ℕ) (rest : List Line) (state : State) (past : List Event) → Follows lines d state past → AreByStreams (waiting_for lines) (events_from d state rest past)
all_follow lines d [] state past f = f.answered
all_follow lines d (line ∷ rest) state past f =
    all_follow lines d rest (line_step state line).after (with_line d line.act (line_step state line) past) (line_follows lines d state past f line.number line.actor line.act)

same_at : {A : Type 0} (n : ℕ) (v any : A) (d : ℕ) → d < n → get_or (replicate n v) d any ≡ v
same_at zero v any d low = absurd (omega arith)
same_at (suc n) v any zero low = refl
same_at (suc n) v any (suc d) low = same_at n v any d (omega (arith, low))

start_follows : (drivers : ℕ) (lines : List Line) (d : ℕ) (state : State) → d ≤ drivers → length state.kept.journals ≡ drivers + 1 → state.streams ≡ replicate (drivers + 1) (waiting_for lines) → Follows lines d state []
start_follows drivers lines d state low journals streams = record {
  journals = omega (arith, low, journals);
  streams = omega (arith, low, ap length streams, length-replicate (drivers + 1) (waiting_for lines));
  waits = ap (λ (ws : List Waiting). get_or ws d map.empty) streams ∙ same_at (drivers + 1) (waiting_for lines) map.empty d (omega (arith, low));
  answered = tt;
}

pub replayed : (talks : List Talk) (script : Script) (driver : ℕ) → driver ≤ script.drivers → AreInOrder script.lines (events_at talks script driver)
replayed talks script driver low =
    (in_order script.lines (events_at talks script driver)).0
    (all_follow script.lines driver script.lines (start talks script) [] (start_follows script.drivers script.lines driver (start talks script) low (length-replicate (script.drivers + 1) []) refl))
