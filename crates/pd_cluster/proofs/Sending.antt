-- Each step that a replay prints was sent by an entry of its journals, which are legal, and is safe there.
use Rattle.std.proofs.Common.{refl, ◌≡◌, ◌≢◌, ℕ, zero, suc, ◌+◌, ◌<◌, ◌≤◌, ◌⊎◌, inl, inr, Bool, true, false, cond, eqb, List, [], ◌∷◌, ◌++◌, length, length-append, length-set, nat_eq, take, get_or, replicate, set, append_assoc, ap, sym, ◌∙◌, subst, Option, Some, None, arith}
use Rattle.std.specs.Prelude.{Contains, reverse}
use Rattle.std.specs.List.{AllByRecursion}
use Rattle.std.specs.FinMap as map
use Rattle.std.specs.Ordering.{nat_cmp}
use Rattle.std.proofs.lemmas.Bool.Decides.{nat_tests}
use Rattle.std.proofs.lemmas.List.{reverse-append}
use Rattle.pd_types.proofs.Numbers.{other_number, same_number}
use Rattle.pd_types.specs.declared.oracle.Actor.{Actor}
use Rattle.pd_types.specs.declared.oracle.Actor.TheVariants.{Driver, Client, Store}
use Rattle.pd_types.specs.declared.request.Request.{Request}
use Rattle.pd_types.specs.declared.request.Request.TheVariants as ask
use Rattle.pd_types.specs.declared.step.Step.{Step}
use Rattle.pd_types.specs.declared.step.StepMsg.{StepMsg}
use Rattle.id_map.proofs.Inserted.{get-insert}
use Rattle.meta_store.specs.Asked.{AreAsked}
use Rattle.meta_store.specs.declared.record.MetaAnswer.{MetaAnswer}
use Rattle.meta_store.specs.declared.record.MetaCall.{MetaCall}
use Rattle.meta_store.specs.declared.record.MetaEntry.{MetaEntry}
use Rattle.pd_script.specs.Lawful.{IsLawful}
use Rattle.pd_script.specs.declared.act.Act.{Act}
use Rattle.pd_script.specs.declared.act.Act.TheVariants.{Ask, Pop}
use Rattle.pd_script.specs.declared.act.Line.{Line}
use Rattle.tso_core.specs.declared.reply.Reply.{Reply as Answered}
use Rattle.tso_core.specs.declared.reply.Reply.TheVariants as answered
use Rattle.pd_state.specs.BenchHeard.{asks_names, names_heard, turns_of}
use Rattle.pd_state.specs.Calls.{most_calls, next_call}
use Rattle.pd_state.specs.Legal.{IsLegal, IsLegalAfter}
use Rattle.pd_state.specs.declared.entry.Entry.{Entry}
use Rattle.pd_state.specs.declared.part.Part.{Part}
use Rattle.pd_state.proofs.Few.{waits_few}
use Rattle.pd_cluster.specs.Answers.{Answer, driver_in}
use Rattle.pd_cluster.specs.Metadata.{answer_to, answers_from as calls_from, with_call}
use Rattle.pd_cluster.specs.Replay.{Kept, SaysEnough, SaysEnoughFor, State, TakeTurns, Turned, act_step, answers_from, asked_besides, asked_line, lead_after, lead_at, line_step, moment_of as line_moment, names_at, oracle_line, answers_at, part_at, past_at, pop_line, published_term, request_of, said_at, served, state_after, waiting_at, with_besides, with_served}
use Rattle.pd_cluster.specs.Talks.{talk_at}
use Rattle.pd_cluster.specs.declared.lead.BegunLead.{BegunLead}
use Rattle.pd_state.specs.StepTold.{TellsStep}
use Rattle.pd_cluster.specs.Sent.{AreMade, IsJustOf, IsSafeSaid, IsSafelySent, IsToldSafely, IsTurnOf, MakesIn, lead_behind}
use Rattle.pd_cluster.specs.Streams.{Waiting, first_of, has_room, messages_in, left_by, oldest_in, waiting_for, with_actor, with_actors, with_message, with_messages, without_first}
use Rattle.pd_cluster.specs.declared.said.Said.{Said}
use Rattle.pd_cluster.specs.declared.said.Said.TheVariants.{ByOracle, ByCluster, Popped}
use Rattle.pd_cluster.proofs.Sends.{IsOwn, later_sent, later_told, own_sent, own_told}

-- THE ENTRIES ARE LEGAL
-- the answers to calls that are made in turn, where no call comes behind so many
answers_asked : (n : ℕ) (next : List MetaAnswer → Option MetaCall) (past : List MetaEntry) (driver most : ℕ) → ((before : List MetaAnswer) (call : MetaCall) → next before ≡ Some call → length before < most) → (before : List MetaAnswer) (o : Option MetaCall) → o ≡ next before → most ≤ length before + n
    → AreAsked next before (calls_from n next past driver before o)
answers_asked n next past driver most low before None is room = sym is
answers_asked zero next past driver most low before (Some call) is room = absurd (let less = low before call (sym is) in omega (arith, less, room))
answers_asked (suc n) next past driver most low before (Some call) is room =
    let len = length-append before (answer_to past call ∷ []) in
    (sym is, answers_asked n next (with_call past driver call) driver most low (before ++ answer_to past call ∷ []) (next (before ++ answer_to past call ∷ [])) refl (omega (arith, len, room)))

-- the names that a request hears are those that it asks for
names_same : (request : Request) (names : List (List ℕ)) → names_heard request names ≡ names_heard request (names_heard request names)
names_same request names = by (asks_names request)
  where
    by : (b : Bool) → cond b names [] ≡ cond b (cond b names []) []
    by true = refl
    by false = refl

-- the answers that the metadata gives are to the calls that the request makes
pub served_asked : (kept : Kept) (d : ℕ) (request : Request) → AreAsked (next_call (part_at kept d) request (said_at kept d request)) [] (answers_at kept d request)
served_asked kept d request =
    let part = part_at kept d in
    let said = said_at kept d request in
    answers_asked (most_calls part request) (next_call part request said) kept.metadata d (most_calls part request) (waits_few part request said) [] (next_call part request said []) refl (omega arith)

pub served_legal : (kept : Kept) (d n : ℕ) (request : Request) → SaysEnough kept d request → IsLegalAfter d (past_at kept.journals d) (served kept d n request)
served_legal kept d n request enough = record {
  reply_is = refl;
  asked = served_asked kept d request;
  turns_are = enough;
  names_are = names_same request (talk_at kept.talks d).names;
  sends_are = refl;
}

-- the request lets no scheduler take a turn
abbrev pub IsTurnless : Request → Type 0
IsTurnless request = (part : Option Part) (names : List (List ℕ)) → turns_of part request names ≡ 0

-- so it is with a request besides a line of the oracle's
abbrev pub AreTurnless : Option Request → Type 0
AreTurnless None = Unit {0}
AreTurnless (Some request) = IsTurnless request

-- each request does but Schedule
pub turnless : (request : Request) → ((moment : ℕ) → request ≢ ask.Schedule moment) → IsTurnless request
turnless (ask.Schedule moment) other part names = absurd (other moment refl)
turnless _ other None names = refl
turnless _ other (Some part) names = refl

pub term_turnless : (term moment : ℕ) → IsTurnless (ask.Term term moment)
term_turnless term moment = turnless (ask.Term term moment) (λ m h. cc)

pub retire_turnless : IsTurnless ask.Retire
retire_turnless = turnless ask.Retire (λ m h. cc)

published_turnless : (hi : ℕ) (lead : Option BegunLead) → AreTurnless (published_term hi lead)
published_turnless hi None = tt
published_turnless hi (Some lead) = by (nat_eq hi 0)
  where
    by : (t : Bool) → AreTurnless (cond t None (Some (ask.Term lead.term lead.moment)))
    by true = tt
    by false = term_turnless lead.term lead.moment

pub besides_turnless : (act : Act) (reply : Answered) (lead : Option BegunLead) → AreTurnless (asked_besides act reply lead)
besides_turnless act (answered.Won term lo hi) lead = term_turnless term (line_moment act)
besides_turnless act (answered.Published hi) lead = published_turnless hi lead
besides_turnless act (answered.Lost found) lead = retire_turnless
besides_turnless act answered.Resigned lead = retire_turnless
besides_turnless act _ lead = tt

-- so nothing is said for it
pub nothing_said : (kept : Kept) (d : ℕ) (request : Request) → IsTurnless request → said_at kept d request ≡ []
nothing_said kept d request none = ap (λ (n : ℕ). take n (talk_at kept.talks d).said) (none (part_at kept d) (names_at kept d request))

turnless_enough : (kept : Kept) (d : ℕ) (request : Request) → IsTurnless request → SaysEnough kept d request
turnless_enough kept d request none = ap length (nothing_said kept d request none) ∙ sym (none (part_at kept d) (names_at kept d request))

abbrev EnoughOr : Kept → ℕ → Option Request → Type 0
EnoughOr kept d None = Unit {0}
EnoughOr kept d (Some request) = SaysEnough kept d request

besides_enough : (kept : Kept) (d : ℕ) (o : Option Request) → AreTurnless o → EnoughOr kept d o
besides_enough kept d None none = tt
besides_enough kept d (Some request) none = turnless_enough kept d request none

-- a request that is served sends safely, and tells what it sent
module _ (kept : Kept) (d n : ℕ) (request : Request) (enough : SaysEnough kept d request) (legal : IsLegal d (past_at kept.journals d)) where
  abbrev one : Entry
  one = served kept d n request

  abbrev past : List Entry
  past = past_at kept.journals d

  served_sent : (m : StepMsg) → Contains one.sends m → IsOwn d (one ∷ past) m
  served_sent m has = own_sent d past one legal (served_legal kept d n request enough) m has

  served_told : (step : Step) → TellsStep one.reply step → IsToldSafely (one ∷ past) n one.reply
  served_told step is = own_told d past one legal (served_legal kept d n request enough) step is

-- WHAT WAS SENT STAYS SENT
-- each journal has more entries, or the same ones
pub record Grows (old new : List (List Entry)) (d : ℕ) : Type 0 where
  pub more : List Entry
  pub is : past_at new d ≡ more ++ past_at old d

abbrev pub AllGrow : List (List Entry) → List (List Entry) → Type 0
AllGrow old new = (d : ℕ) → Grows old new d

grows_none : (js : List (List Entry)) → AllGrow js js
grows_none js d = record { more = []; is = refl }

grows_on : (a b c : List (List Entry)) → AllGrow a b → AllGrow b c → AllGrow a c
grows_on a b c first next d =
    let one = first d in
    let two = next d in
    record { more = two.more ++ one.more; is = two.is ∙ ap (λ (j : List Entry). two.more ++ j) one.is ∙ sym (append_assoc two.more one.more (past_at a d)) }

sent_grows : (old new : List (List Entry)) (d : ℕ) (m : StepMsg) → Grows old new d → IsSafelySent (past_at old d) m → IsSafelySent (past_at new d) m
sent_grows old new d m g s = subst (λ (j : List Entry). IsSafelySent j m) (sym g.is) (later_sent g.more (past_at old d) m s)

said_grows : (old new : List (List Entry)) → AllGrow old new → (line : Line) (answer : Answer) → IsSafeSaid (past_at old) line answer.said → IsSafeSaid (past_at new) line answer.said
said_grows old new grows line answer = by answer.said
  where
    by : (said : Said) → IsSafeSaid (past_at old) line said → IsSafeSaid (past_at new) line said
    by (ByOracle reply) h = tt
    by (ByCluster reply) h = λ step told.
        let one = h step told in
        let g = grows one.driver in
        record {
          driver = one.driver;
          request = one.request;
          asked = one.asked;
          told = subst (λ (j : List Entry). IsToldSafely j line.number reply) (sym g.is) (later_told g.more (past_at old one.driver) line.number reply one.told);
        }
    by (Popped None) h = tt
    by (Popped (Some m)) h = (h.0, sent_grows old new m.driver m (grows m.driver) h.1)

-- A place of a list with one element in place of another: the new one, or what stood there
pub put_at : {A : Type 0} (xs : List A) (d e : ℕ) (v any : A) → (get_or (set xs d v) e any ≡ get_or xs e any) ⊎ ((e ≡ d) × (get_or (set xs d v) e any ≡ v))
put_at [] d e v any = inl refl
put_at (x ∷ xs) zero zero v any = inr (refl, refl)
put_at (x ∷ xs) zero (suc e) v any = inl refl
put_at (x ∷ xs) (suc d) zero v any = inl refl
put_at (x ∷ xs) (suc d) (suc e) v any = elim (put_at xs d e v any) [ inl same ↦ inl same | inr put ↦ inr (ap suc put.0, put.1) ]

put_here : {A : Type 0} (xs : List A) (d : ℕ) (v any : A) → d < length xs → get_or (set xs d v) d any ≡ v
put_here [] d v any low = absurd (omega (arith, low))
put_here (x ∷ xs) zero v any low = refl
put_here (x ∷ xs) (suc d) v any low = put_here xs d v any (omega (arith, low))

-- THE MESSAGES THAT WAIT
abbrev pub AllWait : (ℕ → StepMsg → Type 0) → Waiting → Type 0
AllWait P waiting = (store : ℕ) (list : List StepMsg) → map.get waiting store ≡ Some list → AllByRecursion (P store) list

all_more : {A : Type 0} (P Q : A → Type 0) (xs : List A) → ((x : A) → P x → Q x) → AllByRecursion P xs → AllByRecursion Q xs
all_more P Q [] f all = tt
all_more P Q (x ∷ xs) f all = (f x all.0, all_more P Q xs f all.1)

all_push : {A : Type 0} (P : A → Type 0) (xs : List A) (x : A) → AllByRecursion P xs → P x → AllByRecursion P (xs ++ x ∷ [])
all_push P [] x all one = (one, tt)
all_push P (y ∷ xs) x all one = (all.0, all_push P xs x all.1 one)

weaker_wait : (P Q : ℕ → StepMsg → Type 0) (waiting : Waiting) → ((store : ℕ) (m : StepMsg) → P store m → Q store m) → AllWait P waiting → AllWait Q waiting
weaker_wait P Q waiting f all store list is = all_more (P store) (Q store) list (f store) (all store list is)

some_list : (a b : List StepMsg) → Some a ≡ Some b → a ≡ b
some_list a b h = cc

same_key : (a b : ℕ) → eqb a b ≡ true → a ≡ b
same_key a b h = grind (arith, nat_tests)

insert_wait : (P : ℕ → StepMsg → Type 0) (waiting : Waiting) (k : ℕ) (list : List StepMsg) → AllWait P waiting → AllByRecursion (P k) list → AllWait P (map.insert waiting k list)
insert_wait P waiting k list all one store found is = by (eqb store k) refl (sym (get-insert waiting k list store) ∙ is)
  where
    by : (t : Bool) → eqb store k ≡ t → cond t (Some list) (map.get waiting store) ≡ Some found → AllByRecursion (P store) found
    by true key at = subst (λ (s : ℕ). AllByRecursion (P s) found) (sym (same_key store k key)) (subst (AllByRecursion (P k)) (some_list list found at) one)
    by false key at = all store found at

in_wait : (P : ℕ → StepMsg → Type 0) (waiting : Waiting) (store : ℕ) (o : Option (List StepMsg)) → map.get waiting store ≡ o → AllWait P waiting → AllByRecursion (P store) (messages_in o)
in_wait P waiting store None is all = tt
in_wait P waiting store (Some list) is all = all store list is

message_wait : (P : ℕ → StepMsg → Type 0) (waiting : Waiting) (m : StepMsg) → AllWait P waiting → P m.to m → AllWait P (with_message waiting m)
message_wait P waiting m all one = by (has_room (map.get waiting m.to))
  where
    by : (t : Bool) → AllWait P (cond t (map.insert waiting m.to (messages_in (map.get waiting m.to) ++ m ∷ [])) waiting)
    by true = insert_wait P waiting m.to (messages_in (map.get waiting m.to) ++ m ∷ []) all (all_push (P m.to) (messages_in (map.get waiting m.to)) m (in_wait P waiting m.to (map.get waiting m.to) refl all) one)
    by false = all

messages_wait : (P : ℕ → StepMsg → Type 0) (waiting : Waiting) (ms : List StepMsg) → AllWait P waiting → AllByRecursion (λ (m : StepMsg). P m.to m) ms → AllWait P (with_messages waiting ms)
messages_wait P waiting [] all sent = all
messages_wait P waiting (m ∷ ms) all sent = messages_wait P (with_message waiting m) ms (message_wait P waiting m all sent.0) sent.1

taken_wait : (P : ℕ → StepMsg → Type 0) (waiting : Waiting) (store : ℕ) (o : Option (List StepMsg)) → map.get waiting store ≡ o → AllWait P waiting → AllWait P (without_first o waiting store)
taken_wait P waiting store None is all = all
taken_wait P waiting store (Some []) is all = all
taken_wait P waiting store (Some (m ∷ ms)) is all = insert_wait P waiting store ms all (all store (m ∷ ms) is).1

first_waits : (P : ℕ → StepMsg → Type 0) (waiting : Waiting) (store : ℕ) (o : Option (List StepMsg)) → map.get waiting store ≡ o → AllWait P waiting → (m : StepMsg) → first_of o ≡ Some m → P store m
first_waits P waiting store None is all m first = absurd cc
first_waits P waiting store (Some []) is all m first = absurd cc
first_waits P waiting store (Some (one ∷ ms)) is all m first = subst (P store) (let same : one ≡ m = cc in same) (all store (one ∷ ms) is).0

actor_wait : (P : ℕ → StepMsg → Type 0) (waiting : Waiting) (actor : Option Actor) → AllWait P waiting → AllWait P (with_actor waiting actor)
actor_wait P waiting None all = all
actor_wait P waiting (Some (Driver driver)) all = all
actor_wait P waiting (Some (Client client)) all = all
actor_wait P waiting (Some (Store store)) all = insert_wait P waiting store [] all tt

actors_wait : (P : ℕ → StepMsg → Type 0) (waiting : Waiting) (lines : List Line) → AllWait P waiting → AllWait P (with_actors waiting lines)
actors_wait P waiting [] all = all
actors_wait P waiting (line ∷ lines) all = actors_wait P (with_actor waiting line.actor) lines (actor_wait P waiting line.actor all)

none_wait : (P : ℕ → StepMsg → Type 0) → AllWait P map.empty
none_wait P store list is = absurd (let both : None ≡ Some list = sym (map.get-empty nat_cmp store) ∙ is in cc)

-- WHAT HOLDS OF A STATE
pub record IsWaiting (js : List (List Entry)) (d store : ℕ) (m : StepMsg) : Type 0 where
  pub driver : m.driver ≡ d
  pub to : m.to ≡ store
  pub sent : IsSafelySent (past_at js d) m

pub record IsSound (drivers : ℕ) (state : State) : Type 0 where
  pub places : drivers < length state.kept.journals
  pub leads_are : drivers < length state.leads
  pub legal : (d : ℕ) → IsLegal d (past_at state.kept.journals d)
  pub waits : (d : ℕ) → AllWait (IsWaiting state.kept.journals d) (waiting_at state d)

waiting_grows : (old new : List (List Entry)) (d store : ℕ) (m : StepMsg) → Grows old new d → IsWaiting old d store m → IsWaiting new d store m
waiting_grows old new d store m g w = record { driver = w.driver; to = w.to; sent = sent_grows old new d m g w.sent }

-- a request that is served
module _ (kept : Kept) (d n : ℕ) (request : Request) (enough : SaysEnough kept d request) (legal : (e : ℕ) → IsLegal e (past_at kept.journals e)) where
  abbrev after : Kept
  after = with_served kept d n request

  abbrev behind_it : List Entry
  behind_it = served kept d n request ∷ past_at kept.journals d

  served_grows : AllGrow kept.journals after.journals
  served_grows e = elim (put_at kept.journals d e behind_it []) [
    | inl same ↦ record { more = []; is = same }
    | inr put ↦ record { more = served kept d n request ∷ []; is = put.1 ∙ ap (λ (k : ℕ). served kept d n request ∷ past_at kept.journals k) (sym put.0) }
  ]

  served_all : (e : ℕ) → IsLegal e (past_at after.journals e)
  served_all e = elim (put_at kept.journals d e behind_it []) [
    | inl same ↦ subst (IsLegal e) (sym same) (legal e)
    | inr put ↦ subst (λ (k : ℕ). IsLegal k (past_at after.journals e)) (sym put.0) (subst (IsLegal d) (sym put.1) (served_legal kept d n request enough, legal d))
  ]

  own_waits : (m : StepMsg) → d < length kept.journals → Contains (served kept d n request).sends m → IsWaiting after.journals d m.to m
  own_waits m low has =
      let own = served_sent kept d n request enough (legal d) m has in
      record { driver = own.driver; to = refl; sent = subst (λ (j : List Entry). IsSafelySent j m) (sym (put_here kept.journals d behind_it [] low)) own.sent }

all_each : {A : Type 0} (P : A → Type 0) (xs : List A) → ((x : A) → Contains xs x → P x) → AllByRecursion P xs
all_each P [] f = tt
all_each P (x ∷ xs) f = (f x (0, omega arith, refl), all_each P xs (λ y has. f y (suc has.0, omega (arith, has.1), has.2)))

-- WHICH ENTRIES ARE MADE
-- a journal has these more, the latest first, of which this holds as the line makes them
pub record Makes (old new : List (List Entry)) (d : ℕ) (lead : Option BegunLead) (line : Line) (said : Said) : Type 0 where
  pub more : List Entry
  pub is : past_at new d ≡ more ++ past_at old d
  pub made : MakesIn d lead line said (reverse more)

-- a request that a line asks of a cluster
module _ (kept : Kept) (d n : ℕ) (actor : Option Actor) (request : Request) (within : d < length kept.journals) where
  abbrev it : Entry
  it = served kept d n request

  abbrev asking : Line
  asking = record { number = n; actor = actor; act = Ask d request }

  asked_makes : (e : ℕ) (lead : Option BegunLead) → Makes kept.journals (with_served kept d n request).journals e lead asking (ByCluster it.reply)
  asked_makes e lead = by (nat_eq d e) refl
    where
      by : (t : Bool) → nat_eq d e ≡ t → Makes kept.journals (with_served kept d n request).journals e lead asking (ByCluster it.reply)
      by true same = record {
        more = it ∷ [];
        is = subst (λ (k : ℕ). past_at (with_served kept d n request).journals k ≡ it ∷ past_at kept.journals k) (same_number d e same) (put_here kept.journals d (it ∷ past_at kept.journals d) [] within);
        made = subst (λ (t : Bool). IsJustOf t n request it.reply (it ∷ [])) (sym same) (record { entry = it; one = refl; line_is = refl; request_is = refl; reply_is = refl });
      }
      by false other = record {
        more = [];
        is = elim (put_at kept.journals d e (it ∷ past_at kept.journals d) []) [
          | inl same ↦ same
          | inr put ↦ absurd (other_number d e other put.0)
        ];
        made = subst (λ (t : Bool). IsJustOf t n request it.reply []) (sym other) refl;
      }

-- the entry of what is asked besides, in the journal of the driver that is asked
pub record MakesOwn (kept : Kept) (d n : ℕ) (o : Option Request) : Type 0 where
  pub more : List Entry
  pub is : past_at (with_besides kept d n o).journals d ≡ more ++ past_at kept.journals d
  pub made : IsTurnOf n o (reverse more)

own_makes : (kept : Kept) (d n : ℕ) (o : Option Request) → d < length kept.journals → MakesOwn kept d n o
own_makes kept d n None within = record { more = []; is = refl; made = refl }
own_makes kept d n (Some request) within =
    let it = served kept d n request in
    record { more = it ∷ []; is = put_here kept.journals d (it ∷ past_at kept.journals d) [] within; made = (it.reply, record { entry = it; one = refl; line_is = refl; request_is = refl; reply_is = refl }) }

others_keep : (kept : Kept) (d n e : ℕ) (o : Option Request) → nat_eq d e ≡ false → past_at (with_besides kept d n o).journals e ≡ past_at kept.journals e
others_keep kept d n e None other = refl
others_keep kept d n e (Some request) other = elim (put_at kept.journals d e (served kept d n request ∷ past_at kept.journals d) []) [
  | inl same ↦ same
  | inr put ↦ absurd (other_number d e other put.0)
]

-- what a line at the oracle makes of a driver's journal and of its lead
module _ (state : State) (line : Line) (reply : Answered) where
  abbrev own : ℕ
  own = driver_in line.actor

  abbrev asks : ℕ → Option Request
  asks e = asked_besides line.act reply (lead_at state e)

  besides_makes : own < length state.kept.journals → (e : ℕ) → Makes state.kept.journals (with_besides state.kept own line.number (asks own)).journals e (lead_at state e) line (ByOracle reply)
  besides_makes within e = by (nat_eq own e) refl
    where
      by : (t : Bool) → nat_eq own e ≡ t → Makes state.kept.journals (with_besides state.kept own line.number (asks own)).journals e (lead_at state e) line (ByOracle reply)
      by true same =
          let it = own_makes state.kept own line.number (asks own) within in
          record {
            more = it.more;
            is = subst (λ (k : ℕ). past_at (with_besides state.kept own line.number (asks own)).journals k ≡ it.more ++ past_at state.kept.journals k) (same_number own e same) it.is;
            made = subst (λ (t : Bool). IsTurnOf line.number (cond t (asks e) None) (reverse it.more)) (sym same)
                (subst (λ (k : ℕ). IsTurnOf line.number (asks k) (reverse it.more)) (same_number own e same) it.made);
          }
      by false other = record {
        more = [];
        is = others_keep state.kept own line.number e (asks own) other;
        made = subst (λ (t : Bool). IsTurnOf line.number (cond t (asks e) None) []) (sym other) refl;
      }

  lead_moves : own < length state.leads → (e : ℕ) → get_or (set state.leads own (lead_after line.act reply (lead_at state own))) e None ≡ lead_behind e (lead_at state e) line (ByOracle reply)
  lead_moves within e = by (nat_eq own e) refl
    where
      new : Option BegunLead
      new = lead_after line.act reply (lead_at state own)

      by : (t : Bool) → nat_eq own e ≡ t → get_or (set state.leads own new) e None ≡ cond (nat_eq own e) (lead_after line.act reply (lead_at state e)) (lead_at state e)
      by true same = subst (λ (t : Bool). get_or (set state.leads own new) e None ≡ cond t (lead_after line.act reply (lead_at state e)) (lead_at state e)) (sym same)
          (subst (λ (k : ℕ). get_or (set state.leads own new) k None ≡ lead_after line.act reply (lead_at state k)) (same_number own e same) (put_here state.leads own new None within))
      by false other = subst (λ (t : Bool). get_or (set state.leads own new) e None ≡ cond t (lead_after line.act reply (lead_at state e)) (lead_at state e)) (sym other)
          (elim (put_at state.leads own e new None) [ inl same ↦ same | inr put ↦ absurd (other_number own e other put.0) ])

-- what a line leaves and prints
record IsSoundTurn (drivers : ℕ) (state : State) (line : Line) (turned : Turned) : Type 0 where
  sound : IsSound drivers turned.after
  grows : AllGrow state.kept.journals turned.after.kept.journals
  makes : (e : ℕ) → Makes state.kept.journals turned.after.kept.journals e (lead_at state e) line turned.said
  leads : (e : ℕ) → lead_at turned.after e ≡ lead_behind e (lead_at state e) line turned.said
  safe : IsSafeSaid (past_at turned.after.kept.journals) line turned.said

module _ (drivers : ℕ) (state : State) (n d : ℕ) (actor : Option Actor) (request : Request) (enough : SaysEnough state.kept d request) (s : IsSound drivers state) (low : d ≤ drivers) where
  abbrev old_js : List (List Entry)
  old_js = state.kept.journals

  abbrev new_js : List (List Entry)
  new_js = (with_served state.kept d n request).journals

  abbrev sent_to : Waiting
  sent_to = with_messages (waiting_at state d) (served state.kept d n request).sends

  kept_waits : (e : ℕ) → AllWait (IsWaiting new_js e) (waiting_at state e)
  kept_waits e = weaker_wait (IsWaiting old_js e) (IsWaiting new_js e) (waiting_at state e) (λ store m w. waiting_grows old_js new_js e store m (served_grows state.kept d n request enough s.legal e) w) (s.waits e)

  new_waits : AllWait (IsWaiting new_js d) sent_to
  new_waits = messages_wait (IsWaiting new_js d) (waiting_at state d) (served state.kept d n request).sends (kept_waits d)
      (all_each (λ (m : StepMsg). IsWaiting new_js d m.to m) (served state.kept d n request).sends (λ m has. own_waits state.kept d n request enough s.legal m (let places = s.places in omega (arith, low, places)) has))

  sent_waits : (e : ℕ) → (get_or (set state.streams d sent_to) e map.empty ≡ waiting_at state e) ⊎ ((e ≡ d) × (get_or (set state.streams d sent_to) e map.empty ≡ sent_to)) → AllWait (IsWaiting new_js e) (get_or (set state.streams d sent_to) e map.empty)
  sent_waits e (inl same) = subst (AllWait (IsWaiting new_js e)) (sym same) (kept_waits e)
  sent_waits e (inr put) = subst (AllWait (IsWaiting new_js e)) (sym put.1) (subst (λ (k : ℕ). AllWait (IsWaiting new_js k) sent_to) (sym put.0) new_waits)

  asked_sound : IsSoundTurn drivers state (record { number = n; actor = actor; act = Ask d request }) (asked_line state n d request)
  asked_sound =
      let places = s.places in
      let within : d < length old_js = omega (arith, low, places) in
      let len = length-set old_js d (served state.kept d n request ∷ past_at old_js d) in
      record {
        sound = record {
          places = omega (arith, places, len);
          leads_are = s.leads_are;
          legal = served_all state.kept d n request enough s.legal;
          waits = λ e. sent_waits e (put_at state.streams d e sent_to map.empty);
        };
        grows = served_grows state.kept d n request enough s.legal;
        makes = λ e. asked_makes state.kept d n actor request within e (lead_at state e);
        leads = λ e. refl;
        safe = λ step told. record {
          driver = d;
          request = request;
          asked = refl;
          told = subst (λ (j : List Entry). IsToldSafely j n (served state.kept d n request).reply) (sym (put_here old_js d (served state.kept d n request ∷ past_at old_js d) [] within))
              (served_told state.kept d n request enough (s.legal d) step told);
        };
      }

module _ (drivers : ℕ) (state : State) (n store d : ℕ) (actor : Option Actor) (s : IsSound drivers state) where
  abbrev js : List (List Entry)
  js = state.kept.journals

  abbrev left : Waiting
  left = left_by (waiting_at state d) store

  left_waits : (e : ℕ) → (get_or (set state.streams d left) e map.empty ≡ waiting_at state e) ⊎ ((e ≡ d) × (get_or (set state.streams d left) e map.empty ≡ left)) → AllWait (IsWaiting js e) (get_or (set state.streams d left) e map.empty)
  left_waits e (inl same) = subst (AllWait (IsWaiting js e)) (sym same) (s.waits e)
  left_waits e (inr put) = subst (AllWait (IsWaiting js e)) (sym put.1) (subst (λ (k : ℕ). AllWait (IsWaiting js k) left) (sym put.0) (taken_wait (IsWaiting js d) (waiting_at state d) store (map.get (waiting_at state d) store) refl (s.waits d)))

  taken_safely : (o : Option StepMsg) → oldest_in (waiting_at state d) store ≡ o → IsSafeSaid (past_at js) (record { number = n; actor = actor; act = Pop store d }) (Popped o)
  taken_safely None is = tt
  taken_safely (Some m) is =
      let w = first_waits (IsWaiting js d) (waiting_at state d) store (map.get (waiting_at state d) store) refl (s.waits d) m is in
      ((λ i. Pop (sym w.to i) (sym w.driver i)), subst (λ (k : ℕ). IsSafelySent (past_at js k) m) (sym w.driver) w.sent)

  pop_sound : IsSoundTurn drivers state (record { number = n; actor = actor; act = Pop store d }) (pop_line state store d)
  pop_sound = record {
    sound = record { places = s.places; leads_are = s.leads_are; legal = s.legal; waits = λ e. left_waits e (put_at state.streams d e left map.empty) };
    grows = grows_none js;
    makes = λ e. record { more = []; is = refl; made = refl };
    leads = λ e. refl;
    safe = taken_safely (oldest_in (waiting_at state d) store) refl;
  }

-- what is asked besides
besides_grows : (kept : Kept) (d n : ℕ) (o : Option Request) → EnoughOr kept d o → ((e : ℕ) → IsLegal e (past_at kept.journals e)) → AllGrow kept.journals (with_besides kept d n o).journals
besides_grows kept d n None enough legal = grows_none kept.journals
besides_grows kept d n (Some request) enough legal = served_grows kept d n request enough legal

besides_all : (kept : Kept) (d n : ℕ) (o : Option Request) → EnoughOr kept d o → ((e : ℕ) → IsLegal e (past_at kept.journals e)) → (e : ℕ) → IsLegal e (past_at (with_besides kept d n o).journals e)
besides_all kept d n None enough legal = legal
besides_all kept d n (Some request) enough legal = served_all kept d n request enough legal

pub besides_len : (kept : Kept) (d n : ℕ) (o : Option Request) → length (with_besides kept d n o).journals ≡ length kept.journals
besides_len kept d n None = refl
besides_len kept d n (Some request) = length-set kept.journals d (served kept d n request ∷ past_at kept.journals d)

oracle_sound : (drivers : ℕ) (state : State) (line : Line) → driver_in line.actor ≤ drivers → IsSound drivers state → IsSoundTurn drivers state line (oracle_line state line)
oracle_sound drivers state line low s =
    let d = driver_in line.actor in
    let o = asked_besides line.act (act_step state.oracle line.act).reply (lead_at state d) in
    let enough = besides_enough state.kept d o (besides_turnless line.act (act_step state.oracle line.act).reply (lead_at state d)) in
    let grows = besides_grows state.kept d line.number o enough s.legal in
    record {
      sound = record {
        places = omega (arith, s.places, besides_len state.kept d line.number o);
        leads_are = omega (arith, s.leads_are, length-set state.leads d (lead_after line.act (act_step state.oracle line.act).reply (lead_at state d)));
        legal = besides_all state.kept d line.number o enough s.legal;
        waits = λ e. weaker_wait (IsWaiting state.kept.journals e) (IsWaiting (with_besides state.kept d line.number o).journals e) (waiting_at state e)
            (λ store m w. waiting_grows state.kept.journals (with_besides state.kept d line.number o).journals e store m (grows e) w) (s.waits e);
      };
      grows = grows;
      makes = besides_makes state line (act_step state.oracle line.act).reply (omega (arith, low, s.places));
      leads = lead_moves state line (act_step state.oracle line.act).reply (omega (arith, low, s.leads_are));
      safe = tt;
    }

turn_sound : (drivers clients : ℕ) (state : State) (n : ℕ) (actor : Option Actor) (act : Act) → IsLawful drivers clients act → driver_in actor ≤ drivers → SaysEnoughFor state (request_of act) → IsSound drivers state
    → IsSoundTurn drivers state (record { number = n; actor = actor; act = act }) (line_step state (record { number = n; actor = actor; act = act }))
turn_sound drivers clients state n actor (Ask d request) lawful low enough s = asked_sound drivers state n d actor request enough s lawful.0.high
turn_sound drivers clients state n actor (Pop store d) lawful low enough s = pop_sound drivers state n store d actor s
turn_sound drivers clients state n actor _ lawful low enough s = oracle_sound drivers state _ low s

-- ALL LINES
-- a journal has these more, the latest first, made by the answers of these lines
pub record AllMade (state : State) (lines : List Line) (d : ℕ) : Type 0 where
  pub more : List Entry
  pub is : past_at (state_after state lines).kept.journals d ≡ more ++ past_at state.kept.journals d
  pub made : AreMade d (lead_at state d) (answers_from state lines) (reverse more)

pub record IsPrinted (state : State) (lines : List Line) : Type 0 where
  pub made : (d : ℕ) → AllMade state lines d
  pub grows : AllGrow state.kept.journals (state_after state lines).kept.journals
  pub legal : (d : ℕ) → IsLegal d (past_at (state_after state lines).kept.journals d)
  pub safe : AllByRecursion (λ (answer : Answer). IsSafeSaid (past_at (state_after state lines).kept.journals) answer.line answer.said) (answers_from state lines)

pub printed : (drivers clients : ℕ) (lines : List Line) (state : State) → AllByRecursion (λ (line : Line). IsLawful drivers clients line.act) lines
    → AllByRecursion (λ (line : Line). driver_in line.actor ≤ drivers) lines → TakeTurns state lines → IsSound drivers state → IsPrinted state lines
printed drivers clients [] state lawful low turns s = record { made = λ d. record { more = []; is = refl; made = refl }; grows = grows_none state.kept.journals; legal = s.legal; safe = tt }
printed drivers clients (line ∷ lines) state lawful low turns s =
    let turn = turn_sound drivers clients state line.number line.actor line.act lawful.0 low.0 turns.0 s in
    let next : State = (line_step state line).after in
    let rest = printed drivers clients lines next lawful.1 low.1 turns.1 turn.sound in
    record {
      made = λ d.
          let one = turn.makes d in
          let two = rest.made d in
          record {
            more = two.more ++ one.more;
            is = two.is ∙ ap (λ (j : List Entry). two.more ++ j) one.is ∙ sym (append_assoc two.more one.more (past_at state.kept.journals d));
            made = (reverse one.more, reverse two.more, reverse-append two.more one.more, one.made, subst (λ (lead : Option BegunLead). AreMade d lead (answers_from next lines) (reverse two.more)) (turn.leads d) two.made);
          };
      grows = grows_on state.kept.journals next.kept.journals (state_after next lines).kept.journals turn.grows rest.grows;
      legal = rest.legal;
      safe = (said_grows next.kept.journals (state_after next lines).kept.journals rest.grows line (record { line = line; said = (line_step state line).said }) turn.safe, rest.safe);
    }

-- before the first line
all_same : {A : Type 0} (n : ℕ) (v any : A) (e : ℕ) → (get_or (replicate n v) e any ≡ v) ⊎ (get_or (replicate n v) e any ≡ any)
all_same zero v any e = inr refl
all_same (suc n) v any zero = inl refl
all_same (suc n) v any (suc e) = all_same n v any e

pub none_at_first : (drivers d : ℕ) → past_at (replicate (drivers + 1) []) d ≡ []
none_at_first drivers d = elim (all_same (drivers + 1) [] [] d) [ inl same ↦ same | inr same ↦ same ]

pub no_lead_at_first : (drivers d : ℕ) (state : State) → state.leads ≡ replicate (drivers + 1) None → lead_at state d ≡ None
no_lead_at_first drivers d state leads = ap (λ (ls : List (Option BegunLead)). get_or ls d None) leads ∙ elim (all_same (drivers + 1) None None d) [ inl same ↦ same | inr same ↦ same ]

pub start_sound : (drivers : ℕ) (lines : List Line) (state : State) → length state.kept.journals ≡ drivers + 1 → length state.leads ≡ drivers + 1 → state.kept.journals ≡ replicate (drivers + 1) []
    → state.streams ≡ replicate (drivers + 1) (waiting_for lines) → IsSound drivers state
start_sound drivers lines state len many journals streams = record {
  places = omega (arith, len);
  leads_are = omega (arith, many);
  legal = λ d. subst (IsLegal d) (sym (ap (λ (js : List (List Entry)). past_at js d) journals ∙ none_at_first drivers d)) tt;
  waits = λ d. subst (AllWait (IsWaiting state.kept.journals d)) (sym (ap (λ (ws : List Waiting). get_or ws d map.empty) streams)) (by d (all_same (drivers + 1) (waiting_for lines) map.empty d));
}
  where
    by : (d : ℕ) → (get_or (replicate (drivers + 1) (waiting_for lines)) d map.empty ≡ waiting_for lines) ⊎ (get_or (replicate (drivers + 1) (waiting_for lines)) d map.empty ≡ map.empty)
        → AllWait (IsWaiting state.kept.journals d) (get_or (replicate (drivers + 1) (waiting_for lines)) d map.empty)
    by d (inl h) = subst (AllWait (IsWaiting state.kept.journals d)) (sym h) (actors_wait (IsWaiting state.kept.journals d) map.empty lines (none_wait (IsWaiting state.kept.journals d)))
    by d (inr h) = subst (AllWait (IsWaiting state.kept.journals d)) (sym h) (none_wait (IsWaiting state.kept.journals d))
