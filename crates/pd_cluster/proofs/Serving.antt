-- What a cluster that served a request means among the journals.
use Rattle.std.proofs.Common.{◌≡◌, ◌≤◌, ◌⊎◌, inl, inr, Bool, true, nat_eq, cond, take, map, subst, length-set, ℕ, zero, suc, ◌+◌, ◌<◌, List, [], ◌∷◌, ◌++◌, false, length, get_or, replicate, set, reverse, length-append, append_assoc, append-nil, Some, refl, sym, ap, ◌∙◌, arith}
use Rattle.std.specs.Borrow.{Bor}
use Rattle.std.specs.Prelude.{◌&&◌, not, is_some, option_copied, option_map, IfOk, OnOk, None, Option, Result, Ok, Err}
use Rattle.std.proofs.Math.Seq.{get_or-append_seam}
use Rattle.std.proofs.lemmas.List.{length-map, get_or-map, get_or-set_same, get_or-set_other, get_or_append_left, map-append, map-set, replicate-append-replicate, reverse-append}
use Rattle.std.proofs.lemmas.List.Elements.{All-push, All-set}
use Rattle.pd_types.proofs.Numbers.{other_number, same_number}
use Rattle.pd_types.specs.declared.oracle.Actor.{Actor}
use Rattle.pd_types.specs.declared.request.Request.{Request}
use Rattle.pd_types.specs.declared.request.Request.TheVariants as ask
use Rattle.pd_types.specs.declared.step.StepMsg.{StepMsg}
use Rattle.pd_state.specs.Clusters.{ClusterValue, Replays, Served, cluster_value}
use Rattle.pd_state.specs.Legal.{first_reply, sends_by}
use Rattle.pd_state.specs.Ctl.{resigns}
use Rattle.pd_state.specs.Since.{since, since_by}
use Rattle.pd_state.specs.State.{part_after, part_of}
use Rattle.pd_state.specs.BenchHeard.{dropped, names_heard, turns_of}
use Rattle.pd_state.specs.declared.heard.Heard.{Heard}
use Rattle.pd_state.specs.declared.part.Part.{Part}
use Rattle.sched_api.specs.Benches.{Seats}
use Rattle.pd_state.specs.declared.entry.Entry.{Entry}
use Rattle.pd_state.specs.declared.reply.Reply.{Reply}
use Rattle.meta_store.specs.declared.record.MetaAnswer.{MetaAnswer}
use Rattle.meta_store.specs.declared.record.MetaCall.{MetaCall}
use Rattle.meta_store.specs.declared.record.MetaEntry.{MetaEntry}
use Rattle.meta_store.specs.Asked.{AreAsked}
use Rattle.meta_store.specs.Doors.{said_of}
use Rattle.meta_store.specs.Past.{entry_of as meta_entry, noted, verdict_of}
use Rattle.pd_state.specs.Calls.{most_calls, next_call}
use Rattle.pd_state.specs.Heard.{heard_of, told_all}
use Rattle.pd_state.proofs.Few.{few_answers}
use Rattle.pd_cluster.specs.Clusters.{AreAlive, AreNumbered, HoweverTheyEnd, IsServedBy, journals_of, kept_of, past_of, spoken}
use Rattle.pd_cluster.specs.Metadata.{answer_to, answers_from, answers_to, with_answers, with_call}
use Rattle.pd_script.specs.declared.act.Line.{Line}
use Rattle.pd_script.specs.declared.script.Script.{Script}
use Rattle.tso_core.specs.Whole.{Whole}
use Rattle.tso_core.specs.declared.reply.Reply.{Reply as Answered}
use Rattle.pd_cluster.specs.declared.lead.BegunLead.{BegunLead}
use Rattle.pd_cluster.specs.Answers.{driver_in}
use Rattle.pd_cluster.specs.Streams.{Waiting, last_sends, with_messages}
use Rattle.pd_script.specs.Scripts.{asker}
use Rattle.pd_cluster.specs.Replay.{answers_at, heard_at, Kept, names_at, SaysEnough, State, gives_up, is_command, part_at, act_step, asked_besides, asked_line, begun, lead_after, lead_at, oracle_left, oracle_line, past_at, said_at, served, start, talk_after, waiting_at, with_besides, with_served}
use Rattle.pd_cluster.specs.Talks.{GoOn, Talk, talk_at, talk_left, talks_of}
use Rattle.pd_cluster.proofs.Benching.{HasNoBench, IsTalk, goes_same, goes_set, seated, silent_at, unseated}

-- an entry, by its parts
abbrev entry_of : Actor → ℕ → Request → Heard → List StepMsg → Reply → Entry
entry_of actor line request heard sends reply =
    record { actor = actor; line = line; request = request; answers = heard.answers; bench = heard.bench; names = heard.names; sends = sends; reply = reply }

-- the answers that the metadata gives to calls in a row
answers_given : List MetaEntry → ℕ → List MetaAnswer → List MetaAnswer
answers_given past driver [] = []
answers_given past driver (a ∷ answers) = answer_to past a.call ∷ answers_given (with_call past driver a.call) driver answers

said_more : (past : List MetaEntry) (driver : ℕ) (answers : List MetaAnswer) → said_of (with_answers past driver answers) ≡ said_of past ++ answers_given past driver answers
unfolding answers_given
said_more past driver [] = sym (append-nil (said_of past))
said_more past driver (a ∷ answers) = said_more (with_call past driver a.call) driver answers ∙ append_assoc (said_of past) (answer_to past a.call ∷ []) (answers_given (with_call past driver a.call) driver answers)

told_calls : (journal now : List MetaEntry) (driver : ℕ) (answers : List MetaAnswer) → Some now ≡ told_all (Some journal) driver answers → reverse now ≡ with_answers (reverse journal) driver answers
told_calls journal now driver [] is = let same : now ≡ journal = cc in ap reverse same
told_calls journal now driver (a ∷ answers) is =
    told_calls (noted journal driver a.call) now driver answers is
    ∙ ap (λ (past : List MetaEntry). with_answers past driver answers) (reverse-append journal (meta_entry driver a.call (verdict_of (reverse journal) a.call) ∷ []))

cons_same : (a b : MetaAnswer) (xs ys : List MetaAnswer) → a ∷ xs ≡ b ∷ ys → (a ≡ b) × (xs ≡ ys)
cons_same a b xs ys h = (cc, cc)

-- so they are the ones that follow from what was asked
asked_answers : (n : ℕ) (next : List MetaAnswer → Option MetaCall) (past : List MetaEntry) (driver : ℕ) (before answers : List MetaAnswer) (o : Option MetaCall) → o ≡ next before → length answers ≤ n → AreAsked next before answers
    → answers ≡ answers_given past driver answers → answers ≡ answers_from n next past driver before o
unfolding answers_given
asked_answers n next past driver before [] None o_is few asked given = refl
asked_answers n next past driver before [] (Some call) o_is few asked given = absurd (let both : Some call ≡ None = o_is ∙ asked in cc)
asked_answers n next past driver before (a ∷ answers) None o_is few asked given = absurd (let both : None ≡ Some a.call = o_is ∙ asked.0 in cc)
asked_answers zero next past driver before (a ∷ answers) (Some call) o_is few asked given = absurd (omega (arith, few))
asked_answers (suc n) next past driver before (a ∷ answers) (Some call) o_is few asked given =
    let same : call ≡ a.call = some_call call a.call (o_is ∙ asked.0) in
    let parts = cons_same a (answer_to past a.call) answers (answers_given (with_call past driver a.call) driver answers) given in
    let rest = asked_answers n next (with_call past driver a.call) driver (before ++ a ∷ []) answers (next (before ++ a ∷ [])) refl (omega (arith, few)) asked.1 parts.1 in
    ap (λ (x : MetaAnswer). x ∷ answers) parts.0
    ∙ ap (λ (l : List MetaAnswer). answer_to past a.call ∷ l) (rest ∙ ap (λ (x : MetaAnswer). answers_from n next (with_call past driver a.call) driver (before ++ x ∷ []) (next (before ++ x ∷ []))) parts.0)
    ∙ ap (λ (c : MetaCall). answers_from (suc n) next past driver before (Some c)) (sym same)
  where
    some_call : (a b : MetaCall) → Some a ≡ Some b → a ≡ b
    some_call a b h = cc

cancel : (xs ys zs : List MetaAnswer) → xs ++ ys ≡ xs ++ zs → ys ≡ zs
cancel [] ys zs h = h
cancel (x ∷ xs) ys zs h = cancel xs ys zs (cons_same x x (xs ++ ys) (xs ++ zs) h).1

module _ (old new : ClusterValue) (journal now : List MetaEntry) (bench_old bench_new : Seats) (actor : Actor) (line : ℕ) (request : Request) (reply : Reply)
    (s : Served old new (spoken journal now) bench_old bench_new actor line request reply) where
  abbrev part_before : Option Part
  part_before = part_after (past_of old)

  its_calls : reverse now ≡ with_answers (reverse journal) old.driver s.entry.answers
  its_calls = told_calls journal now old.driver s.entry.answers s.told

  its_answers : s.entry.answers ≡ answers_to (most_calls part_before request) (next_call part_before request s.entry.bench) (reverse journal) old.driver
  its_answers =
      let given : s.entry.answers ≡ answers_given (reverse journal) old.driver s.entry.answers =
      cancel (said_of (reverse journal)) s.entry.answers (answers_given (reverse journal) old.driver s.entry.answers) (sym s.said ∙ ap said_of its_calls ∙ said_more (reverse journal) old.driver s.entry.answers) in
      let few = few_answers part_before s.entry.request s.entry.bench s.entry.answers s.legal.asked in
      asked_answers (most_calls part_before s.entry.request) (next_call part_before s.entry.request s.entry.bench) (reverse journal) old.driver [] s.entry.answers (next_call part_before s.entry.request s.entry.bench []) refl few s.legal.asked given
      ∙ ap (λ (r : Request). answers_to (most_calls part_before r) (next_call part_before r s.entry.bench) (reverse journal) old.driver) s.request_is

  its_entry : s.entry ≡ entry_of actor line request (heard_of s.entry) s.entry.sends reply
  its_entry = λ i. entry_of (s.actor_is i) (s.line_is i) (s.request_is i) (heard_of s.entry) s.entry.sends (s.reply_is i)

  its_sends : s.entry.sends ≡ sends_by old.driver (past_of old) request reply (heard_of s.entry)
  its_sends = s.legal.sends_are ∙ (λ i. sends_by old.driver (past_of old) (s.request_is i) (s.reply_is i) (heard_of s.entry))

  its_past : past_of new ≡ s.entry ∷ past_of old
  its_past = ap reverse s.appended ∙ reverse-append old.entries (s.entry ∷ [])

  its_reply : reply ≡ first_reply old.driver part_before request (heard_of s.entry)
  its_reply = sym s.reply_is ∙ s.legal.reply_is ∙ ap (λ (r : Request). first_reply old.driver part_before r (heard_of s.entry)) s.request_is

-- what is kept, by its parts
abbrev pub kept_by : List ClusterValue → List MetaEntry → List Talk → Kept
kept_by items journal talks = record { journals = journals_of items; metadata = reverse journal; talks = talks }

module _ (items : List ClusterValue) (d : ℕ) (c new : ClusterValue) (journal now : List MetaEntry) (bench_old bench_new : Seats) (line : ℕ) (request : Request) (reply : Reply) (within : d < length items) (numbered : AreNumbered items)
    (s : Served (get_or items d c) new (spoken journal now) bench_old bench_new (asker d request) line request reply) where
  abbrev own : List Entry
  own = past_of (get_or items d c)

  here : past_at (journals_of items) d ≡ own
  here = get_or-map past_of items d c [] within

  driver_here : (get_or items d c).driver ≡ d
  driver_here = numbered d c within

  part_here : part_after own ≡ part_after (past_at (journals_of items) d)
  part_here = ap part_after (sym here)

  module _ (talks next : List Talk) (t : IsTalk talks next d (part_after own) s.entry) where
    abbrev kept : Kept
    kept = kept_by items journal talks

    names_here : s.entry.names ≡ names_at kept d request
    names_here = t.names ∙ ap (λ (r : Request). names_heard r (talk_at talks d).names) s.request_is

    said_here : s.entry.bench ≡ said_at kept d request
    said_here = t.said ∙ (λ i. take (turns_of (part_here i) (s.request_is i) (names_here i)) (talk_at talks d).said)

    pub served_turns : SaysEnough kept d request
    served_turns = ap length (sym said_here) ∙ s.legal.turns_are ∙ (λ i. turns_of (part_here i) (s.request_is i) (names_here i))

    answers_here : s.entry.answers ≡ answers_at kept d request
    answers_here = its_answers (get_or items d c) new journal now bench_old bench_new (asker d request) line request reply s
        ∙ (λ i. answers_to (most_calls (part_here i) request) (next_call (part_here i) request (said_here i)) (reverse journal) (driver_here i))

    heard_here : heard_of s.entry ≡ heard_at kept d request
    heard_here = λ i. record { answers = answers_here i; bench = said_here i; names = names_here i }

    pub served_reply : reply ≡ (served kept d line request).reply
    served_reply = its_reply (get_or items d c) new journal now bench_old bench_new (asker d request) line request reply s
        ∙ (λ i. first_reply (driver_here i) (part_here i) request (heard_here i))

    sends_here : s.entry.sends ≡ (served kept d line request).sends
    sends_here = its_sends (get_or items d c) new journal now bench_old bench_new (asker d request) line request reply s
        ∙ (λ i. sends_by (driver_here i) (sym here i) request (served_reply i) (heard_here i))

    entry_here : s.entry ≡ served kept d line request
    entry_here = its_entry (get_or items d c) new journal now bench_old bench_new (asker d request) line request reply s
        ∙ (λ i. entry_of (asker d request) line request (heard_here i) (sends_here i) (served_reply i))

    journals_here : journals_of (set items d new) ≡ set (journals_of items) d (served kept d line request ∷ past_at (journals_of items) d)
    journals_here = map-set past_of items d new
        ∙ ap (λ (p : List Entry). set (journals_of items) d p) (its_past (get_or items d c) new journal now bench_old bench_new (asker d request) line request reply s
        ∙ (λ i. entry_here i ∷ sym here i))

    metadata_here : reverse now ≡ with_answers (reverse journal) d (answers_at kept d request)
    metadata_here = its_calls (get_or items d c) new journal now bench_old bench_new (asker d request) line request reply s
        ∙ (λ i. with_answers (reverse journal) (driver_here i) (answers_here i))

    talks_here : next ≡ set talks d (talk_after kept d request)
    talks_here = t.after ∙ (λ i. set talks d (talk_left (talk_at talks d) (said_here i) (dropped (part_here i) (s.request_is i) (names_here i))))

    pub served_kept : kept_by (set items d new) now next ≡ with_served kept d line request
    served_kept = λ i. record { journals = journals_here i; metadata = metadata_here i; talks = talks_here i }

  pub served_alive : AreAlive items → AreAlive (set items d new)
  served_alive alive = All-set (λ cluster. cluster.dead ≡ false) items d new s.lives alive

  pub served_numbered : AreNumbered (set items d new)
  served_numbered e any low = by (nat_eq d e) refl
    where
      low_before : e < length items
      low_before = omega (arith, low, length-set items d new)

      by : (test : Bool) → nat_eq d e ≡ test → (get_or (set items d new) e any).driver ≡ e
      by true is =
          let one : d ≡ e = same_number d e is in
          ap (λ n. (get_or (set items d new) n any).driver) (sym one) ∙ ap (λ (v : ClusterValue). v.driver) (get_or-set_same items d new any within) ∙ s.driver_is ∙ numbered d c within ∙ one
      by false is = ap (λ (v : ClusterValue). v.driver) (get_or-set_other items d e new any (other_number d e is)) ∙ numbered e any low_before

-- what a request that was served means, over benches that are seen so and go on to these
pub record IsServed (items after : List ClusterValue) (journal now : List MetaEntry) (olds news ends : List Seats) (d line : ℕ) (request : Request) (reply : Reply) : Type 0 where
  pub replied : reply ≡ (served (kept_of items journal olds ends) d line request).reply
  pub kept : kept_of after now news ends ≡ with_served (kept_of items journal olds ends) d line request
  pub turns : SaysEnough (kept_of items journal olds ends) d request

module _ (items : List ClusterValue) (d : ℕ) (c new : ClusterValue) (journal now : List MetaEntry) (bench_old bench_new : Seats) (line : ℕ) (request : Request) (reply : Reply) (within : d < length items) (numbered : AreNumbered items)
    (s : Served (get_or items d c) new (spoken journal now) bench_old bench_new (asker d request) line request reply) where
  is_served : (olds news ends : List Seats) → IsTalk (talks_of (length items) olds ends) (talks_of (length items) news ends) d (part_after (past_of (get_or items d c))) s.entry → IsServed items (set items d new) journal now olds news ends d line request reply
  is_served olds news ends t = record {
    replied = served_reply items d c new journal now bench_old bench_new line request reply within numbered s (talks_of (length items) olds ends) (talks_of (length items) news ends) t;
    kept = ap (λ (n : ℕ). kept_by (set items d new) now (talks_of n news ends)) (length-set items d new)
        ∙ served_kept items d c new journal now bench_old bench_new line request reply within numbered s (talks_of (length items) olds ends) (talks_of (length items) news ends) t;
    turns = served_turns items d c new journal now bench_old bench_new line request reply within numbered s (talks_of (length items) olds ends) (talks_of (length items) news ends) t;
  }

  turns_here : length s.entry.bench ≡ turns_of (part_after (past_of (get_or items d c))) s.entry.request s.entry.names
  turns_here = s.legal.turns_are

  -- over the driver's own bench
  pub served_over : {B : Type 0} (f : B → Seats) (benches : List B) (k : ℕ) (one two : B) → suc k ≡ d → k < length benches → get_or benches k one ≡ one → f one ≡ bench_old → f two ≡ bench_new → HoweverTheyEnd (map f (set benches k two)) (λ ends. IsServed items (set items d new) journal now (map f benches) (map f (set benches k two)) ends d line request reply)
  served_over {B} f benches k one two place low at one_is two_is ends goes =
      let olds : List Seats = map f benches in
      let news_are : map f (set benches k two) ≡ set olds k bench_new = map-set f benches k two ∙ ap (λ (b : Seats). set olds k b) two_is in
      let low_olds : k < length olds = (let len = length-map benches f in omega (arith, low, len)) in
      let here : get_or olds k bench_old ≡ bench_old = get_or-map f benches k one bench_old low ∙ ap f at ∙ one_is in
      let talk = seated (length items) olds ends d k (part_after (past_of (get_or items d c))) s.entry bench_old bench_new place low_olds here s.bench turns_here (subst (λ (news : List Seats). GoOn news ends) news_are goes) in
      subst (λ (news : List Seats). IsServed items (set items d new) journal now olds news ends d line request reply) (sym news_are) (is_served olds (set olds k bench_new) ends talk)

  pub over_goes : {B : Type 0} (f : B → Seats) (benches : List B) (k : ℕ) (one two : B) → k < length benches → get_or benches k one ≡ one → f one ≡ bench_old → f two ≡ bench_new → GoOn (map f benches) (map f (set benches k two))
  over_goes {B} f benches k one two low at one_is two_is =
      let olds : List Seats = map f benches in
      let news_are : map f (set benches k two) ≡ set olds k bench_new = map-set f benches k two ∙ ap (λ (b : Seats). set olds k b) two_is in
      subst (λ (news : List Seats). GoOn olds news) (sym news_are) (goes_set olds k bench_old bench_new s.entry.bench (get_or-map f benches k one bench_old low ∙ ap f at ∙ one_is) s.bench.said)

  -- over one without schedulers
  pub served_alone : (olds ends : List Seats) → bench_old.list ≡ [] → HasNoBench olds d → IsServed items (set items d new) journal now olds olds ends d line request reply
  served_alone olds ends none seatless =
      is_served olds olds ends (unseated (talks_of (length items) olds ends) d (part_after (past_of (get_or items d c))) s.entry bench_old bench_new (silent_at (length items) olds ends d seatless) none s.bench turns_here)

-- what a cluster served is what its driver's cluster did
pub one_served : (items : List ClusterValue) (d : ℕ) (c new : ClusterValue) (journal now : List MetaEntry) (one two : Seats) (actor : Actor) (line : ℕ) (request : Request) (reply : Reply) → c ≡ get_or items d c → actor ≡ asker d request
    → Served c new (spoken journal now) one two actor line request reply → IsServedBy items (set items d new) journal now one two d line request reply
one_served items d c new journal now one two actor line request reply stood actor_is s = record {
  old = c;
  new = new;
  stood = stood;
  put = refl;
  served = subst (λ (a : Actor). Served c new (spoken journal now) one two a line request reply) actor_is s;
}

-- all of it, over benches that are seen so and go on to these
pub record IsServedOver (items after : List ClusterValue) (journal now : List MetaEntry) (olds news : List Seats) (d line : ℕ) (request : Request) (reply : Reply) : Type 0 where
  pub served : HoweverTheyEnd news (λ ends. IsServed items after journal now olds news ends d line request reply)
  pub goes : GoOn olds news
  pub alive : AreAlive items → AreAlive after
  pub numbered : AreNumbered after

pub over_all : {B : Type 0} (f : B → Seats) (items after : List ClusterValue) (d : ℕ) (journal now : List MetaEntry) (benches : List B) (k : ℕ) (one two : B) (line : ℕ) (request : Request) (reply : Reply) → d < length items → AreNumbered items
    → one ≡ get_or benches k one → k + 1 ≡ d → k < length benches → IsServedBy items after journal now (f one) (f two) d line request reply → IsServedOver items after journal now (map f benches) (map f (set benches k two)) d line request reply
over_all {B} f items after d journal now benches k one two line request reply within numbered one_is place low b =
    let t = subst (λ (old : ClusterValue). Served old b.new (spoken journal now) (f one) (f two) (asker d request) line request reply) b.stood b.served in
    subst (λ (list : List ClusterValue). IsServedOver items list journal now (map f benches) (map f (set benches k two)) d line request reply) (sym b.put) (record {
      served = served_over items d b.old b.new journal now (f one) (f two) line request reply within numbered t f benches k one two (omega (arith, place)) low (sym one_is) refl refl;
      goes = over_goes items d b.old b.new journal now (f one) (f two) line request reply within numbered t f benches k one two low (sym one_is) refl refl;
      alive = served_alive items d b.old b.new journal now (f one) (f two) line request reply within numbered t;
      numbered = served_numbered items d b.old b.new journal now (f one) (f two) line request reply within numbered t;
    })

pub alone_all : {B : Type 0} (f : B → Seats) (items after : List ClusterValue) (d : ℕ) (journal now : List MetaEntry) (benches : List B) (one two : Seats) (line : ℕ) (request : Request) (reply : Reply) → d < length items → AreNumbered items
    → one.list ≡ [] → (0 < d → length benches < d) → IsServedBy items after journal now one two d line request reply → IsServedOver items after journal now (map f benches) (map f benches) d line request reply
alone_all {B} f items after d journal now benches one two line request reply within numbered none seatless b =
    let t = subst (λ (old : ClusterValue). Served old b.new (spoken journal now) one two (asker d request) line request reply) b.stood b.served in
    let olds : List Seats = map f benches in
    subst (λ (list : List ClusterValue). IsServedOver items list journal now olds olds d line request reply) (sym b.put) (record {
      served = λ ends goes. served_alone items d b.old b.new journal now one two line request reply within numbered t olds ends none (λ some. (let few = seatless some in let len = length-map benches f in omega (arith, few, len)));
      goes = goes_same olds;
      alive = served_alive items d b.old b.new journal now one two line request reply within numbered t;
      numbered = served_numbered items d b.old b.new journal now one two line request reply within numbered t;
    })

-- from what an answer says to what it leaves
pub on_ok : {A E : Type 0} (r : Result A E) (P : A → Type 0) (Q : Type 0) → ((a : A) → P a → Q) → IfOk r P → OnOk r Q
on_ok (Ok a) P Q f said = f a said
on_ok (Err e) P Q f said = tt

pub on_value : {A E : Type 0} (r : Result A E) (P Q : A → Type 0) → ((a : A) → P a → Q a) → IfOk r P → IfOk r Q
on_value (Ok a) P Q f said = f a said
on_value (Err e) P Q f said = tt

pub on_both : {A E : Type 0} (r : Result A E) (P Q : Type 0) → (P → Q) → OnOk r P → OnOk r Q
on_both (Ok a) P Q f said = f said
on_both (Err e) P Q f said = tt

pub always : {A E : Type 0} (r : Result A E) (Q : Type 0) → Q → OnOk r Q
always (Ok a) Q said = said
always (Err e) Q said = tt

-- a place that is there, whatever stands for one that isn't
pub any_default : {A : Type 0} (xs : List A) (i : ℕ) (a b : A) → i < length xs → get_or xs i a ≡ get_or xs i b
any_default [] i a b within = absurd (omega (arith, within))
any_default (x ∷ xs) zero a b within = refl
any_default (x ∷ xs) (suc i) a b within = any_default xs i a b (omega (arith, within))

-- the state after a line of the oracle, from what the calls leave
pub line_is : (state : State) (line : Line) (reply : Answered) (d : ℕ) (lead next : Option BegunLead) (request : Option Request) (core : Whole) (leads : List (Option BegunLead)) (kept : Kept)
    → d ≡ driver_in line.actor → lead ≡ lead_at state (driver_in line.actor) → reply ≡ (act_step state.oracle line.act).reply → request ≡ asked_besides line.act reply lead
    → next ≡ lead_after line.act reply lead → core ≡ (act_step state.oracle line.act).after → leads ≡ set state.leads d next → kept ≡ with_besides state.kept d line.number request
    → (let after : State = record { oracle = core; leads = leads; kept = kept; streams = state.streams } in after) ≡ (oracle_line state line).after
line_is state line reply d lead next request core leads kept is_d is_lead is_reply is_request is_next is_core are_leads are_kept =
    rw (is_core, are_leads, are_kept, is_next, is_request, is_reply, is_lead, is_d) refl

-- one more cluster that was asked nothing
module _ (items : List ClusterValue) (n d : ℕ) (c : ClusterValue) (is : c ≡ cluster_value d [] false None) where
  pub journals_more : journals_of items ≡ replicate n [] → journals_of (items ++ c ∷ []) ≡ replicate (n + 1) []
  journals_more before = map-append past_of items (c ∷ []) ∙ ap (λ (js : List (List Entry)). js ++ past_of c ∷ []) before ∙ ap (λ (x : ClusterValue). replicate n [] ++ past_of x ∷ []) is ∙ replicate-append-replicate n 1 []

  pub alive_more : AreAlive items → AreAlive (items ++ c ∷ [])
  alive_more alive = All-push (λ cluster. cluster.dead ≡ false) items c alive (ap (λ (x : ClusterValue). x.dead) is)

  pub numbered_more : d ≡ length items → AreNumbered items → AreNumbered (items ++ c ∷ [])
  numbered_more last numbered e any low = by (order e (length items))
    where
      order : (a b : ℕ) → (a < b) ⊎ (b ≤ a)
      order a b = grind arith

      by : (e < length items) ⊎ (length items ≤ e) → (get_or (items ++ c ∷ []) e any).driver ≡ e
      by (inl less) = ap (λ (v : ClusterValue). v.driver) (get_or_append_left items (c ∷ []) any e less) ∙ numbered e any less
      by (inr more) =
          let at : e ≡ length items = omega (arith, low, length-append items (c ∷ [])) in
          ap (λ n. (get_or (items ++ c ∷ []) n any).driver) at ∙ ap (λ (v : ClusterValue). v.driver) (get_or-append_seam items c [] any) ∙ ap (λ (v : ClusterValue). v.driver) is ∙ last ∙ sym at

  pub count_more : length items ≡ n → length (items ++ c ∷ []) ≡ n + 1
  count_more before = omega (arith, length-append items (c ∷ []), before)

pub leads_more : (leads : List (Option BegunLead)) (n : ℕ) → leads ≡ replicate n None → leads ++ None ∷ [] ≡ replicate (n + 1) None
leads_more leads n before = ap (λ (ls : List (Option BegunLead)). ls ++ None ∷ []) before ∙ replicate-append-replicate n 1 None

-- the first state of a script
pub is_start : (talks : List Talk) (script : Script) (state : State) (lines : List Line) → state ≡ begun talks script.drivers script.clients lines → lines ≡ script.lines → state ≡ start talks script
is_start talks script state lines new is = new ∙ ap (begun talks script.drivers script.clients) is

-- the streams of one driver more
pub streams_more : (streams : List Waiting) (n : ℕ) (waiting one : Waiting) → streams ≡ replicate n waiting → one ≡ waiting → streams ++ one ∷ [] ≡ replicate (n + 1) waiting
streams_more streams n waiting one before is = ap (λ (ws : List Waiting). ws ++ one ∷ []) before ∙ ap (λ (w : Waiting). replicate n waiting ++ w ∷ []) is ∙ replicate-append-replicate n 1 waiting

-- a cluster that lives has a term where its journal says so
some_is : (r : Option (Bor Part)) (o : Option Part) → option_copied r ≡ o → is_some r ≡ is_some o
some_is None o is = ap is_some is
some_is (Some part) o is = ap is_some is

pub term_is : (items : List ClusterValue) (d : ℕ) (c : ClusterValue) (r : Option (Bor Part)) → d < length items → c ≡ get_or items d c → AreAlive items → (c.dead ≡ false → option_copied r ≡ c.part) → Replays c → is_some r ≡ is_some (part_after (past_at (journals_of items) d))
term_is items d c r within at alive value replays =
    let lives : c.dead ≡ false = ap (λ (v : ClusterValue). v.dead) at ∙ alive d c within in
    some_is r c.part (value lives) ∙ ap is_some (replays lives) ∙ ap (λ (p : List Entry). is_some (part_after p)) (ap past_of at ∙ sym (get_or-map past_of items d c [] within))

-- a command took the term of a cluster that had one
gave : (o : Option (List Entry)) (request : Request) (entry : Entry) → ((is_command request && is_some (option_map part_of o)) && not (is_some (option_map part_of (since_by request entry o)))) ≡ gives_up (option_map part_of o) request
gave None (ask.Ctl moment words) entry = refl
gave (Some es) (ask.Ctl moment words) entry = by (resigns words)
  where
    by : (t : Bool) → not (is_some (option_map part_of (cond t None (Some (entry ∷ es))))) ≡ t
    by true = refl
    by false = refl
gave None _ entry = refl
gave (Some es) _ entry = refl

pub gave_up_is : (kept : Kept) (journals : List (List Entry)) (d n : ℕ) (request : Request) → d < length kept.journals → journals ≡ (with_served kept d n request).journals
    → ((is_command request && is_some (part_at kept d)) && not (is_some (part_after (past_at journals d)))) ≡ gives_up (part_at kept d) request
gave_up_is kept journals d n request low is =
    let one : Entry = served kept d n request in
    let past : List Entry = past_at kept.journals d in
    ap (λ (p : List Entry). (is_command request && is_some (part_at kept d)) && not (is_some (part_after p))) (ap (λ (js : List (List Entry)). past_at js d) is ∙ get_or-set_same kept.journals d (one ∷ past) [] low) ∙ gave (since past) request one

-- what the last entry sent, once a request was served
pub sent_last : (items : List ClusterValue) (after kept : Kept) (d line : ℕ) (request : Request) (c : ClusterValue) → d < length items → d < length kept.journals → after.journals ≡ journals_of items → after ≡ with_served kept d line request
    → last_sends (past_of (get_or items d c)) ≡ (served kept d line request).sends
sent_last items after kept d line request c within low journals_is is =
    ap last_sends (sym (get_or-map past_of items d c [] within) ∙ ap (λ (js : List (List Entry)). past_at js d) (sym journals_is) ∙ ap (λ (k : Kept). past_at k.journals d) is ∙ get_or-set_same kept.journals d (served kept d line request ∷ past_at kept.journals d) [] low)

-- the state after a line that asks a cluster, from what the calls leave
pub asked_is : (state : State) (line d : ℕ) (request : Request) (items : List ClusterValue) (after : Kept) (c : ClusterValue) (core : Whole) (one new : Waiting) (streams : List Waiting) → d < length items → d < length state.kept.journals
    → core ≡ oracle_left state d request → after.journals ≡ journals_of items → after ≡ with_served state.kept d line request → one ≡ waiting_at state d → new ≡ with_messages one (last_sends (past_of (get_or items d c))) → streams ≡ set state.streams d new
    → (let left : State = record { oracle = core; leads = state.leads; kept = after; streams = streams } in left) ≡ (asked_line state line d request).after
asked_is state line d request items after c core one new streams within low core_is journals_is kept_is one_is new_is streams_is =
    let sends = sent_last items after state.kept d line request c within low journals_is kept_is in
    λ i. record {
      oracle = core_is i;
      leads = state.leads;
      kept = kept_is i;
      streams = (streams_is ∙ ap (λ (w : Waiting). set state.streams d w) (new_is ∙ ap (λ (w : Waiting). with_messages w (last_sends (past_of (get_or items d c)))) one_is ∙ ap (λ (ms : List StepMsg). with_messages (waiting_at state d) ms) sends)) i;
    }
