-- From what a wish and a scheduler's turn did over a door to what is said of the request.
use Rattle.std.proofs.Common.{refl, IfOk, ◌≡◌, ◌≢◌, ℕ, zero, suc, max, List, [], ◌∷◌, ◌++◌, length, map, take, drop, ap, append-nil, sym, ◌∙◌, subst, Option, Some, None}
use Rattle.std.specs.Prelude.{Result, Ok, Err, IfSome}
use Rattle.pd_types.specs.declared.memory.NoMemory.{NoMemory}
use Rattle.pd_types.specs.declared.proposal.Proposal.{Proposal}
use Rattle.pd_types.specs.declared.region.RegionBeat.{RegionBeat}
use Rattle.pd_types.specs.declared.request.Request.TheVariants as ask
use Rattle.pd_types.specs.declared.step.Step.{Step}
use Rattle.meta_store.specs.declared.record.Cell.{Cell}
use Rattle.meta_store.specs.declared.record.MetaAnswer.{MetaAnswer}
use Rattle.meta_store.specs.declared.record.MetaEntry.{MetaEntry}
use Rattle.op_control.specs.declared.operator.NewOp.{NewOp}
use Rattle.op_step.specs.Wishes.{FaultOf, Plan, plan_of}
use Rattle.op_step.specs.declared.wishes.BuildFault.{BuildFault}
use Rattle.op_step.specs.declared.wishes.BuildFault.TheVariants as faults
use Rattle.op_step.specs.declared.wishes.Wish.{Wish}
use Rattle.sched_api.specs.Benches.{Seat, Seats, TakesTurn, names_of}
use Rattle.sched_api.specs.declared.scheduler.Said.{Said}
use Rattle.pd_state.specs.Adding.{Adds, Around, Planning, Work, around_at, around_of, left_out, planning_of, replanned, work}
use Rattle.pd_state.specs.Asking.{Asking, Ear, Talks, and_then, done, ear}
use Rattle.pd_state.specs.BenchHeard.{Becomes, IsTold, asked_at, dropped, fate_told, one_turn}
use Rattle.pd_state.specs.Checking.{Deed, Does, idle}
use Rattle.pd_state.specs.Scheduling.{heed, proposed, schedule_of, scheduler}
use Rattle.pd_state.specs.Sends.{region_in}
use Rattle.pd_state.specs.Steps.{changed_part}
use Rattle.pd_state.specs.Wishing.{Tries, op_of, planned_or, region_of, try_wished, wish_of, wished, wished_by}
use Rattle.pd_state.specs.declared.adding.Adding.{Adding}
use Rattle.pd_state.specs.declared.adding.Adding.TheVariants as adding
use Rattle.pd_state.specs.declared.heard.Done.{Done}
use Rattle.pd_state.specs.declared.part.Part.{Part}
use Rattle.pd_state.specs.declared.patrol.Planned.{Planned}
use Rattle.pd_state.specs.declared.reply.Reply.{Reply}
use Rattle.pd_state.specs.declared.reply.Reply.TheVariants as replies
use Rattle.pd_state.specs.declared.sent.Sent.{Sent}
use Rattle.pd_state.specs.declared.wishing.Asker.{Asker}
use Rattle.pd_state.proofs.Asking.{talks_done, talks_then}
use Rattle.pd_state.proofs.Carried.{at_moment, known_is, planning_is, quiet_does}

-- a wish whose steps were built
abbrev built : RegionBeat → List Step → Result Planned Adding
built beat list = Ok (record { beat = beat; steps = list })

pub wished_ok : (around : Around) (region : ℕ) (wish : Wish) (beat copy : RegionBeat) (list : List Step) → region_in region around.held ≡ Some beat → plan_of wish beat around.stores around.now ≡ Ok list → copy ≡ beat → built copy list ≡ wished around region wish
wished_ok around region wish beat copy list held plan copy_is =
    ap (λ (b : RegionBeat). built b list) copy_is ∙ sym (ap (λ (o : Option RegionBeat). wished_by o around wish) held ∙ ap (planned_or beat) plan)

-- and one that has none, for another fault than want of memory
fault_is : (plan : Plan) (fault : BuildFault) → FaultOf plan fault → fault ≢ faults.NoMemory → plan ≡ Err fault
fault_is plan faults.UnknownStore h other = h
fault_is plan faults.NotUsable h other = h
fault_is plan faults.HasPeer h other = h
fault_is plan faults.NoPeer h other = h
fault_is plan faults.IsLeader h other = h
fault_is plan faults.NotVoter h other = h
fault_is plan faults.NoTarget h other = h
fault_is plan faults.NoMemory h other = absurd (other refl)

abbrev unbuilt : Adding → Result Planned Adding
unbuilt why = Err why

pub wished_err : (around : Around) (region : ℕ) (wish : Wish) (beat : RegionBeat) (fault : BuildFault) (why : Adding) → region_in region around.held ≡ Some beat → FaultOf (plan_of wish beat around.stores around.now) fault → fault ≢ faults.NoMemory → why ≡ adding.Build fault
    → unbuilt why ≡ wished around region wish
wished_err around region wish beat fault why held h other why_is =
    ap unbuilt why_is ∙ sym (ap (λ (o : Option RegionBeat). wished_by o around wish) held ∙ ap (planned_or beat) (fault_is (plan_of wish beat around.stores around.now) fault h other))

-- a wish that has no operator
pub tries_none : (around : Around) (asker : Asker) (found : Result Planned Adding) (planning : Planning) (sents : List Sent) (why : Adding) (driver : ℕ) (e : Ear) → found ≡ Err why → Tries around asker found planning planning sents sents why driver e e
tries_none around asker found planning sents why driver e is =
    subst (λ (f : Result Planned Adding). Tries around asker f planning planning sents sents why driver e e) (sym is)
    (record { sents = []; sent = sym (append-nil sents); talks = talks_done Work (left_out planning why) driver e })

-- one that has
pub tries_one : (around : Around) (asker : Asker) (found : Result Planned Adding) (planned : Planned) (op : NewOp) (old new : Planning) (sents_old sents_new : List Sent) (came : Adding) (driver : ℕ) (x y : Ear) → found ≡ Ok planned → op ≡ op_of asker planned
    → Adds around op planned.beat old new sents_old sents_new came driver x y → Tries around asker found old new sents_old sents_new came driver x y
tries_one around asker found planned op old new sents_old sents_new came driver x y is op_is a =
    let b = subst (λ (o : NewOp). Adds around o planned.beat old new sents_old sents_new came driver x y) op_is a in
    subst (λ (f : Result Planned Adding). Tries around asker f old new sents_old sents_new came driver x y) (sym is) (record { sents = b.sents; sent = b.sent; talks = b.talks })

-- wherever an answer is one
pub each_ok : {A : Type 0} (r : Result A NoMemory) (P Q : A → Type 0) → ((a : A) → P a → Q a) → IfOk r P → IfOk r Q
each_ok (Ok a) P Q f h = f a h
each_ok (Err e) P Q f h = tt

-- the deed of a request that left this
abbrev pub deed_at : Part → Done → Deed
deed_at new d = record { planning = planning_of new; stores = new.stores; sents = d.sents; reply = d.reply }

-- an operator that was tried, with the log that it began with, and what was made of it
pub work_does : (asking : Asking Work) (deed : Work → Deed) (known : List Cell) (new : Part) (d : Done) (came : Adding) (none more sents : List Sent) (quiet answers : List MetaAnswer) (driver : ℕ) (said_old said_new : List MetaAnswer) (told_old told_new : Option (List MetaEntry))
    → none ≡ [] → quiet ≡ [] → sents ≡ none ++ more → Talks Work asking (work (planning_of new) more came) driver (ear quiet known said_old told_old) (ear answers new.known said_new told_new)
    → deed (work (planning_of new) d.sents came) ≡ deed_at new d → d.sents ≡ sents → d.heard.answers ≡ answers
    → Does (and_then asking (λ w. done (deed w))) (planning_of new) new.stores d driver (ear [] known said_old told_old) (ear d.heard.answers new.known said_new told_new)
work_does asking deed known new d came none more sents quiet answers driver said_old said_new told_old told_new none_is quiet_is sent t deed_is sents_is heard_is =
    let sent_is : more ≡ d.sents = sym (sents_is ∙ sent ∙ ap (λ (l : List Sent). l ++ more) none_is) in
    let one : Talks Work asking (work (planning_of new) d.sents came) driver (ear [] known said_old told_old) (ear answers new.known said_new told_new) =
    subst (λ (l : List Sent). Talks Work asking (work (planning_of new) l came) driver (ear [] known said_old told_old) (ear answers new.known said_new told_new)) sent_is
    (subst (λ (l : List MetaAnswer). Talks Work asking (work (planning_of new) more came) driver (ear l known said_old told_old) (ear answers new.known said_new told_new)) quiet_is t) in
    let whole : Talks Deed (and_then asking (λ w. done (deed w))) (deed (work (planning_of new) d.sents came)) driver (ear [] known said_old told_old) (ear answers new.known said_new told_new) =
    talks_then Work Deed asking (λ w. done (deed w)) (work (planning_of new) d.sents came) (deed (work (planning_of new) d.sents came)) driver (ear [] known said_old told_old) (ear answers new.known said_new told_new) (ear answers new.known said_new told_new) one
    (talks_done Deed (deed (work (planning_of new) d.sents came)) driver (ear answers new.known said_new told_new)) in
    subst (λ (l : List MetaAnswer). Talks Deed (and_then asking (λ w. done (deed w))) (deed_at new d) driver (ear [] known said_old told_old) (ear l new.known said_new told_new)) (sym heard_is)
    (subst (λ (v : Deed). Talks Deed (and_then asking (λ w. done (deed w))) v driver (ear [] known said_old told_old) (ear answers new.known said_new told_new)) deed_is whole)

-- a scheduler that proposes nothing
pub heed_none : (around : Around) (planning : Planning) (one : Said) (name : List ℕ) → one.proposal ≡ None → name ≡ one.name → heed around planning one.name one.proposal ≡ done (idle around planning (replies.Silent name))
heed_none around planning one name is name_is = ap (heed around planning one.name) is ∙ ap (λ (n : List ℕ). let asking : Asking Deed = done (idle around planning (replies.Silent n)) in asking) (sym name_is)

heed_some : (around : Around) (planning : Planning) (one : Said) (proposal : Proposal) (name : List ℕ) (asker : Asker) (region : ℕ) (wish : Wish) (found : Result Planned Adding) → one.proposal ≡ Some proposal → name ≡ one.name → asker ≡ scheduler one.name → region ≡ region_of proposal
    → wish ≡ wish_of proposal → found ≡ wished around region wish
    → and_then (try_wished around asker planning found) (λ w. done (proposed around name proposal w)) ≡ heed around planning one.name one.proposal
heed_some around planning one proposal name asker region wish found is name_is asker_is region_is wish_is found_is =
    (λ i. and_then (try_wished around (asker_is i) planning ((found_is ∙ (λ j. wished around (region_is j) (wish_is j))) i)) (λ w. done (proposed around (name_is i) proposal w))) ∙ ap (heed around planning one.name) (sym is)

-- one that proposes a move
pub heed_does : (old new : Part) (one : Said) (proposal : Proposal) (name : List ℕ) (asker : Asker) (region : ℕ) (wish : Wish) (found : Result Planned Adding) (d : Done) (came : Adding) (none sents : List Sent) (quiet answers : List MetaAnswer) (driver : ℕ)
    (said_old said_new : List MetaAnswer) (told_old told_new : Option (List MetaEntry)) → one.proposal ≡ Some proposal → name ≡ one.name → asker ≡ scheduler one.name → region ≡ region_of proposal → wish ≡ wish_of proposal → found ≡ wished (around_of old) region wish
    → none ≡ [] → quiet ≡ [] → new ≡ replanned old (planning_of new) new.known
    → Tries (around_of old) asker found (planning_of old) (planning_of new) none sents came driver (ear quiet old.known said_old told_old) (ear answers new.known said_new told_new)
    → d.reply ≡ replies.Proposed name proposal came → d.sents ≡ sents → d.heard.answers ≡ answers
    → Does (heed (around_of old) (planning_of old) one.name one.proposal) (planning_of new) new.stores d driver (ear [] old.known said_old told_old) (ear d.heard.answers new.known said_new told_new)
heed_does old new one proposal name asker region wish found d came none sents quiet answers driver said_old said_new told_old told_new is name_is asker_is region_is wish_is found_is none_is quiet_is rest t reply_is sents_is heard_is =
    let stores : old.stores ≡ new.stores = sym (ap (λ (p : Part). p.stores) rest) in
    let deed_is : proposed (around_of old) name proposal (work (planning_of new) d.sents came) ≡ deed_at new d = λ i. record { planning = planning_of new; stores = stores i; sents = d.sents; reply = sym reply_is i } in
    subst (λ (a : Asking Deed). Does a (planning_of new) new.stores d driver (ear [] old.known said_old told_old) (ear d.heard.answers new.known said_new told_new))
    (heed_some (around_of old) (planning_of old) one proposal name asker region wish found is name_is asker_is region_is wish_is found_is)
    (work_does (try_wished (around_of old) asker (planning_of old) found) (λ w. proposed (around_of old) name proposal w) old.known new d came none t.sents sents quiet answers driver said_old said_new told_old told_new none_is quiet_is t.sent t.talks deed_is sents_is heard_is)

-- a turn, from what was heeded
pub turn_does : (old mid new : Part) (moment : ℕ) (one : Said) (said : List Said) (d : Done) (driver : ℕ) (said_old said_new : List MetaAnswer) (told_old told_new : Option (List MetaEntry)) → mid ≡ at_moment old moment → said ≡ one ∷ []
    → Does (heed (around_of mid) (planning_of mid) one.name one.proposal) (planning_of new) new.stores d driver (ear [] mid.known said_old told_old) (ear d.heard.answers new.known said_new told_new)
    → Does (schedule_of old moment said) (planning_of new) new.stores d driver (ear [] old.known said_old told_old) (ear d.heard.answers new.known said_new told_new)
turn_does old mid new moment one said d driver said_old said_new told_old told_new mid_is said_is t =
    subst (λ (l : List Said). Does (schedule_of old moment l) (planning_of new) new.stores d driver (ear [] old.known said_old told_old) (ear d.heard.answers new.known said_new told_new)) (sym said_is)
    (subst (λ (p : Part). Does (heed (around_of p) (planning_of p) one.name one.proposal) (planning_of new) new.stores d driver (ear [] p.known said_old told_old) (ear d.heard.answers new.known said_new told_new)) mid_is t)

-- it is one turn of the bench
filled : (list : List Seat) (next : ℕ) (one : Seat) (others : List Seat) → drop next list ++ take next list ≡ one ∷ others → one_turn (map (λ (seat : Seat). seat.name) list) ≡ 1
filled [] zero one others is = absurd cc
filled [] (suc next) one others is = absurd cc
filled (seat ∷ list) next one others is = refl

took_turn : (old new : Seats) (now : ℕ) (o : Option Said) (said : Said) → o ≡ Some said → IfSome o (TakesTurn old new now) → TakesTurn old new now said
took_turn old new now o said is h = subst (λ (x : Option Said). IfSome x (TakesTurn old new now)) is h

pub turn_counts : (old new : Seats) (now : ℕ) (o : Option Said) (said : Said) (list : List Said) (names : List (List ℕ)) → o ≡ Some said → IfSome o (TakesTurn old new now) → list ≡ said ∷ [] → names ≡ names_of old → length list ≡ one_turn names
turn_counts old new now o said list names is h list_is names_is =
    let t = took_turn old new now o said is h in
    ap length list_is ∙ sym (ap one_turn names_is ∙ filled old.list old.next t.one t.others t.turn)

-- the bench after a turn
pub turn_becomes : (old : Part) (moment clock : ℕ) (reply : Reply) (o : Option Said) (said : Said) (list : List Said) (names : List (List ℕ)) (before asked after : Seats) → o ≡ Some said → clock ≡ max old.clock moment → list ≡ said ∷ []
    → IfSome o (TakesTurn before asked clock) → IsTold (fate_told reply) asked after → Becomes (asked_at (Some old) (ask.Schedule moment)) (fate_told reply) list (dropped (Some old) (ask.Schedule moment) names) before after
turn_becomes old moment clock reply o said list names before asked after is clock_is list_is h told =
    subst (λ (l : List Said). Becomes (asked_at (Some old) (ask.Schedule moment)) (fate_told reply) l (dropped (Some old) (ask.Schedule moment) names) before after) (sym list_is)
    (record { asked = asked; turn = subst (λ (now : ℕ). TakesTurn before asked now said) clock_is (took_turn before asked clock o said is h); told = told })

-- a bench without schedulers
pub empty_does : (old mid : Part) (moment : ℕ) (said : List Said) (d : Done) (driver : ℕ) (spoken : List MetaAnswer) (told : Option (List MetaEntry)) → mid ≡ at_moment old moment → said ≡ [] → d.reply ≡ replies.NoScheduler → d.sents ≡ [] → d.heard.answers ≡ []
    → Does (schedule_of old moment said) (planning_of mid) mid.stores d driver (ear [] old.known spoken told) (ear d.heard.answers mid.known spoken told)
empty_does old mid moment said d driver spoken told mid_is said_is reply_is sents_is heard_is =
    subst (λ (l : List Said). Does (schedule_of old moment l) (planning_of mid) mid.stores d driver (ear [] old.known spoken told) (ear d.heard.answers mid.known spoken told)) (sym said_is)
    (subst (λ (p : Part). Does (schedule_of old moment []) (planning_of p) p.stores d driver (ear [] old.known spoken told) (ear d.heard.answers p.known spoken told)) (sym mid_is)
    (quiet_does (around_at old moment) (planning_of old) replies.NoScheduler (schedule_of old moment []) old.stores d driver old.known spoken told refl refl reply_is sents_is heard_is))

-- the tables after a turn
pub after_turn : (old mid new : Part) (moment driver : ℕ) (d : Done) (said_old said_new : List MetaAnswer) (told_old told_new : Option (List MetaEntry)) → mid ≡ at_moment old moment → new ≡ replanned mid (planning_of new) new.known
    → (t : Does (schedule_of old moment d.heard.bench) (planning_of new) new.stores d driver (ear [] old.known said_old told_old) (ear d.heard.answers new.known said_new told_new)) → new ≡ changed_part old (ask.Schedule moment) d.reply d.heard
after_turn old mid new moment driver d said_old said_new told_old told_new mid_is rest t =
    let planning = planning_is (schedule_of old moment d.heard.bench) old new moment driver d said_old said_new told_old told_new t in
    let known = known_is (schedule_of old moment d.heard.bench) old new moment driver d said_old said_new told_old told_new t in
    let last : replanned (at_moment old moment) (planning_of new) new.known ≡ changed_part old (ask.Schedule moment) d.reply d.heard = λ i. record {
      term = old.term;
      began = old.began;
      clock = max old.clock moment;
      stores = old.stores;
      standing = old.standing;
      rules = old.rules;
      known = known i;
      operators = (planning i).operators;
      limits = (planning i).limits;
      window = (planning i).window;
    } in
    rest ∙ ap (λ (p : Part). replanned p (planning_of new) new.known) mid_is ∙ last
