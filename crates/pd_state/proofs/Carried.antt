-- From what a check or a patrol did over a door to what is said of the request.
use Rattle.std.proofs.Common.{refl, IfOk, ◌≡◌, ℕ, max, false, List, [], ◌++◌, ap, sym, ◌∙◌, subst, Option, Some, None}
use Rattle.std.specs.Prelude.{Result, Ok, Err}
use Rattle.pd_types.specs.declared.memory.NoMemory.{NoMemory}
use Rattle.pd_types.specs.declared.region.RegionBeat.{RegionBeat}
use Rattle.pd_types.specs.declared.request.Request.TheVariants as ask
use Rattle.pd_types.specs.declared.step.Step.{Step}
use Rattle.store_table.specs.declared.entry.StoreEntry.{StoreEntry}
use Rattle.meta_store.specs.declared.record.Cell.{Cell}
use Rattle.meta_store.specs.declared.record.MetaAnswer.{MetaAnswer}
use Rattle.meta_store.specs.declared.record.MetaEntry.{MetaEntry}
use Rattle.meta_store.specs.Asked.{AreAsked}
use Rattle.op_control.specs.declared.operator.NewOp.{NewOp}
use Rattle.rule_checker.specs.declared.class.Class.{Class}
use Rattle.rule_checker.specs.Told.{Told, Plans}
use Rattle.pd_state.specs.Adding.{Adds, Around, Planning, around_at, around_of, planning_of, replanned, work}
use Rattle.pd_state.specs.Asking.{Asking, Ear, Talks, done, ear, hearing, wanted}
use Rattle.pd_state.specs.Checking.{Burial, Deed, Does, Round, burial_at, bury_all, check_held, check_of, check_op, check_told, deed_of, first_round, idle, patrol, patrol_deed, patrol_of, patrolled, plans_in, round_at, planned, surveyed, sweep, told_in}
use Rattle.pd_state.specs.Heard.{known_after, told_all}
use Rattle.pd_state.specs.Sends.{region_in}
use Rattle.pd_state.specs.Steps.{changed_part}
use Rattle.pd_state.specs.declared.burial.Burial.{Burial as CodeBurial}
use Rattle.pd_state.specs.declared.heard.Done.{Done}
use Rattle.pd_state.specs.declared.adding.Adding.{Adding}
use Rattle.pd_state.specs.declared.part.Part.{Part}
use Rattle.pd_state.specs.declared.patrol.Planned.{Planned}
use Rattle.pd_state.specs.declared.patrol.Round.{Round as CodeRound}
use Rattle.pd_state.specs.declared.patrol.Survey.{Survey}
use Rattle.pd_state.specs.declared.reply.Reply.{Reply}
use Rattle.pd_state.specs.declared.reply.Reply.TheVariants as replies
use Rattle.pd_state.specs.declared.sent.Sent.{Sent}
use Rattle.pd_state.proofs.Asking.{talks_done}
use Rattle.pd_state.proofs.Deeds.{did, did_ask, patrol_did, told_plan}

-- the deed of a request that left this
abbrev deed_at : Part → Done → Deed
deed_at new d = record { planning = planning_of new; stores = new.stores; sents = d.sents; reply = d.reply }

-- the tables with the clock at the request's moment
abbrev pub at_moment : Part → ℕ → Part
at_moment old moment = record old { clock = max old.clock moment }

-- a request that only replied
pub quiet_does : (around : Around) (planning : Planning) (reply : Reply) (asking : Asking Deed) (stores : List StoreEntry) (d : Done) (driver : ℕ) (known : List Cell) (said : List MetaAnswer) (told : Option (List MetaEntry))
    → asking ≡ done (idle around planning reply) → stores ≡ around.stores → d.reply ≡ reply → d.sents ≡ [] → d.heard.answers ≡ [] → Does asking planning stores d driver (ear [] known said told) (ear d.heard.answers known said told)
quiet_does around planning reply asking stores d driver known said told asking_is stores_is reply_is sents_is heard_is =
    let value : idle around planning reply ≡ record { planning = planning; stores = stores; sents = d.sents; reply = d.reply } = λ i. record { planning = planning; stores = sym stores_is i; sents = sym sents_is i; reply = sym reply_is i } in
    subst (λ (l : List MetaAnswer). Talks Deed asking (record { planning = planning; stores = stores; sents = d.sents; reply = d.reply }) driver (ear [] known said told) (ear l known said told)) (sym heard_is)
    (subst (λ (v : Deed). Talks Deed asking v driver (ear [] known said told) (ear [] known said told)) value
    (subst (λ (a : Asking Deed). Talks Deed a (idle around planning reply) driver (ear [] known said told) (ear [] known said told)) (sym asking_is)
    (talks_done Deed (idle around planning reply) driver (ear [] known said told))))

-- a plan whose operator was tried
pub plan_does : (old new : Part) (beat : RegionBeat) (class : Class) (list : List Step) (from to : ℕ) (d : Done) (came : Adding) (sents : List Sent) (answers : List MetaAnswer) (driver : ℕ) (said_old said_new : List MetaAnswer) (told_old told_new : Option (List MetaEntry))
    → new ≡ replanned old (planning_of new) new.known
    → Adds (around_of old) (check_op beat list) beat (planning_of old) (planning_of new) [] sents came driver (ear [] old.known said_old told_old) (ear answers new.known said_new told_new)
    → d.reply ≡ replies.Plan class from to came → d.sents ≡ sents → d.heard.answers ≡ answers
    → Does (check_told (around_of old) beat (planning_of old) (Plans class list from to)) (planning_of new) new.stores d driver (ear [] old.known said_old told_old) (ear d.heard.answers new.known said_new told_new)
plan_does old new beat class list from to d came sents answers driver said_old said_new told_old told_new rest a reply_is sents_is heard_is =
    let asking : Asking Deed = check_told (around_of old) beat (planning_of old) (Plans class list from to) in
    let whole = told_plan (around_of old) beat (planning_of old) class list from to (work (planning_of new) a.sents came) driver (ear [] old.known said_old told_old) (ear answers new.known said_new told_new) a.talks in
    let stores : old.stores ≡ new.stores = sym (ap (λ (p : Part). p.stores) rest) in
    let sent : a.sents ≡ d.sents = sym (sents_is ∙ a.sent) in
    let value : planned (around_of old) class from to (work (planning_of new) a.sents came) ≡ deed_at new d = λ i. record { planning = planning_of new; stores = stores i; sents = sent i; reply = sym reply_is i } in
    subst (λ (l : List MetaAnswer). Talks Deed asking (deed_at new d) driver (ear [] old.known said_old told_old) (ear l new.known said_new told_new)) (sym heard_is)
    (subst (λ (v : Deed). Talks Deed asking v driver (ear [] old.known said_old told_old) (ear answers new.known said_new told_new)) value whole)

-- a region that isn't held
pub check_absent : (old : Part) (moment region : ℕ) → region_in region old.standing ≡ None → check_of old moment region ≡ done (idle (around_at old moment) (planning_of old) replies.NoRegion)
check_absent old moment region is = ap (check_held (around_at old moment) (planning_of old)) is

-- a held region, of which this is told
pub check_found : (old mid : Part) (moment region : ℕ) (beat : RegionBeat) (told : Told) → mid ≡ at_moment old moment → region_in region mid.standing ≡ Some beat → told ≡ told_in (around_of mid) beat
    → check_of old moment region ≡ check_told (around_of mid) beat (planning_of mid) told
check_found old mid moment region beat told mid_is held told_is =
    let found : region_in region old.standing ≡ Some beat = sym (ap (λ (p : Part). region_in region p.standing) mid_is) ∙ held in
    ap (check_held (around_at old moment) (planning_of old)) found
    ∙ ap (λ (p : Part). check_told (around_of p) beat (planning_of p) (told_in (around_of p) beat)) (sym mid_is)
    ∙ ap (check_told (around_of mid) beat (planning_of mid)) (sym told_is)

module _ (asking : Asking Deed) (old new : Part) (moment driver : ℕ) (d : Done) (said_old said_new : List MetaAnswer) (told_old told_new : Option (List MetaEntry))
    (t : Does asking (planning_of new) new.stores d driver (ear [] old.known said_old told_old) (ear d.heard.answers new.known said_new told_new)) where
  deed_is : deed_of asking old moment d.heard.answers ≡ deed_at new d
  deed_is = did asking old moment (deed_at new d) driver (ear [] old.known said_old told_old) (ear d.heard.answers new.known said_new told_new) refl refl t

  pub reply_is : d.reply ≡ (deed_of asking old moment d.heard.answers).reply
  reply_is = sym (ap (λ (x : Deed). x.reply) deed_is)

  pub sents_is : d.sents ≡ (deed_of asking old moment d.heard.answers).sents
  sents_is = sym (ap (λ (x : Deed). x.sents) deed_is)

  pub stores_is : new.stores ≡ (deed_of asking old moment d.heard.answers).stores
  stores_is = sym (ap (λ (x : Deed). x.stores) deed_is)

  pub planning_is : planning_of new ≡ (deed_of asking old moment d.heard.answers).planning
  planning_is = sym (ap (λ (x : Deed). x.planning) deed_is)

  pub asked_is : AreAsked (λ before. wanted (asking (hearing old.known before))) [] d.heard.answers
  asked_is = did_ask asking old (deed_at new d) driver (ear [] old.known said_old told_old) (ear d.heard.answers new.known said_new told_new) refl refl t

  pub said_is : said_new ≡ said_old ++ d.heard.answers
  said_is = t.said ∙ ap (λ (l : List MetaAnswer). said_old ++ l) (sym t.answers)

  pub told_is : told_new ≡ told_all told_old driver d.heard.answers
  told_is = t.told ∙ ap (told_all told_old driver) (sym t.answers)

  pub known_is : new.known ≡ known_after d.heard.answers old.known
  known_is = t.known ∙ ap (λ (l : List MetaAnswer). known_after l old.known) (sym t.answers)

-- the tables after a check
pub after_check : (old mid new : Part) (moment region driver : ℕ) (d : Done) (said_old said_new : List MetaAnswer) (told_old told_new : Option (List MetaEntry)) → mid ≡ at_moment old moment → new ≡ replanned mid (planning_of new) new.known
    → (t : Does (check_of old moment region) (planning_of new) new.stores d driver (ear [] old.known said_old told_old) (ear d.heard.answers new.known said_new told_new)) → new ≡ changed_part old (ask.Check moment region) d.reply d.heard
after_check old mid new moment region driver d said_old said_new told_old told_new mid_is rest t =
    let planning = planning_is (check_of old moment region) old new moment driver d said_old said_new told_old told_new t in
    let known = known_is (check_of old moment region) old new moment driver d said_old said_new told_old told_new t in
    let last : replanned (at_moment old moment) (planning_of new) new.known ≡ changed_part old (ask.Check moment region) d.reply d.heard = λ i. record {
      term = old.term;
      began = old.began;
      clock = max old.clock moment;
      stores = old.stores;
      standing = old.standing;
      rules = old.rules;
      known = known i;
      operators = (planning i).operators;
      limits = (planning i).limits;
      window = (planning i).window;
    } in
    rest ∙ ap (λ (p : Part). replanned p (planning_of new) new.known) mid_is ∙ last

-- the tables with what a patrol writes
abbrev pub written : Part → Part → Part
written mid new = record mid { stores = new.stores; operators = new.operators; limits = new.limits; window = new.window; known = new.known }

-- the tables after a patrol
pub after_patrol : (old mid new : Part) (moment workers driver : ℕ) (d : Done) (said_old said_new : List MetaAnswer) (told_old told_new : Option (List MetaEntry)) → mid ≡ at_moment old moment
    → new ≡ written mid new
    → (t : Does (patrol_of old moment) (planning_of new) new.stores d driver (ear [] old.known said_old told_old) (ear d.heard.answers new.known said_new told_new)) → new ≡ changed_part old (ask.Patrol moment workers) d.reply d.heard
after_patrol old mid new moment workers driver d said_old said_new told_old told_new mid_is rest t =
    let planning = planning_is (patrol_of old moment) old new moment driver d said_old said_new told_old told_new t in
    let known = known_is (patrol_of old moment) old new moment driver d said_old said_new told_old told_new t in
    let stores = stores_is (patrol_of old moment) old new moment driver d said_old said_new told_old told_new t in
    let last : written (at_moment old moment) new ≡ changed_part old (ask.Patrol moment workers) d.reply d.heard = λ i. record {
      term = old.term;
      began = old.began;
      clock = max old.clock moment;
      stores = stores i;
      standing = old.standing;
      rules = old.rules;
      known = known i;
      operators = (planning i).operators;
      limits = (planning i).limits;
      window = (planning i).window;
    } in
    rest ∙ ap (λ (p : Part). written p new) mid_is ∙ last

-- a patrol that was carried out: its plans were told and then tried, and stores were buried
pub patrol_does : (old mid one two : Part) (moment : ℕ) (survey : Survey) (round : CodeRound) (burial : CodeBurial) (sents : List Sent) (d : Done) (driver : ℕ) (x y z : Ear) → mid ≡ at_moment old moment → one ≡ replanned mid (planning_of one) one.known
    → (let left : Part = record one { stores = two.stores; known = two.known } in two ≡ left) → survey ≡ surveyed (around_of mid) mid.standing
    → Talks Round (sweep (around_of mid) survey.plans (round_at mid [] (record { added = 0; stopped = false }))) (round_at one sents round) driver x y → Talks Burial (bury_all (around_of one)) (burial_at two burial) driver y z
    → d.reply ≡ replies.Patrolled survey.regions survey.ok survey.split survey.plan survey.no_plan round.added burial.buried → d.sents ≡ sents → Does (patrol_of old moment) (planning_of two) two.stores d driver x z
patrol_does old mid one two moment survey round burial sents d driver x y z mid_is one_is two_is survey_is s t reply_is sents_is =
    let plans : survey.plans ≡ plans_in (around_of mid) = ap (λ (found : Survey). found.plans) survey_is in
    let tried : Talks Round (sweep (around_of mid) (plans_in (around_of mid)) (first_round (planning_of mid))) (round_at one sents round) driver x y =
    subst (λ (list : List Planned). Talks Round (sweep (around_of mid) list (first_round (planning_of mid))) (round_at one sents round) driver x y) plans s in
    let buried : Talks Burial (bury_all (around_of mid)) (burial_at two burial) driver y z = subst (λ (a : Around). Talks Burial (bury_all a) (burial_at two burial) driver y z) (ap around_of one_is) t in
    let whole = patrol_did (around_of mid) (planning_of mid) (round_at one sents round) (burial_at two burial) driver x y z tried buried in
    let planning : planning_of one ≡ planning_of two = sym (ap planning_of two_is) in
    let reply : patrolled (around_of mid) round.added burial.buried ≡ d.reply =
    sym (reply_is ∙ ap (λ (found : Survey). replies.Patrolled found.regions found.ok found.split found.plan found.no_plan round.added burial.buried) survey_is) in
    let value : patrol_deed (around_of mid) (round_at one sents round) (burial_at two burial) ≡ deed_at two d = λ i. record { planning = planning i; stores = two.stores; sents = sym sents_is i; reply = reply i } in
    subst (λ (p : Part). Talks Deed (patrol (around_of p) (planning_of p)) (deed_at two d) driver x z) mid_is (subst (λ (v : Deed). Talks Deed (patrol (around_of mid) (planning_of mid)) v driver x z) value whole)

-- what holds wherever an answer is one
pub on_ok : (r : Result Done NoMemory) (P Q : Done → Type 0) → ((done : Done) → P done → Q done) → IfOk r P → IfOk r Q
on_ok (Ok done) P Q f h = f done h
on_ok (Err e) P Q f h = tt

-- what a check came to, from what its verdict did
pub check_whole : (old mid new : Part) (moment region : ℕ) (beat : RegionBeat) (told : Told) (r : Result Done NoMemory) (driver : ℕ) (said_old said_new : List MetaAnswer) (told_old told_new : Option (List MetaEntry)) → mid ≡ at_moment old moment
    → region_in region mid.standing ≡ Some beat → told ≡ told_in (around_of mid) beat
    → IfOk r (λ d. Does (check_told (around_of mid) beat (planning_of mid) told) (planning_of new) new.stores d driver (ear [] mid.known said_old told_old) (ear d.heard.answers new.known said_new told_new))
    → IfOk r (λ d. Does (check_of old moment region) (planning_of new) new.stores d driver (ear [] old.known said_old told_old) (ear d.heard.answers new.known said_new told_new))
check_whole old mid new moment region beat told r driver said_old said_new told_old told_new mid_is held told_is h =
    on_ok r _ _ (λ d t.
    subst (λ (k : List Cell). Does (check_of old moment region) (planning_of new) new.stores d driver (ear [] k said_old told_old) (ear d.heard.answers new.known said_new told_new)) (ap (λ (p : Part). p.known) mid_is)
    (subst (λ (a : Asking Deed). Does a (planning_of new) new.stores d driver (ear [] mid.known said_old told_old) (ear d.heard.answers new.known said_new told_new)) (sym (check_found old mid moment region beat told mid_is held told_is)) t)) h

-- a check of a region that isn't held
pub absent_does : (old mid : Part) (moment region driver : ℕ) (d : Done) (said : List MetaAnswer) (told : Option (List MetaEntry)) → mid ≡ at_moment old moment → region_in region mid.standing ≡ None → d.reply ≡ replies.NoRegion → d.sents ≡ [] → d.heard.answers ≡ []
    → Does (check_of old moment region) (planning_of mid) mid.stores d driver (ear [] old.known said told) (ear d.heard.answers mid.known said told)
absent_does old mid moment region driver d said told mid_is none reply_is sents_is heard_is =
    let gone : region_in region old.standing ≡ None = sym (ap (λ (p : Part). region_in region p.standing) mid_is) ∙ none in
    subst (λ (p : Part). Does (check_of old moment region) (planning_of p) p.stores d driver (ear [] old.known said told) (ear d.heard.answers p.known said told)) (sym mid_is)
    (quiet_does (around_at old moment) (planning_of old) replies.NoRegion (check_of old moment region) old.stores d driver old.known said told (check_absent old moment region gone) refl reply_is sents_is heard_is)

-- a patrol that was carried out, with the log that it began with
pub patrol_whole : (old mid one two : Part) (moment : ℕ) (survey : Survey) (plans : List Planned) (round : CodeRound) (burial : CodeBurial) (none sents : List Sent) (quiet middle last : List MetaAnswer) (d : Done) (driver : ℕ)
    (said_old said_mid said_new : List MetaAnswer) (told_old told_mid told_new : Option (List MetaEntry)) → mid ≡ at_moment old moment → none ≡ [] → quiet ≡ [] → one ≡ replanned mid (planning_of one) one.known
    → (let left : Part = record one { stores = two.stores; known = two.known } in two ≡ left) → survey ≡ surveyed (around_of mid) mid.standing → plans ≡ survey.plans
    → Talks Round (sweep (around_of mid) plans (round_at mid none (record { added = 0; stopped = false }))) (round_at one sents round) driver (ear quiet mid.known said_old told_old) (ear middle one.known said_mid told_mid)
    → Talks Burial (bury_all (around_of one)) (burial_at two burial) driver (ear middle one.known said_mid told_mid) (ear last two.known said_new told_new)
    → d.reply ≡ replies.Patrolled survey.regions survey.ok survey.split survey.plan survey.no_plan round.added burial.buried → d.sents ≡ sents → d.heard.answers ≡ last
    → Does (patrol_of old moment) (planning_of two) two.stores d driver (ear [] old.known said_old told_old) (ear d.heard.answers two.known said_new told_new)
patrol_whole old mid one two moment survey plans round burial none sents quiet middle last d driver said_old said_mid said_new told_old told_mid told_new mid_is none_is quiet_is one_is two_is survey_is plans_is s t reply_is sents_is heard_is =
    let known : mid.known ≡ old.known = ap (λ (p : Part). p.known) mid_is in
    let first : Talks Round (sweep (around_of mid) survey.plans (round_at mid [] (record { added = 0; stopped = false }))) (round_at one sents round) driver (ear [] old.known said_old told_old) (ear middle one.known said_mid told_mid) =
    subst (λ (k : List Cell). Talks Round (sweep (around_of mid) survey.plans (round_at mid [] (record { added = 0; stopped = false }))) (round_at one sents round) driver (ear [] k said_old told_old) (ear middle one.known said_mid told_mid)) known
    (subst (λ (l : List MetaAnswer). Talks Round (sweep (around_of mid) survey.plans (round_at mid [] (record { added = 0; stopped = false }))) (round_at one sents round) driver (ear l mid.known said_old told_old) (ear middle one.known said_mid told_mid)) quiet_is
    (subst (λ (l : List Sent). Talks Round (sweep (around_of mid) survey.plans (round_at mid l (record { added = 0; stopped = false }))) (round_at one sents round) driver (ear quiet mid.known said_old told_old) (ear middle one.known said_mid told_mid)) none_is
    (subst (λ (list : List Planned). Talks Round (sweep (around_of mid) list (round_at mid none (record { added = 0; stopped = false }))) (round_at one sents round) driver (ear quiet mid.known said_old told_old) (ear middle one.known said_mid told_mid)) plans_is s))) in
    let whole = patrol_does old mid one two moment survey round burial sents d driver (ear [] old.known said_old told_old) (ear middle one.known said_mid told_mid) (ear last two.known said_new told_new) mid_is one_is two_is survey_is first t reply_is sents_is in
    subst (λ (l : List MetaAnswer). Does (patrol_of old moment) (planning_of two) two.stores d driver (ear [] old.known said_old told_old) (ear l two.known said_new told_new)) (sym heard_is) whole

-- the tables that a patrol leaves
pub patrol_rest : (mid one two : Part) → one ≡ replanned mid (planning_of one) one.known → (let left : Part = record one { stores = two.stores; known = two.known } in two ≡ left) → two ≡ written mid two
patrol_rest mid one two one_is two_is =
    let planning : planning_of one ≡ planning_of two = sym (ap planning_of two_is) in
    two_is ∙ ap (λ (p : Part). record p { stores = two.stores; known = two.known }) one_is ∙ (λ i. record mid { stores = two.stores; operators = (planning i).operators; limits = (planning i).limits; window = (planning i).window; known = two.known })

-- a plan whose operator was tried, with the log that this began with
pub plan_whole : (old new : Part) (beat : RegionBeat) (class : Class) (list : List Step) (from to : ℕ) (d : Done) (came : Adding) (op : NewOp) (none sents : List Sent) (quiet answers : List MetaAnswer) (told : Told) (driver : ℕ)
    (said_old said_new : List MetaAnswer) (told_old told_new : Option (List MetaEntry)) → op ≡ check_op beat list → none ≡ [] → quiet ≡ [] → told ≡ Plans class list from to → new ≡ replanned old (planning_of new) new.known
    → Adds (around_of old) op beat (planning_of old) (planning_of new) none sents came driver (ear quiet old.known said_old told_old) (ear answers new.known said_new told_new)
    → d.reply ≡ replies.Plan class from to came → d.sents ≡ sents → d.heard.answers ≡ answers
    → Does (check_told (around_of old) beat (planning_of old) told) (planning_of new) new.stores d driver (ear [] old.known said_old told_old) (ear d.heard.answers new.known said_new told_new)
plan_whole old new beat class list from to d came op none sents quiet answers told driver said_old said_new told_old told_new op_is none_is quiet_is told_is rest a reply_is sents_is heard_is =
    subst (λ (t : Told). Does (check_told (around_of old) beat (planning_of old) t) (planning_of new) new.stores d driver (ear [] old.known said_old told_old) (ear d.heard.answers new.known said_new told_new)) (sym told_is)
    (plan_does old new beat class list from to d came sents answers driver said_old said_new told_old told_new rest
    (subst (λ (o : NewOp). Adds (around_of old) o beat (planning_of old) (planning_of new) [] sents came driver (ear [] old.known said_old told_old) (ear answers new.known said_new told_new)) op_is
    (subst (λ (l : List Sent). Adds (around_of old) op beat (planning_of old) (planning_of new) l sents came driver (ear [] old.known said_old told_old) (ear answers new.known said_new told_new)) none_is
    (subst (λ (l : List MetaAnswer). Adds (around_of old) op beat (planning_of old) (planning_of new) none sents came driver (ear l old.known said_old told_old) (ear answers new.known said_new told_new)) quiet_is a)))
    reply_is sents_is heard_is)

-- what is said of the request, wherever its answer is one
module _ (asking : Asking Deed) (old new : Part) (moment driver : ℕ) (r : Result Done NoMemory) (said_old said_new : List MetaAnswer) (told_old told_new : Option (List MetaEntry))
    (h : IfOk r (λ d. Does asking (planning_of new) new.stores d driver (ear [] old.known said_old told_old) (ear d.heard.answers new.known said_new told_new))) where
  abbrev Did : Done → Type 0
  Did d = Does asking (planning_of new) new.stores d driver (ear [] old.known said_old told_old) (ear d.heard.answers new.known said_new told_new)

  pub ok_reply : IfOk r (λ d. d.reply ≡ (deed_of asking old moment d.heard.answers).reply)
  ok_reply = on_ok r Did (λ d. d.reply ≡ (deed_of asking old moment d.heard.answers).reply) (λ d t. reply_is asking old new moment driver d said_old said_new told_old told_new t) h

  pub ok_sents : IfOk r (λ d. d.sents ≡ (deed_of asking old moment d.heard.answers).sents)
  ok_sents = on_ok r Did (λ d. d.sents ≡ (deed_of asking old moment d.heard.answers).sents) (λ d t. sents_is asking old new moment driver d said_old said_new told_old told_new t) h

  pub ok_asked : IfOk r (λ d. AreAsked (λ before. wanted (asking (hearing old.known before))) [] d.heard.answers)
  ok_asked = on_ok r Did (λ d. AreAsked (λ before. wanted (asking (hearing old.known before))) [] d.heard.answers) (λ d t. asked_is asking old new moment driver d said_old said_new told_old told_new t) h

  pub ok_said : IfOk r (λ d. said_new ≡ said_old ++ d.heard.answers)
  ok_said = on_ok r Did (λ d. said_new ≡ said_old ++ d.heard.answers) (λ d t. said_is asking old new moment driver d said_old said_new told_old told_new t) h

  pub ok_told : IfOk r (λ d. told_new ≡ told_all told_old driver d.heard.answers)
  ok_told = on_ok r Did (λ d. told_new ≡ told_all told_old driver d.heard.answers) (λ d t. told_is asking old new moment driver d said_old said_new told_old told_new t) h
