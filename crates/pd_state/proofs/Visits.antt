-- A patrol's try of one plan, by what adding its operator came to.
use Rattle.std.proofs.Common.{refl, ◌≡◌, ℕ, ◌+◌, Bool, true, false, List, [], ◌++◌, append-nil, ap, sym, ◌∙◌, subst, Option, Some, None}
use Rattle.std.specs.Prelude.{Result, Ok, Err}
use Rattle.pd_types.specs.declared.region.RegionBeat.{RegionBeat}
use Rattle.op_control.specs.declared.operator.NewOp.{NewOp}
use Rattle.op_control.specs.declared.adding.AddFault.{AddFault}
use Rattle.op_control.specs.Adding.{refusal_of}
use Rattle.pd_state.specs.Adding.{Adds, Around, Drawn, Planning, Work, add_by, add_op, asks_id, enter, entered, entered_with, free_id, planning_of, work}
use Rattle.pd_state.specs.Asking.{Ear, Hearing, Talks, done, hearing}
use Rattle.pd_state.specs.Checking.{Round, check_op, is_busy, round_after, round_at, tallied, visit}
use Rattle.pd_state.specs.Clusters.{refuses_adding}
use Rattle.pd_state.specs.declared.adding.Adding.{Adding}
use Rattle.pd_state.specs.declared.adding.Adding.TheVariants as adding
use Rattle.pd_state.specs.declared.part.Part.{Part}
use Rattle.pd_state.specs.declared.patrol.Planned.{Planned}
use Rattle.pd_state.specs.declared.patrol.Round.{Round as CodeRound}
use Rattle.pd_state.specs.declared.sent.Sent.{Sent}
use Rattle.pd_state.proofs.Deeds.{visit_tried}
use Rattle.pd_state.proofs.Ends.{Ends, ends_any, ends_if, ends_on}
use Rattle.pd_state.proofs.Leaves.{WorkLeaves, add_leaves}

-- the operator was added
abbrev is_added : Adding → Bool
is_added (adding.Added answer) = true
is_added (adding.Build fault) = false
is_added (adding.Add fault) = false
is_added (adding.OldTerm fence) = false
is_added (adding.Conflict found) = false
is_added adding.MetaLimit = false
is_added adding.IdsSpent = false

-- nothing is sent for an operator that isn't added
abbrev IsSilent : Work → Type 0
IsSilent w = is_added w.adding ≡ false → w.sents ≡ []

with_silent : (around : Around) (op : NewOp) (beat : RegionBeat) (planning : Planning) (one : Drawn) → IsSilent (entered_with around op beat planning one.window one.id)
with_silent around op beat planning one = by one.id
  where
    by : (id : Result ℕ Adding) → IsSilent (entered_with around op beat planning one.window id)
    by (Ok id) = λ out. absurd cc
    by (Err why) = λ out. refl

enter_silent : (around : Around) (op : NewOp) (beat : RegionBeat) (planning : Planning) (at : Hearing) → Ends Work IsSilent (enter around op beat planning at)
enter_silent around op beat planning at =
    ends_if Work IsSilent (asks_id op.steps) _ (done (entered around op beat planning)) at
    (λ asks. ends_on Drawn Work (λ one. Unit {0}) IsSilent (λ one. done (entered_with around op beat planning one.window one.id)) (free_id beat.region.peers beat around.term planning.window at) (ends_any Drawn _)
    (λ one then u. with_silent around op beat planning one))
    (λ none. λ out. absurd cc)

add_silent : (fault : Option AddFault) (around : Around) (op : NewOp) (beat : RegionBeat) (planning : Planning) (at : Hearing) → Ends Work IsSilent (add_by fault around op beat planning at)
add_silent (Some fault) around op beat planning at = λ out. refl
add_silent None around op beat planning at = enter_silent around op beat planning at

module _ (around : Around) (op : NewOp) (beat : RegionBeat) (p q : Planning) (sents_old sents_new : List Sent) (came : Adding) (driver : ℕ) (x y : Ear) (a : Adds around op beat p q sents_old sents_new came driver x y) where
  -- what holds wherever adding the operator ends
  ends_here : (P : Work → Type 0) → ((at : Hearing) → Ends Work P (add_op around op beat p at)) → P (work q a.sents came)
  ends_here P all = subst (Ends Work P) (a.talks.ends []) (all (hearing x.known (a.talks.heard ++ [])))

  planning_left : refuses_adding came ≡ true → q ≡ p
  planning_left = ends_here (WorkLeaves p) (λ at. add_leaves (refusal_of p.operators op (Some beat) p.limits around.now) around op beat p at)

  sents_left : is_added came ≡ false → sents_new ≡ sents_old
  sents_left out =
      let none : a.sents ≡ [] = ends_here IsSilent (λ at. add_silent (refusal_of p.operators op (Some beat) p.limits around.now) around op beat p at) out in
      a.sent ∙ ap (λ (l : List Sent). sents_old ++ l) none ∙ append-nil sents_old

round_by : (round : CodeRound) (p q : Planning) (sents sents_old sents_new : List Sent) (came : Adding) → sents_new ≡ sents_old ++ sents → (refuses_adding came ≡ true → q ≡ p) → (is_added came ≡ false → sents_new ≡ sents_old)
    → round_after (record { planning = p; sents = sents_old; added = round.added; stopped = round.stopped }) (work q sents came) came ≡ record { planning = q; sents = sents_new; added = (tallied round came).added; stopped = (tallied round came).stopped }
round_by round p q sents sents_old sents_new (adding.Added answer) sent leaves silent = λ i. record { planning = q; sents = sym sent i; added = round.added + 1; stopped = false }
round_by round p q sents sents_old sents_new (adding.Build fault) sent leaves silent = λ i. record { planning = sym (leaves refl) i; sents = sym (silent refl) i; added = round.added; stopped = round.stopped }
round_by round p q sents sents_old sents_new (adding.Add fault) sent leaves silent = λ i. record { planning = sym (leaves refl) i; sents = sym (silent refl) i; added = round.added; stopped = round.stopped }
round_by round p q sents sents_old sents_new (adding.OldTerm fence) sent leaves silent = λ i. record { planning = q; sents = sym (silent refl) i; added = round.added; stopped = true }
round_by round p q sents sents_old sents_new (adding.Conflict found) sent leaves silent = λ i. record { planning = q; sents = sym (silent refl) i; added = round.added; stopped = true }
round_by round p q sents sents_old sents_new adding.MetaLimit sent leaves silent = λ i. record { planning = q; sents = sym (silent refl) i; added = round.added; stopped = true }
round_by round p q sents sents_old sents_new adding.IdsSpent sent leaves silent = λ i. record { planning = q; sents = sym (silent refl) i; added = round.added; stopped = true }

pub visit_does : (around : Around) (one : Planned) (old new : Part) (round : CodeRound) (sents_old sents_new : List Sent) (came : Adding) (driver : ℕ) (x y : Ear) → round.stopped ≡ false → is_busy (planning_of old) one.beat.region.id ≡ false
    → Adds around (check_op one.beat one.steps) one.beat (planning_of old) (planning_of new) sents_old sents_new came driver x y → Talks Round (visit around one (round_at old sents_old round)) (round_at new sents_new (tallied round came)) driver x y
visit_does around one old new round sents_old sents_new came driver x y on free a =
    subst (λ (r : Round). Talks Round (visit around one (round_at old sents_old round)) r driver x y)
    (round_by round (planning_of old) (planning_of new) a.sents sents_old sents_new came a.sent
    (planning_left around (check_op one.beat one.steps) one.beat (planning_of old) (planning_of new) sents_old sents_new came driver x y a)
    (sents_left around (check_op one.beat one.steps) one.beat (planning_of old) (planning_of new) sents_old sents_new came driver x y a))
    (visit_tried around one (round_at old sents_old round) (work (planning_of new) a.sents came) driver x y on free a.talks)

-- the same, by what the calls left
pub visit_whole : (around : Around) (one : Planned) (old new : Part) (round next : CodeRound) (sents_old sents_new : List Sent) (op : NewOp) (came : Adding) (driver : ℕ) (x y : Ear) → round.stopped ≡ false → is_busy (planning_of old) one.beat.region.id ≡ false
    → op ≡ check_op one.beat one.steps → next ≡ tallied round came → Adds around op one.beat (planning_of old) (planning_of new) sents_old sents_new came driver x y
    → Talks Round (visit around one (round_at old sents_old round)) (round_at new sents_new next) driver x y
visit_whole around one old new round next sents_old sents_new op came driver x y on free op_is next_is a =
    subst (λ (r : CodeRound). Talks Round (visit around one (round_at old sents_old round)) (round_at new sents_new r) driver x y) (sym next_is)
    (visit_does around one old new round sents_old sents_new came driver x y on free
    (subst (λ (o : NewOp). Adds around o one.beat (planning_of old) (planning_of new) sents_old sents_new came driver x y) op_is a))
