-- What a command leaves of the bench of schedulers, and which names it hears.
use Rattle.std.proofs.Common.{refl, ◌≡◌, ◌≢◌, ◌↔◌, ℕ, suc, Bool, true, false, cond, ◌||◌, List, [], ◌∷◌, length, ap, sym, ◌∙◌, subst, Option, Some, None, arith}
use Rattle.std.proofs.lemmas.List.Elements.{All-cons, All-nil}
use Rattle.std.specs.List.{All}
use Rattle.std.specs.Prelude.{Result, Ok, Err, IfOk, IsErr, OnErr, OnOk}
use Rattle.std.specs.Str.{bytes_eq}
use Rattle.pd_types.specs.declared.memory.NoMemory.{NoMemory}
use Rattle.pd_types.specs.declared.request.Request.{Request}
use Rattle.pd_types.specs.declared.request.Request.TheVariants as ask
use Rattle.meta_store.specs.Asked.{AreAsked}
use Rattle.meta_store.specs.declared.record.MetaAnswer.{MetaAnswer}
use Rattle.rule_fit.specs.Suits.{is_among}
use Rattle.sched_api.specs.Benches.{Drops, Seats, names_of}
use Rattle.sched_api.specs.declared.scheduler.Said.{Said}
use Rattle.pd_ctl.specs.declared.command.Command.{Command}
use Rattle.pd_ctl.specs.declared.command.Command.TheVariants as commands
use Rattle.pd_ctl.specs.declared.fault.CtlFault.{CtlFault}
use Rattle.pd_state.specs.BenchHeard.{Becomes, Leaves, asked_at, dropped, dropped_by, fate_told, found_name, names_by, names_heard, turns_of}
use Rattle.pd_state.specs.Calls.{next_call}
use Rattle.pd_state.specs.Ctl.{resigns_by}
use Rattle.pd_state.specs.Reports.{command_told}
use Rattle.pd_state.specs.declared.heard.Heard.{Heard}
use Rattle.pd_state.specs.declared.part.Part.{Part}
use Rattle.pd_state.specs.declared.reply.Reply.{Reply}
use Rattle.pd_state.proofs.Benched.{other_name, same_name}

-- whether one of these names is the name
none_has : (name : List ℕ) (names : List (List ℕ)) → is_among name names ≡ false → All (λ (one : List ℕ). one ≢ name) names
none_has name [] is = All-nil (λ (one : List ℕ). one ≢ name)
none_has name (one ∷ names) is = by (bytes_eq one name) refl is (none_has name names)
  where
    by : (t : Bool) → bytes_eq one name ≡ t → (t || is_among name names) ≡ false → (is_among name names ≡ false → All (λ (other : List ℕ). other ≢ name) names) → All (λ (other : List ℕ). other ≢ name) (one ∷ names)
    by true same h rest = absurd cc
    by false apart h rest = All-cons (λ (other : List ℕ). other ≢ name) one names (λ same. let both : true ≡ false = sym (same_name one name same) ∙ apart in cc) (rest h)

none_of : (name : List ℕ) (names : List (List ℕ)) → All (λ (one : List ℕ). one ≢ name) names → is_among name names ≡ false
none_of name [] h = refl
none_of name (one ∷ names) h = ap (λ (t : Bool). t || is_among name names) (other_name one name (h 0 one (omega arith))) ∙ none_of name names (λ k d low. h (suc k) d (omega (arith, low)))

-- the first of the name went, or there is none
pub removed_so : {A E : Type 0} (name : List ℕ) (r : Result A E) (old new : Seats) → OnOk r (Drops name old new) → (IsErr r ↔ All (λ (one : List ℕ). one ≢ name) (names_of old)) → OnErr r (new ≡ old) → Leaves (found_name name (names_of old)) old new
removed_so name (Ok done) old new drops absent stays = by (is_among name (names_of old)) refl
  where
    by : (t : Bool) → is_among name (names_of old) ≡ t → Leaves (cond t (Some name) None) old new
    by true is = drops
    by false is = absurd (let both : false ≡ true = absent.1 (none_has name (names_of old) is) in cc)
removed_so name (Err e) old new drops absent stays = subst (λ (t : Bool). Leaves (cond t (Some name) None) old new) (sym (none_of name (names_of old) (absent.0 refl))) stays

-- the same of the words that say so
pub removal_so : {A E : Type 0} (told : Result Command CtlFault) (command : Command) (name bytes : List ℕ) (r : Result A E) (old new : Seats) → told ≡ Ok command → command ≡ commands.SchedulerRemove name → bytes ≡ name → OnOk r (Drops bytes old new)
    → (IsErr r ↔ All (λ (one : List ℕ). one ≢ bytes) (names_of old)) → OnErr r (new ≡ old) → Leaves (dropped_by told (names_of old)) old new
removal_so told command name bytes r old new told_is command_is same drops absent stays =
    subst (λ (o : Option (List ℕ)). Leaves o old new) (ap (λ (n : List ℕ). found_name n (names_of old)) same ∙ ap (λ (t : Result Command CtlFault). dropped_by t (names_of old)) (sym (told_is ∙ ap (λ (c : Command). Ok c) command_is)))
    (removed_so bytes r old new drops absent stays)

-- any other words leave the bench
pub kept_fault : (told : Result Command CtlFault) (seats : Seats) → ((command : Command) → told ≡ Ok command → ⊥) → Leaves (dropped_by told (names_of seats)) seats seats
kept_fault (Ok command) seats never = absurd (never command refl)
kept_fault (Err fault) seats never = refl

kept_command : (command : Command) (seats : Seats) → ((name : List ℕ) → command ≡ commands.SchedulerRemove name → ⊥) → Leaves (dropped_by (Ok command) (names_of seats)) seats seats
kept_command (commands.SchedulerRemove name) seats never = absurd (never name refl)
kept_command command seats never = refl

pub kept_other : (told : Result Command CtlFault) (command : Command) (seats : Seats) → told ≡ Ok command → ((name : List ℕ) → command ≡ commands.SchedulerRemove name → ⊥) → Leaves (dropped_by told (names_of seats)) seats seats
kept_other told command seats is never = subst (λ (t : Result Command CtlFault). Leaves (dropped_by t (names_of seats)) seats seats) (sym is) (kept_command command seats never)

-- of the names that a command hears, it takes the same one out as of all
pub heard_drops : (told : Result Command CtlFault) (names : List (List ℕ)) → dropped_by told (cond (names_by told) names []) ≡ dropped_by told names
heard_drops (Ok (commands.SchedulerRemove name)) names = refl
heard_drops told names = refl

-- of the request, from what its words did
module _ (words : List ℕ) (told : Result Command CtlFault) (names heard : List (List ℕ)) (told_is : told ≡ command_told words) (heard_is : heard ≡ cond (names_by told) names []) where
  pub ctl_names : (moment : ℕ) → heard ≡ names_heard (ask.Ctl moment words) names
  ctl_names moment = heard_is ∙ ap (λ (r : Result Command CtlFault). cond (names_by r) names []) told_is

  ctl_drops : dropped_by told names ≡ dropped_by (command_told words) heard
  ctl_drops = sym (heard_drops told names) ∙ (λ i. dropped_by (told_is i) (sym heard_is i))

  pub ctl_becomes : (part : Option Part) (old : Part) (moment : ℕ) (seats new : Seats) → part ≡ Some old → names ≡ names_of seats → Leaves (dropped_by told (names_of seats)) seats new → Leaves (dropped part (ask.Ctl moment words) heard) seats new
  ctl_becomes part old moment seats new part_is all h =
      subst (λ (o : Option (List ℕ)). Leaves o seats new) (ap (dropped_by told) (sym all) ∙ ctl_drops ∙ ap (λ (p : Option Part). dropped p (ask.Ctl moment words) heard) (sym part_is)) h

-- Without a term a request takes no turn and no scheduler out, and makes no call
module _ (part : Option Part) (request is : Request) (heard : Heard) (names : List (List ℕ)) (part_is : part ≡ None) (same : request ≡ is) (heard_is : heard ≡ record { answers = []; bench = []; names = names }) where
  pub absent_turns : length heard.bench ≡ turns_of part request heard.names
  absent_turns = ap (λ (h : Heard). length h.bench) heard_is ∙ ap (λ (p : Option Part). turns_of p request heard.names) (sym part_is)

  pub absent_bench : (reply : Reply) (seats : Seats) → Becomes (asked_at part request) (fate_told reply) heard.bench (dropped part request heard.names) seats seats
  absent_bench reply seats =
      subst (λ (l : List Said). Becomes (asked_at part request) (fate_told reply) l (dropped part request heard.names) seats seats) (sym (ap (λ (h : Heard). h.bench) heard_is))
      (subst (λ (p : Option Part). Leaves (dropped p request heard.names) seats seats) (sym part_is) refl)

  pub absent_asked : next_call None is heard.bench [] ≡ None → AreAsked (next_call part request heard.bench) [] heard.answers
  absent_asked none =
      subst (λ (l : List MetaAnswer). AreAsked (next_call part request heard.bench) [] l) (sym (ap (λ (h : Heard). h.answers) heard_is))
      (subst (λ (p : Option Part). next_call p request heard.bench [] ≡ None) (sym part_is) (subst (λ (r : Request). next_call None r heard.bench [] ≡ None) (sym same) none))

-- what is no value is none
pub no_value : {A : Type 0} (o : Option A) → ((value : A) → o ≡ Some value → ⊥) → o ≡ None
no_value None never = refl
no_value (Some value) never = absurd (never value refl)

-- the names, by whether they were asked for
pub names_asked : (told : Result Command CtlFault) (all : List (List ℕ)) (r : Result (List (List ℕ)) NoMemory) (asked : Bool) → asked ≡ names_by told → asked ≡ true → IfOk r (λ names. names ≡ all) → IfOk r (λ names. names ≡ cond (names_by told) all [])
names_asked told all r asked is true_is h = subst (λ (t : Bool). IfOk r (λ names. names ≡ cond t all [])) (sym true_is ∙ is) h

pub names_unasked : (told : Result Command CtlFault) (all names : List (List ℕ)) (asked : Bool) → asked ≡ names_by told → asked ≡ false → names ≡ [] → names ≡ cond (names_by told) all []
names_unasked told all names asked is false_is h = h ∙ ap (λ (t : Bool). cond t all []) (sym false_is ∙ is)

-- the term, by whether it was given up
pub term_kept : {A : Type 0} (told : Result Command CtlFault) (part : Option A) (gives : Bool) → gives ≡ resigns_by told → gives ≡ false → part ≡ cond (resigns_by told) None part
term_kept told part gives is false_is = ap (λ (t : Bool). cond t None part) (sym false_is ∙ is)

pub term_given : {A : Type 0} (told : Result Command CtlFault) (part : Option A) (gives : Bool) → gives ≡ resigns_by told → gives ≡ true → None ≡ cond (resigns_by told) None part
term_given told part gives is true_is = ap (λ (t : Bool). cond t None part) (sym true_is ∙ is)
