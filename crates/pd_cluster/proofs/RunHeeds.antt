-- What the drivers' answers in a lawful run tell that schedulers said is, driver by driver, what its bench said in it.
use Rattle.std.proofs.Common.{refl, ◌≡◌, ℕ, zero, suc, ◌+◌, true, false, List, [], ◌∷◌, ◌++◌, length, map, reverse, ap, sym, ◌∙◌, subst, append-nil, Option, Some, None, arith}
use Rattle.std.specs.Prelude.{All, Contains, flat_map}
use Rattle.std.specs.List.{AllByRecursion}
use Rattle.std.proofs.lemmas.Grind.{flat_map-append}
use Rattle.std.proofs.lemmas.List.Elements.{All-contains, All-filter, All-head, Contains-append_left, Contains-append_right, recursion_from_All}
use Rattle.pd_types.specs.declared.oracle.Actor.TheVariants.{Driver}
use Rattle.pd_types.specs.declared.request.Request.{Request}
use Rattle.pd_script.specs.declared.script.Script.{Script}
use Rattle.sched_api.specs.Benches.{Seats}
use Rattle.sched_api.specs.declared.scheduler.Said.{Said as Heeded}
use Rattle.tso_driver.specs.declared.reply.LeadReply.TheVariants.{Won, Beaten, Lost as LeadLost, TermsSpent, ClockRange as LeadPast}
use Rattle.tso_driver.specs.declared.reply.TickReply.TheVariants.{Moved, Idle, Lost as TickLost, ClockRange as TickPast, NotLeading}
use Rattle.tso_driver.specs.declared.said.DriverSaid.{DriverSaid}
use Rattle.tso_driver.specs.declared.said.DriverSaid.TheVariants.{Led, Ticked, Resigned as OwnResign}
use Rattle.tso_model.specs.Moves.{numbers_from}
use Rattle.pd_shared.specs.Shares.{entries_of, same_actor}
use Rattle.pd_state.specs.BenchHeard.{turns_of}
use Rattle.pd_state.specs.Calls.{next_call}
use Rattle.pd_state.specs.Heard.{heard_of}
use Rattle.pd_state.specs.Legal.{IsLegal, IsLegalAfter}
use Rattle.pd_state.specs.State.{part_after}
use Rattle.pd_state.specs.declared.entry.Entry.{Entry}
use Rattle.pd_state.specs.declared.reply.Reply.{Reply}
use Rattle.pd_run.specs.Answers.{asked_besides}
use Rattle.pd_run.specs.Heard.{AreHeard, HeardAll, no_seats}
use Rattle.pd_run.specs.Runs.{DriverAnswersLines, DriverPart, DriversAnswer, IsLawfulJournal, Journal, Run}
use Rattle.pd_run.specs.Turns.{DriverDid, DriverTurn, IsAsked, IsDriverTurn, IsReplied, driver_answer}
use Rattle.pd_run.specs.declared.answer.DriverSays.{DriverSays}
use Rattle.pd_run.specs.declared.answer.DriverSays.TheVariants as drivers
use Rattle.pd_run.specs.declared.line.DriverLine.{DriverLine}
use Rattle.pd_run.specs.declared.line.DriverTask.{DriverTask}
use Rattle.pd_run.specs.declared.line.DriverTask.TheVariants as tasks
use Rattle.pd_cluster.specs.RunLines.{lines_of_drivers}
use Rattle.pd_cluster.specs.RunOutcome.{PartsHeed, RunsOver, heeded_in}
use Rattle.pd_cluster.specs.RunText.{driver_said}
use Rattle.pd_cluster.specs.Talks.{Benches, heeded, heeded_by}
use Rattle.pd_cluster.proofs.Heeding.{asked_end, none_at_all, reply_heeds}
use Rattle.pd_cluster.proofs.Lists.{behind, each_of, in_reverse}
use Rattle.pd_cluster.proofs.RunLines.{first_of, rest_of}
use Rattle.pd_run.proofs.Hearing.{said_by_all}
use Rattle.pd_cluster.proofs.Sending.{AreTurnless, IsTurnless, retire_turnless, term_turnless}

-- what the bench said for an entry
abbrev said_for : Entry → List Heeded
said_for e = e.bench

-- AN ENTRY tells of just what the bench said for it, which is nothing where its request lets no scheduler take a turn
record Heeds (e : Entry) : Type 0 where
  told : heeded e.reply ≡ said_for e
  quiet : IsTurnless e.request → said_for e ≡ []

entry_heeds : (d : ℕ) (past : List Entry) (e : Entry) → IsLegalAfter d past e → Heeds e
entry_heeds d past e after =
    let count : length e.bench ≡ turns_of (part_after past) e.request e.names = after.turns_are in
    record {
      told = ap heeded after.reply_is ∙ reply_heeds d (part_after past) e.request (heard_of e) (omega (arith, count)) (asked_end (next_call (part_after past) e.request e.bench) [] e.answers after.asked);
      quiet = λ none. sym (none_at_all e.bench (let turns = none (part_after past) e.names in omega (arith, count, turns)));
    }

legal_heed : (d : ℕ) (journal : List Entry) (e : Entry) → IsLegal d journal → Contains journal e → Heeds e
legal_heed d [] e legal has = absurd (let low = has.1 in omega (arith, low))
legal_heed d (one ∷ past) e legal (zero, low, same) = subst Heeds same (entry_heeds d past one legal.0)
legal_heed d (one ∷ past) e legal (suc k, low, same) = legal_heed d past e legal.1 (k, omega (arith, low), same)

-- all entries of a journal
journal_heeds : (j : Journal) → IsLegal j.driver (reverse j.entries) → All Heeds j.entries
journal_heeds j legal = each_of Heeds j.entries (λ e has. legal_heed j.driver (reverse j.entries) e legal (in_reverse j.entries e has))

-- A LINE tells of what the bench said for the entries that it made
replied_heeds : (line : ℕ) (request : Request) (reply : Reply) (own : List Entry) → IsReplied line request reply own → All Heeds own → heeded reply ≡ flat_map said_for own
replied_heeds line request reply own made all =
    let e : Entry = made.0 in
    let one : Heeds e = All-head Heeds e [] (subst (All Heeds) made.1 all) in
    ap heeded (sym made.4) ∙ one.told ∙ sym (append-nil e.bench) ∙ ap (flat_map said_for) (sym made.1)

asked_heeds : (line : ℕ) (o : Option Request) (own : List Entry) → AreTurnless o → IsAsked line o own → All Heeds own → [] ≡ flat_map said_for own
asked_heeds line None own none asked all = ap (flat_map said_for) (sym asked)
asked_heeds line (Some request) own none asked all =
    let made = asked.1 in
    let e : Entry = made.0 in
    let one : Heeds e = All-head Heeds e [] (subst (All Heeds) made.1 all) in
    sym (one.quiet (subst IsTurnless (sym made.3) none)) ∙ sym (append-nil e.bench) ∙ ap (flat_map said_for) (sym made.1)

besides_turnless : (said : DriverSaid) → AreTurnless (asked_besides said)
besides_turnless (Led now (Won term lo hi)) = term_turnless term now
besides_turnless (Led now (Beaten found)) = tt
besides_turnless (Led now (LeadLost found)) = retire_turnless
besides_turnless (Led now TermsSpent) = tt
besides_turnless (Led now LeadPast) = tt
besides_turnless (Ticked now (Moved next hi)) = tt
besides_turnless (Ticked now Idle) = tt
besides_turnless (Ticked now (TickLost found)) = retire_turnless
besides_turnless (Ticked now TickPast) = tt
besides_turnless (Ticked now NotLeading) = tt
besides_turnless (OwnResign true) = retire_turnless
besides_turnless (OwnResign false) = tt

line_heeds : (line : ℕ) (task : DriverTask) (says : DriverSays) (own : List Entry) → DriverDid line task says own → All Heeds own → heeded_by (driver_said says) ≡ flat_map said_for own
line_heeds line (tasks.Oracle ask) (drivers.Oracle said) own did all = asked_heeds line (asked_besides said) own (besides_turnless said) did.1 all
line_heeds line (tasks.Oracle ask) (drivers.Cluster reply) own did all = absurd did
line_heeds line (tasks.Oracle ask) (drivers.Resigned reply held) own did all = absurd did
line_heeds line (tasks.Cluster request) (drivers.Oracle said) own did all = absurd did
line_heeds line (tasks.Cluster request) (drivers.Cluster reply) own did all = replied_heeds line request reply own did.0 all
line_heeds line (tasks.Cluster request) (drivers.Resigned reply held) own did all = replied_heeds line request reply own did.0 all

-- all lines of a driver
turns_heed : (turns : List DriverTurn) → AllByRecursion IsDriverTurn turns → All Heeds (flat_map (λ (t : DriverTurn). t.own) turns) → heeded_in (map driver_answer turns) ≡ flat_map said_for (flat_map (λ (t : DriverTurn). t.own) turns)
turns_heed [] did all = refl
turns_heed (t ∷ turns) did all =
    let rest : List Entry = flat_map (λ (t : DriverTurn). t.own) turns in
    let own_heed : All Heeds t.own = each_of Heeds t.own (λ e has. All-contains Heeds (t.own ++ rest) e all (Contains-append_left t.own rest e has)) in
    let rest_heed : All Heeds rest = each_of Heeds rest (λ e has. All-contains Heeds (t.own ++ rest) e all (Contains-append_right t.own rest e has)) in
    let one = line_heeds t.line.number t.line.task t.says t.own did.0 own_heed in
    let more = turns_heed turns did.1 rest_heed in
    (λ i. one i ++ more i) ∙ sym (flat_map-append said_for t.own rest)

driver_heeds : (lines : List DriverLine) (p : DriverPart) (j : Journal) → IsLegal j.driver (reverse j.entries) → DriverAnswersLines lines p j → heeded_in p.answers ≡ flat_map said_for (entries_of (Driver p.number) j.entries)
driver_heeds lines p j legal ans =
    let told = ans.answered in
    let own_heed : All Heeds (entries_of (Driver p.number) j.entries) = All-filter (λ (entry : Entry). same_actor entry.actor (Driver p.number)) Heeds j.entries (journal_heeds j legal) in
    ap heeded_in (sym told.answers_are) ∙ turns_heed told.turns (recursion_from_All IsDriverTurn told.turns told.did) (subst (All Heeds) (sym told.entries_are) own_heed) ∙ ap (flat_map said_for) told.entries_are

-- ALL DRIVERS
-- what a driver's answers tell, where its own entries were made over this bench
over_heeds : (d : ℕ) (lines : List DriverLine) (p : DriverPart) (j : Journal) (old new : Seats) → p.number ≡ d → IsLegal j.driver (reverse j.entries) → DriverAnswersLines lines p j → HeardAll (entries_of (Driver d) j.entries) old new → new.said ≡ old.said ++ heeded_in p.answers
over_heeds d lines p j old new is legal ans heard =
    said_by_all (entries_of (Driver d) j.entries) old new heard ∙ ap (λ (n : ℕ). old.said ++ flat_map said_for (entries_of (Driver n) j.entries)) (sym is) ∙ ap (λ (xs : List Heeded). old.said ++ xs) (sym (driver_heeds lines p j legal ans))

-- a number in front of others that rise
first_is : (d n p : ℕ) (ps : List ℕ) → p ∷ ps ≡ numbers_from d n → (p ≡ d) × ((m : ℕ) × (ps ≡ numbers_from (d + 1) m))
first_is d zero p ps same = absurd (cc same)
first_is d (suc n) p ps same = (ap (first_of p) same, (n, ap rest_of same))

parts_heed : (d n : ℕ) (lines : List (List DriverLine)) (parts : List DriverPart) (js : List Journal) (olds news : List Seats) → map (λ (p : DriverPart). p.number) parts ≡ numbers_from d n
    → ((j : Journal) → Contains js j → IsLegal j.driver (reverse j.entries)) → DriversAnswer lines parts js → AreHeard d (map (λ (j : Journal). j.entries) js) olds news → PartsHeed parts olds news
parts_heed d n [] [] [] [] [] numbers legal ans heard = tt
parts_heed d n [] [] [] [] (new ∷ news) numbers legal ans heard = absurd heard
parts_heed d n [] [] [] (old ∷ olds) [] numbers legal ans heard = absurd heard
parts_heed d n [] [] [] (old ∷ olds) (new ∷ news) numbers legal ans heard = (heard.0, unled (d + 1) olds news heard.1)
  where
    unled : (e : ℕ) (olds news : List Seats) → AreHeard e [] olds news → PartsHeed [] olds news
    unled e [] [] heard = tt
    unled e [] (new ∷ news) heard = absurd heard
    unled e (old ∷ olds) [] heard = absurd heard
    unled e (old ∷ olds) (new ∷ news) heard = (heard.0, unled (e + 1) olds news heard.1)
parts_heed d n (l ∷ lines) (p ∷ parts) (j ∷ js) [] [] numbers legal ans heard =
    let rise = first_is d n p.number (map (λ (p : DriverPart). p.number) parts) numbers in (
      sym (over_heeds d l p j no_seats no_seats rise.0 (legal j (0, omega arith, refl)) ans.0 heard.0),
      parts_heed (d + 1) rise.1.0 lines parts js [] [] rise.1.1 (λ k has. legal k (behind j k js has)) ans.1 heard.1,
    )
parts_heed d n (l ∷ lines) (p ∷ parts) (j ∷ js) [] (new ∷ news) numbers legal ans heard = absurd heard
parts_heed d n (l ∷ lines) (p ∷ parts) (j ∷ js) (old ∷ olds) [] numbers legal ans heard = absurd heard
parts_heed d n (l ∷ lines) (p ∷ parts) (j ∷ js) (old ∷ olds) (new ∷ news) numbers legal ans heard =
    let rise = first_is d n p.number (map (λ (p : DriverPart). p.number) parts) numbers in (
      over_heeds d l p j old new rise.0 (legal j (0, omega arith, refl)) ans.0 heard.0,
      parts_heed (d + 1) rise.1.0 lines parts js olds news rise.1.1 (λ k has. legal k (behind j k js has)) ans.1 heard.1,
    )
parts_heed d n _ _ _ olds news numbers legal ans heard = absurd ans

pub run_heeds : (benches : Benches) (script : Script) (ran : RunsOver benches script) → PartsHeed ran.run.drivers benches.old benches.new
run_heeds benches script ran =
    let run : Run = ran.run in
    parts_heed 1 run.oracle.setup.drivers (lines_of_drivers script) run.drivers run.journals benches.old benches.new ran.answers.answered.driver_numbers
    (λ j one. (All-contains (IsLawfulJournal run.stores run.metadata) run.journals j ran.lawful.journals one).legal) ran.answers.answered.drivers_answer ran.heard
