-- Each step that a lawful run prints was sent by an entry of one of its journals, and is safe there.
use Rattle.std.proofs.Common.{refl, ◌≡◌, inl, inr, ℕ, zero, suc, ◌+◌, ◌<◌, ◌≤◌, Bool, cond, eqb, List, [], ◌∷◌, map, reverse, sym, ◌∙◌, subst, Some, None, arith}
use Rattle.std.specs.Prelude.{All, Contains, flat_map}
use Rattle.std.specs.List.{AllZip}
use Rattle.std.proofs.lemmas.Bool.{eqb-true}
use Rattle.std.proofs.lemmas.List.Elements.{All-cons, All-contains, All-map, All-nil, Contains-append_left}
use Rattle.pd_types.specs.declared.oracle.Actor.TheVariants.{Driver, Store}
use Rattle.pd_types.specs.declared.request.Request.{Request}
use Rattle.pd_types.specs.declared.step.Step.{Step}
use Rattle.pd_types.specs.declared.step.StepMsg.{StepMsg}
use Rattle.pd_script.specs.Lawful.{IsLawfulScript}
use Rattle.pd_script.specs.declared.script.Mode.TheVariants.{Run as OnThreads}
use Rattle.pd_script.specs.declared.script.Script.{Script}
use Rattle.tso_model.specs.Moves.{numbers_from}
use Rattle.tso_outcome.proofs.Above.{to_map}
use Rattle.tso_run.proofs.Ending.{has_numbers}
use Rattle.pd_shared.specs.Outlets.{ArePushed, sends_to}
use Rattle.pd_shared.specs.Shares.{entries_of, same_actor}
use Rattle.pd_state.specs.Legal.{IsLegal}
use Rattle.pd_state.specs.StepTold.{TellsStep}
use Rattle.pd_state.specs.declared.entry.Entry.{Entry}
use Rattle.pd_state.specs.declared.reply.Reply.{Reply}
use Rattle.pd_run.specs.Answers.{taken}
use Rattle.pd_run.specs.Runs.{ArePopped, DriverAnswersLines, DriverPart, DriversAnswer, IsLawful, IsLawfulJournal, Journal, Run, StoreAnswersLines, StorePart, taken_by, taken_of}
use Rattle.pd_run.specs.Tasks.{GoesTo}
use Rattle.pd_run.specs.Turns.{DriverDid, DriverTurn, IsDriverTurn, IsReplied, IsStoreTurn, StoreDid, StoreTurn, driver_answer, own_at, store_answer}
use Rattle.pd_run.specs.declared.answer.DriverAnswer.{DriverAnswer}
use Rattle.pd_run.specs.declared.answer.DriverSays.{DriverSays}
use Rattle.pd_run.specs.declared.answer.DriverSays.TheVariants as drivers
use Rattle.pd_run.specs.declared.answer.StoreAnswer.{StoreAnswer}
use Rattle.pd_run.specs.declared.answer.StoreSays.{StoreSays}
use Rattle.pd_run.specs.declared.answer.StoreSays.TheVariants as stores
use Rattle.pd_run.specs.declared.line.DriverLine.{DriverLine}
use Rattle.pd_run.specs.declared.line.DriverTask.{DriverTask}
use Rattle.pd_run.specs.declared.line.DriverTask.TheVariants as tasks
use Rattle.pd_run.specs.declared.line.StoreLine.{StoreLine}
use Rattle.pd_run.specs.declared.line.StoreTask.{StoreTask}
use Rattle.pd_run.specs.declared.line.StoreTask.TheVariants as asks
use Rattle.pd_cluster.specs.RunLines.{AnswersScript, lines_of_drivers, lines_of_store, lines_of_stores}
use Rattle.pd_cluster.specs.Sent.{DriverTellsSafely, HasSafeSteps, IsToldSafely, StoreTellsSafely, TellsSafely}
use Rattle.pd_cluster.proofs.Lists.{at_first, behind, each_of, from_filter, from_flat, from_map, in_reverse, none_in, same_eqb, to_flat}
use Rattle.pd_cluster.proofs.RunLines.{lines_go}
use Rattle.pd_cluster.proofs.Sends.{IsOwn, later_sent, later_told, own_sent, own_told}

-- BY A LEGAL JOURNAL
-- what the reply of one of its entries tells as sent, was sent safely
told_in : (d : ℕ) (journal : List Entry) (e : Entry) → IsLegal d journal → Contains journal e → (step : Step) → TellsStep e.reply step → IsToldSafely journal e.line e.reply
told_in d [] e legal has step is = none_in e has
told_in d (one ∷ past) e legal (zero, low, same) step is =
    subst (λ (x : Entry). IsToldSafely (one ∷ past) x.line x.reply) same (own_told d past one legal.1 legal.0 step (subst (λ (x : Entry). TellsStep x.reply step) (sym same) is))
told_in d (one ∷ past) e legal (suc k, low, same) step is = later_told (one ∷ []) past e.line e.reply (told_in d past e legal.1 (k, omega (arith, low), same) step is)

-- what one of its entries sent, was sent safely
sent_in : (d : ℕ) (journal : List Entry) (e : Entry) (m : StepMsg) → IsLegal d journal → Contains journal e → Contains e.sends m → IsOwn d journal m
sent_in d [] e m legal has sends = none_in e has
sent_in d (one ∷ past) e m legal (zero, low, same) sends = own_sent d past one legal.1 legal.0 m (subst (λ (x : Entry). Contains x.sends m) (sym same) sends)
sent_in d (one ∷ past) e m legal (suc k, low, same) sends =
    let own = sent_in d past e m legal.1 (k, omega (arith, low), same) sends in record { driver = own.driver; sent = later_sent (one ∷ []) past m own.sent }

-- WHAT A STORE TOOK
pushed_in : (n : ℕ) (sends pushed : List StepMsg) (m : StepMsg) → ArePushed n sends pushed → Contains pushed m → Contains sends m
pushed_in n [] [] m are has = has
pushed_in n [] (p ∷ pushed) m are has = absurd are
pushed_in n (s ∷ sends) [] m are has = none_in m has
pushed_in n (s ∷ sends) (p ∷ pushed) m (inl (same, rest)) (zero, low, is) = (0, omega arith, same ∙ is)
pushed_in n (s ∷ sends) (p ∷ pushed) m (inl (same, rest)) (suc k, low, is) = behind s m sends (pushed_in (n + 1) sends pushed m rest (k, omega (arith, low), is))
pushed_in n (s ∷ sends) (p ∷ pushed) m (inr (room, rest)) has = behind s m sends (pushed_in n sends (p ∷ pushed) m rest has)

-- a message to the store that an entry of the journal sent
record IsSentTo (entries : List Entry) (store : ℕ) (m : StepMsg) : Type 0 where
  to : m.to ≡ store
  entry : Entry
  here : Contains entries entry
  sends : Contains entry.sends m

popped_sent : (entries : List Entry) (store : ℕ) (popped : List StepMsg) (m : StepMsg) → ArePopped entries store popped → Contains popped m → IsSentTo entries store m
popped_sent entries store popped m are has =
    let pushed : Contains are.0 m = subst (λ (ms : List StepMsg). Contains ms m) are.2.1 (Contains-append_left popped are.2.0 m has) in
    let kept = from_filter (λ (msg : StepMsg). eqb msg.to store) (flat_map (λ (entry : Entry). entry.sends) entries) m (pushed_in 0 (sends_to store entries) are.0 m are.1 pushed) in
    let by = from_flat (λ (entry : Entry). entry.sends) entries m kept.0 in
    record { to = eqb-true m.to store kept.1; entry = by.0; here = by.1; sends = by.2 }

-- what an answer tells as taken is among all that was taken
taken_here : (driver : ℕ) (answers : List StoreAnswer) (a : StoreAnswer) (m : StepMsg) → Contains answers a → a.driver ≡ driver → Contains (taken a.says) m → Contains (taken_by driver answers) m
taken_here driver answers a m has same here =
    to_flat (taken_of driver) answers a m has (subst (λ (t : Bool). Contains (cond t (taken a.says) []) m) (sym (same_eqb a.driver driver same)) here)

-- THE JOURNALS OF A RUN
same_numbers : (lines : List (List DriverLine)) (parts : List DriverPart) (js : List Journal) → DriversAnswer lines parts js → map (λ (j : Journal). j.driver) js ≡ map (λ (p : DriverPart). p.number) parts
same_numbers [] [] [] ans = refl
same_numbers (l ∷ lines) (p ∷ parts) (j ∷ js) ans = λ i. ans.0.same i ∷ same_numbers lines parts js ans.1 i
same_numbers _ _ _ ans = absurd ans

module _ (run : Run) (lawful : IsLawful run) where
  legal_of : (j : Journal) → Contains run.journals j → IsLegal j.driver (reverse j.entries)
  legal_of j one = (All-contains (IsLawfulJournal run.stores run.metadata) run.journals j lawful.journals one).legal

  -- an entry of a journal
  entry_tells : (j : Journal) → Contains run.journals j → (e : Entry) → Contains j.entries e → TellsSafely run.journals j.driver e.line e.reply
  entry_tells j one e has = λ step is. record { journal = j; one = one; driver_is = refl; holds = told_in j.driver (reverse j.entries) e (legal_of j one) (in_reverse j.entries e has) step is }

  -- an answer whose line made an entry with this reply
  replied_tells : (j : Journal) → Contains run.journals j → (d line : ℕ) (request : Request) (reply : Reply) (own : List Entry) → j.driver ≡ d → IsReplied line request reply own → ((e : Entry) → Contains own e → Contains j.entries e)
      → TellsSafely run.journals d line reply
  replied_tells j one d line request reply own same made within =
      let e = made.0 in
      let has : Contains own e = subst (λ (es : List Entry). Contains es e) (sym made.1) (at_first e []) in
      subst (λ (k : ℕ). TellsSafely run.journals k line reply) same
      (subst (λ (l : ℕ). TellsSafely run.journals j.driver l reply) made.2
      (subst (λ (r : Reply). TellsSafely run.journals j.driver e.line r) made.4 (entry_tells j one e (within e has))))

  -- a driver's answers
  driver_tells : (j : Journal) → Contains run.journals j → (d line : ℕ) (own : List Entry) → j.driver ≡ d → ((e : Entry) → Contains own e → Contains j.entries e) → (task : DriverTask) (says : DriverSays) → DriverDid line task says own
      → DriverTellsSafely run.journals d line says
  driver_tells j one d line own same within (tasks.Oracle ask) (drivers.Oracle said) did = tt
  driver_tells j one d line own same within (tasks.Oracle ask) (drivers.Cluster reply) did = absurd did
  driver_tells j one d line own same within (tasks.Oracle ask) (drivers.Resigned reply held) did = absurd did
  driver_tells j one d line own same within (tasks.Cluster request) (drivers.Oracle said) did = absurd did
  driver_tells j one d line own same within (tasks.Cluster request) (drivers.Cluster reply) did = replied_tells j one d line request reply own same did.0 within
  driver_tells j one d line own same within (tasks.Cluster request) (drivers.Resigned reply held) did = replied_tells j one d line request reply own same did.0 within

  part_tells : (lines : List DriverLine) (p : DriverPart) (j : Journal) → Contains run.journals j → DriverAnswersLines lines p j → All (λ (a : DriverAnswer). DriverTellsSafely run.journals p.number a.line a.says) p.answers
  part_tells lines p j one ans =
      let told = ans.answered in
      let Tells : DriverAnswer → Type 0 = λ (a : DriverAnswer). DriverTellsSafely run.journals p.number a.line a.says in
      subst (All Tells) told.answers_are
      (All-map Tells driver_answer told.turns
      (each_of (λ (turn : DriverTurn). Tells (driver_answer turn)) told.turns
      (λ turn has. driver_tells j one p.number turn.line.number turn.own ans.same
      (λ e own. (from_filter (λ (entry : Entry). same_actor entry.actor (Driver p.number)) j.entries e (subst (λ (es : List Entry). Contains es e) told.entries_are (to_flat (λ (t : DriverTurn). t.own) told.turns turn e has own))).0)
      turn.line.task turn.says (All-contains IsDriverTurn told.turns turn told.did has))))

  parts_tell : (lines : List (List DriverLine)) (parts : List DriverPart) (js : List Journal) → ((j : Journal) → Contains js j → Contains run.journals j) → DriversAnswer lines parts js
      → All (λ (p : DriverPart). All (λ (a : DriverAnswer). DriverTellsSafely run.journals p.number a.line a.says) p.answers) parts
  parts_tell [] [] [] within ans = All-nil (λ (p : DriverPart). All (λ (a : DriverAnswer). DriverTellsSafely run.journals p.number a.line a.says) p.answers)
  parts_tell (l ∷ lines) (p ∷ parts) (j ∷ js) within ans =
      All-cons (λ (p : DriverPart). All (λ (a : DriverAnswer). DriverTellsSafely run.journals p.number a.line a.says) p.answers) p parts
      (part_tells l p j (within j (at_first j js)) ans.0) (parts_tell lines parts js (λ k has. within k (behind j k js has)) ans.1)
  parts_tell _ _ _ within ans = absurd ans

  -- a store's answers
  store_tells : (j : Journal) → Contains run.journals j → (s d line : ℕ) (own : List Entry) → j.driver ≡ d → ((e : Entry) → Contains own e → Contains j.entries e) → (task : StoreTask) (says : StoreSays)
      → ((m : StepMsg) → Contains (taken says) m → IsSentTo j.entries s m) → StoreDid line task says own → StoreTellsSafely run.journals s d line says
  store_tells j one s d line own same within (asks.Ask request) (stores.Cluster reply) sent did = replied_tells j one d line request reply own same did within
  store_tells j one s d line own same within (asks.Ask request) (stores.Popped message) sent did = absurd did
  store_tells j one s d line own same within asks.Pop (stores.Cluster reply) sent did = absurd did
  store_tells j one s d line own same within asks.Pop (stores.Popped None) sent did = tt
  store_tells j one s d line own same within asks.Pop (stores.Popped (Some m)) sent did =
      let by = sent m (at_first m []) in
      let is = sent_in j.driver (reverse j.entries) by.entry m (legal_of j one) (in_reverse j.entries by.entry by.here) by.sends in
      (by.to, is.driver ∙ same, record { journal = j; one = one; driver_is = same; holds = is.sent })

  module _ (count : ℕ) (any : (d : ℕ) → 0 < d → d ≤ count → (j : Journal) × Contains run.journals j × (j.driver ≡ d)) where
    store_part_tells : (lines : ℕ × List StoreLine) (p : StorePart) → Contains run.stores p → All (GoesTo count) lines.1 → StoreAnswersLines run.journals lines p
        → All (λ (a : StoreAnswer). StoreTellsSafely run.journals p.store a.driver a.line a.says) p.answers
    store_part_tells lines p part goes ans =
        let told = ans.answered in
        let Tells : StoreAnswer → Type 0 = λ (a : StoreAnswer). StoreTellsSafely run.journals p.store a.driver a.line a.says in
        subst (All Tells) told.answers_are (All-map Tells store_answer told.turns (each_of (λ (turn : StoreTurn). Tells (store_answer turn)) told.turns one_turn))
      where
        own_here : (d : ℕ) (turn : StoreTurn) (e : Entry) → turn.line.driver ≡ d → Contains turn.own e → Contains (own_at d turn) e
        own_here d turn e same has = subst (λ (t : Bool). Contains (cond t turn.own []) e) (sym (same_eqb turn.line.driver d same)) has

        one_turn : (turn : StoreTurn) → Contains ans.answered.turns turn → StoreTellsSafely run.journals p.store turn.line.driver turn.line.number turn.says
        one_turn turn has =
            let told = ans.answered in
            let line_has : Contains lines.1 turn.line = subst (λ (ls : List StoreLine). Contains ls turn.line) told.lines_are (to_map (λ (t : StoreTurn). t.line) told.turns turn has) in
            let to = All-contains (GoesTo count) lines.1 turn.line goes line_has in
            let found = any turn.line.driver to.0 to.1 in
            let j : Journal = found.0 in
            let same : turn.line.driver ≡ j.driver = sym found.2 in
            let entries_here = All-contains (λ (journal : Journal). ans.entries journal.driver ≡ entries_of (Store p.store) journal.entries) run.journals j ans.own found.1 in
            let answer_has : Contains p.answers (store_answer turn) = subst (λ (xs : List StoreAnswer). Contains xs (store_answer turn)) told.answers_are (to_map store_answer told.turns turn has) in
            let popped = All-contains (λ (q : StorePart). ArePopped j.entries q.store (taken_by j.driver q.answers)) run.stores p (All-contains (IsLawfulJournal run.stores run.metadata) run.journals j lawful.journals found.1).popped part in
            store_tells j found.1 p.store turn.line.driver turn.line.number turn.own found.2
            (λ e own. (from_filter (λ (entry : Entry). same_actor entry.actor (Store p.store)) j.entries e
            (subst (λ (es : List Entry). Contains es e) (told.entries_are j.driver ∙ entries_here) (to_flat (own_at j.driver) told.turns turn e has (own_here j.driver turn e same own)))).0)
            turn.line.task turn.says
            (λ m took. popped_sent j.entries p.store (taken_by j.driver p.answers) m popped (taken_here j.driver p.answers (store_answer turn) m answer_has same took))
            (All-contains IsStoreTurn told.turns turn told.did has)

    stores_tell : (script : Script) (ids : List ℕ) (parts : List StorePart) → ((s : ℕ) → All (GoesTo count) (lines_of_store s script.lines)) → ((p : StorePart) → Contains parts p → Contains run.stores p)
        → AllZip (StoreAnswersLines run.journals) (lines_of_stores ids script) parts → All (λ (p : StorePart). All (λ (a : StoreAnswer). StoreTellsSafely run.journals p.store a.driver a.line a.says) p.answers) parts
    stores_tell script [] [] goes within zip = All-nil (λ (p : StorePart). All (λ (a : StoreAnswer). StoreTellsSafely run.journals p.store a.driver a.line a.says) p.answers)
    stores_tell script (s ∷ ids) (p ∷ parts) goes within zip =
        All-cons (λ (p : StorePart). All (λ (a : StoreAnswer). StoreTellsSafely run.journals p.store a.driver a.line a.says) p.answers) p parts
        (store_part_tells (s, lines_of_store s script.lines) p (within p (at_first p parts)) (goes s) zip.0) (stores_tell script ids parts goes (λ q has. within q (behind p q parts has)) zip.1)
    stores_tell script [] (p ∷ parts) goes within zip = absurd zip
    stores_tell script (s ∷ ids) [] goes within zip = absurd zip

-- each driver of the script has a journal
journal_of_driver : (script : Script) (run : Run) → AnswersScript script run → (d : ℕ) → 0 < d → d ≤ script.drivers → (j : Journal) × Contains run.journals j × (j.driver ≡ d)
journal_of_driver script run answers d first last =
    let numbers : map (λ (j : Journal). j.driver) run.journals ≡ numbers_from 1 script.drivers =
    same_numbers (lines_of_drivers script) run.drivers run.journals answers.answered.drivers_answer ∙ answers.answered.driver_numbers ∙ (λ i. numbers_from 1 (answers.setup i).drivers) in
    let has : Contains (map (λ (j : Journal). j.driver) run.journals) d = subst (λ (ns : List ℕ). Contains ns d) (sym numbers) (has_numbers 1 script.drivers d (omega (arith, first)) (omega (arith, last))) in
    let found = from_map (λ (j : Journal). j.driver) run.journals d has in
    (found.0, found.1, sym found.2)

pub safe_steps : (script : Script) → IsLawfulScript OnThreads script → (run : Run) → AnswersScript script run → IsLawful run → HasSafeSteps run
safe_steps script lawful run answers legal = record {
  legal = each_of (λ (j : Journal). IsLegal j.driver (reverse j.entries)) run.journals (legal_of run legal);
  entries = each_of (λ (j : Journal). All (λ (entry : Entry). TellsSafely run.journals j.driver entry.line entry.reply) j.entries) run.journals
      (λ j one. each_of (λ (entry : Entry). TellsSafely run.journals j.driver entry.line entry.reply) j.entries (entry_tells run legal j one));
  drivers_are = parts_tell run legal (lines_of_drivers script) run.drivers run.journals (λ j has. has) answers.answered.drivers_answer;
  stores_are = stores_tell run legal script.drivers (journal_of_driver script run answers) script answers.stores run.stores (lines_go script lawful) (λ p has. has) answers.answered.stores_answer;
}
