-- How far a replay came, however its benches go on.
use Rattle.std.proofs.Common.{◌≡◌, ◌<◌, ℕ, suc, ◌+◌, true, None, List, [], ◌∷◌, ◌++◌, length, replicate, get_or, refl, sym, ap, subst, ◌∙◌, append-nil, arith}
use Rattle.std.specs.Fmt.{decimal}
use Rattle.std.specs.Prelude.{codes}
use Rattle.std.proofs.lemmas.List.{length-append, length-replicate}
use Rattle.std.proofs.lemmas.List.Elements.{recursion_from_All}
use Rattle.pd_types.specs.declared.request.Request.{Request}
use Rattle.pd_script.specs.Lawful.{IsLawfulScript}
use Rattle.pd_script.specs.declared.act.Act.{Act}
use Rattle.pd_script.specs.declared.act.Act.TheVariants.{Ask, Pop}
use Rattle.pd_script.specs.declared.act.Line.{Line}
use Rattle.pd_script.specs.declared.script.Mode.TheVariants.{Replay as ByLine}
use Rattle.pd_script.specs.declared.script.Script.{Script}
use Rattle.sched_api.specs.Benches.{Seats}
use Rattle.sched_api.specs.declared.scheduler.Said.{Said as Heeded}
use Rattle.pd_cluster.specs.Answers.{Answer, answer_text, answers_text, said_text}
use Rattle.pd_cluster.specs.Clusters.{HoweverTheyEnd, state_of}
use Rattle.pd_cluster.specs.Outcome.{IsHeeded}
use Rattle.pd_cluster.specs.Replay.{SaysEnoughFor, State, TakeTurns, answers_from, answers_of, line_by, line_step, oracle_line, pop_of, request_of, start, state_after}
use Rattle.pd_cluster.specs.Talks.{GoOn, Talk, heeded_of, silence, talk_at, talks_from, talks_of}
use Rattle.pd_cluster.specs.declared.replay.Replay.{Replay}
use Rattle.pd_cluster.specs.declared.said.Said.{Said}
use Rattle.pd_cluster.proofs.Benching.{goes_on, goes_same}
use Rattle.pd_cluster.proofs.Heeding.{all_said, are_heeded, heard_all}
use Rattle.pd_cluster.proofs.Histories.{each_lawful, text_more}

-- the first state of a script, where its drivers' benches go on from these to those
abbrev pub first_of : List Seats → List Seats → Script → State
first_of old ends script = start (talks_of (script.drivers + 1) old ends) script

-- The lines before these are run and answered: what is left of them answers the rest, and leaves what the whole script does
pub record IsReached (old now : List Seats) (script : Script) (replay : Replay) (lines : List Line) (text : List ℕ) : Type 0 where
  pub goes : GoOn old now
  pub texts : HoweverTheyEnd now (λ ends. text ++ answers_text (answers_from (state_of replay now ends) lines) ≡ answers_text (answers_of (talks_of (script.drivers + 1) old ends) script))
  pub states : HoweverTheyEnd now (λ ends. state_after (state_of replay now ends) lines ≡ state_after (first_of old ends script) script.lines)
  pub turns : HoweverTheyEnd now (λ ends. TakeTurns (state_of replay now ends) lines → TakeTurns (first_of old ends script) script.lines)

-- a line's text
pub answer_more : (old new : List ℕ) (line : Line) (one two : Said) → new ≡ old ++ (decimal line.number ++ codes " " ++ said_text one ++ codes "\n") → one ≡ two → (let answer : Answer = record { line = line; said = two } in new ≡ old ++ answer_text answer)
answer_more old new line one two new_is is = new_is ∙ ap (λ (s : Said). old ++ (decimal line.number ++ codes " " ++ said_text s ++ codes "\n")) is

-- nothing is done yet
pub begins_so : (old : List Seats) (script : Script) (replay : Replay) (lines : List Line) (text : List ℕ) → lines ≡ script.lines → text ≡ [] → ((ends : List Seats) → state_of replay old ends ≡ first_of old ends script) → IsReached old old script replay lines text
begins_so old script replay lines text lines_is none state = record {
  goes = goes_same old;
  texts = λ ends goes. (λ i. none i ++ answers_text (answers_from (state ends i) (lines_is i)));
  states = λ ends goes. (λ i. state_after (state ends i) (lines_is i));
  turns = λ ends goes rest. subst (λ (ls : List Line). TakeTurns (first_of old ends script) ls) lines_is (subst (λ (s : State). TakeTurns s lines) (state ends) rest);
}

-- one line more
pub goes_so : (old now next : List Seats) (script : Script) (replay after : Replay) (line : Line) (lines : List Line) (text more : List ℕ) → IsReached old now script replay (line ∷ lines) text → GoOn now next
    → HoweverTheyEnd next (λ ends. more ≡ text ++ answer_text (record { line = line; said = (line_step (state_of replay now ends) line).said }))
    → HoweverTheyEnd next (λ ends. state_of after next ends ≡ (line_step (state_of replay now ends) line).after) → HoweverTheyEnd next (λ ends. SaysEnoughFor (state_of replay now ends) (request_of line.act))
    → IsReached old next script after lines more
goes_so old now next script replay after line lines text more reached goes texts states turns = record {
  goes = goes_on old now next reached.goes goes;
  texts = λ ends on. text_more (state_of replay now ends) (state_of after next ends) line lines text more _ (states ends on) (texts ends on) (reached.texts ends (goes_on now next ends goes on));
  states = λ ends on. ap (λ (s : State). state_after s lines) (states ends on) ∙ reached.states ends (goes_on now next ends goes on);
  turns = λ ends on rest. reached.turns ends (goes_on now next ends goes on) (turns ends on, subst (λ (s : State). TakeTurns s lines) (states ends on) rest);
}

-- all is done
none_left : {A : Type 0} (xs : List A) → length xs ≡ 0 → xs ≡ []
none_left [] is = refl
none_left (x ∷ xs) is = absurd (omega (arith, is))

pub ends_text : (old now : List Seats) (script : Script) (replay : Replay) (lines : List Line) (text : List ℕ) → length lines ≡ 0 → IsReached old now script replay lines text → text ≡ answers_text (answers_of (talks_of (script.drivers + 1) old now) script)
ends_text old now script replay lines text is reached =
    let none : lines ≡ [] = none_left lines is in
    sym (append-nil text) ∙ ap (λ (ls : List Line). text ++ answers_text (answers_from (state_of replay now now) ls)) (sym none) ∙ reached.texts now (goes_same now)

-- so the answers tell what the benches said
pub ends_heeded : (old now : List Seats) (script : Script) (replay : Replay) (lines : List Line) (text : List ℕ) → length lines ≡ 0 → IsLawfulScript ByLine script → IsReached old now script replay lines text → IsHeeded (record { old = old; new = now }) script
ends_heeded old now script replay lines text is lawful reached =
    let none : lines ≡ [] = none_left lines is in
    let state : State = first_of old now script in
    let answers : List Answer = answers_of (talks_of (script.drivers + 1) old now) script in
    let rest : List Talk = replicate (script.drivers + 1) silence in
    let places : script.drivers < length (talks_of (script.drivers + 1) old now) =
    (let one = length-append (talks_from old now) rest in let two = length-replicate (script.drivers + 1) silence in omega (arith, one, two)) in
    let last : state_after state script.lines ≡ state_of replay now now = sym (reached.states now (goes_same now)) ∙ ap (λ (ls : List Line). state_after (state_of replay now now) ls) none in
    record {
      told = are_heeded answers 1 old now rest reached.goes (λ k.
          let said : List Heeded = heeded_of (1 + k) answers in
          let end : (talk_at (state_after state script.lines).kept.talks (1 + k)).said ≡ [] = ap (λ (s : State). (talk_at s.kept.talks (1 + k)).said) last ∙ all_said_from (length replay.clusters.items) now k in
          sym (append-nil said) ∙ ap (λ (xs : List Heeded). said ++ xs) (sym end)
          ∙ heard_all script.drivers script.clients script.lines state (1 + k) places (each_lawful ByLine script.drivers script.clients true script.lines lawful.lines) (recursion_from_All _ _ lawful.actors) ∙ first_is k);
      turns = reached.turns now (goes_same now) (subst (λ (ls : List Line). TakeTurns (state_of replay now now) ls) (sym none) tt);
    }
  where
    all_said_from : (places : ℕ) (seats : List Seats) (k : ℕ) → (talk_at (talks_of places seats seats) (1 + k)).said ≡ []
    all_said_from places seats k = ap (λ (i : ℕ). (talk_at (talks_of places seats seats) i).said) (let same : 1 + k ≡ suc k = omega arith in same) ∙ all_said places seats k

    first_is : (k : ℕ) → (talk_at (talks_of (script.drivers + 1) old now) (1 + k)).said ≡ (get_or (talks_from old now ++ replicate (script.drivers + 1) silence) k silence).said
    first_is k = ap (λ (i : ℕ). (talk_at (talks_of (script.drivers + 1) old now) i).said) (let same : 1 + k ≡ suc k = omega arith in same)

-- A LINE THAT NEITHER ASKS A CLUSTER NOR TAKES OF IT
pub asks_none : (act : Act) → ((driver : ℕ) (request : Request) → act ≡ Ask driver request → ⊥) → request_of act ≡ None
asks_none (Ask driver request) never = absurd (never driver request refl)
asks_none _ never = refl

takes_none : (act : Act) → ((store driver : ℕ) → act ≡ Pop store driver → ⊥) → pop_of act ≡ None
takes_none (Pop store driver) never = absurd (never store driver refl)
takes_none _ never = refl

-- is one of the oracle
pub is_oracles : (state : State) (line : Line) → ((driver : ℕ) (request : Request) → line.act ≡ Ask driver request → ⊥) → ((store driver : ℕ) → line.act ≡ Pop store driver → ⊥) → oracle_line state line ≡ line_step state line
is_oracles state line no_ask no_pop = λ i. line_by state line (sym (asks_none line.act no_ask) i) (sym (takes_none line.act no_pop) i)
