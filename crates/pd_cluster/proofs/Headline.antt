-- What is printed grants no timestamp twice, from the outcome that was written.
use Rattle.std.proofs.Common.{◌≡◌, ◌≢◌, ◌≤◌, inl, inr, ℕ, List, Bool, true, false, nat_lt, cond, length, Option, None, Some, refl, sym, subst, arith}
use Rattle.std.proofs.lemmas.Bool.Decides.{nat_tests}
use Rattle.std.specs.Prelude.{Result, Ok, Err}
use Rattle.std.specs.Io.KnownBytes.{Appends, Keeps}
use Rattle.pd_lines.specs.Output.{WritesPrefix}
use Rattle.pd_script.specs.Scripts.{script_of}
use Rattle.pd_script.specs.declared.refusal.ScriptRefusal.{ScriptRefusal}
use Rattle.pd_script.specs.declared.script.Mode.{Mode}
use Rattle.pd_script.specs.declared.script.Mode.TheVariants.{Replay as ByLine, Run as OnThreads}
use Rattle.pd_script.specs.declared.script.Script.{Script}
use Rattle.pd_cluster.specs.Answers.{answers_text}
use Rattle.pd_cluster.specs.Outcome.{AreHeededBy, AreHeededIn, AreHeededUnless, AreLeft, EndsHeeding, EndsSaying, IsHeadline, IsHeeded, IsHeededBy, IsOutcome, IsPrinted, IsRunUnless, IsSafeRun, IsScriptRun, IsStepHeadline, Leaves, limit_bytes, Outcome, Prints, PrintsHeeded, PrintsSafeSteps, PrintsUnless, Reads, SafeOutcome, SafeScript, SafelyPrints, script_outcome, talks_in}
use Rattle.pd_cluster.specs.Replay.{answers_of, start}
use Rattle.pd_cluster.specs.Response.{command_in}
use Rattle.pd_cluster.specs.RunOutcome.{RunsHeeded, RunsOver, RunsSafeSteps}
use Rattle.pd_cluster.specs.RunText.{run_text}
use Rattle.pd_cluster.specs.Talks.{Benches}
use Rattle.pd_cluster.specs.declared.command.Command.{Command}
use Rattle.pd_cluster.specs.declared.command.Command.TheVariants.{Replay, Run, Tso}
use Rattle.pd_cluster.specs.declared.status.Status.{Status}
use Rattle.pd_cluster.specs.declared.status.Status.TheVariants.{Done, Usage, Refused, ReadFault, WriteFault, NoMemory, Limit}
use Rattle.pd_script.proofs.Lawful.{lawful as is_lawful}
use Rattle.pd_cluster.proofs.Histories.{safe_steps, same_lines}
use Rattle.pd_cluster.proofs.RunHeeds.{run_heeds}
use Rattle.pd_cluster.proofs.RunSafe.{runs_safely}
use Rattle.pd_cluster.proofs.RunSteps.{safe_steps as run_steps}

keeps_itself : (held : Option (List ℕ)) → Keeps held held
keeps_itself None = tt
keeps_itself (Some held) = refl

-- nothing was printed
pub no_step_printed : (command : Command) (a b held : Option (List ℕ)) → IsStepHeadline command NoMemory a b held held
no_step_printed Replay a b held = inl (keeps_itself held)
no_step_printed Run a b held = inl (keeps_itself held)
no_step_printed (Tso timestamp) a b held = tt

pub none_heeded : (benches : Benches) (command : Command) (a b held : Option (List ℕ)) → AreLeft benches command → IsHeededBy benches command NoMemory a b held held
none_heeded benches Replay a b held h = inl (h, keeps_itself held)
none_heeded benches Run a b held h = inl (h, keeps_itself held)
none_heeded benches (Tso timestamp) a b held h = h

-- nothing was read
pub none_read : (benches : Benches) (command : Command) (a b held : Option (List ℕ)) → benches.new ≡ benches.old → IsHeededBy benches command ReadFault a b held held
none_read benches Replay a b held h = (h, keeps_itself held)
none_read benches Run a b held h = (h, keeps_itself held)
none_read benches (Tso timestamp) a b held h = h

-- of a text that isn't too long
pub short_heeded : (benches : Benches) (mode : Mode) (text : List ℕ) → length text ≤ 16777216 → AreHeededIn benches mode (script_of mode text) → AreHeededBy benches (command_in mode) text
short_heeded benches mode text few h = by mode (subst (λ (long : Bool). AreHeededUnless benches mode long (script_of mode text)) (sym short) h)
  where
    short : nat_lt 16777216 (length text) ≡ false
    short = grind (arith, nat_tests, few)

    by : (m : Mode) → AreHeededUnless benches m (nat_lt 16777216 (length text)) (script_of m text) → AreHeededBy benches (command_in m) text
    by ByLine h = h
    by OnThreads h = h

pub nothing_printed : (command : Command) (a b held : Option (List ℕ)) → IsHeadline command NoMemory a b held held
nothing_printed Replay a b held = inl (keeps_itself held)
nothing_printed Run a b held = inl (keeps_itself held)
nothing_printed (Tso timestamp) a b held = tt

-- so much is said of each script that the text is, and of what is printed of it
abbrev Fits : Benches → (Script → (List ℕ → Type 0) → Type 0) → Bool → Result Script ScriptRefusal → Type 1
Fits benches Says long r = (script : Script) → long ≡ false → r ≡ Ok script → (Writes : List ℕ → Type 0) → Writes (answers_text (answers_of (talks_in benches script) script)) → Says script Writes

-- what the outcome of a text prints
prints_one : (benches : Benches) (Says : Script → (List ℕ → Type 0) → Type 0) (r : Result Script ScriptRefusal) → Fits benches Says false r → (Writes : List ℕ → Type 0) → Writes (script_outcome benches r).text → Prints Says r Writes
prints_one benches Says (Ok script) fits Writes written = fits script refl refl Writes written
prints_one benches Says (Err refusal) fits Writes written = written

prints : (benches : Benches) (Says : Script → (List ℕ → Type 0) → Type 0) (long : Bool) (r : Result Script ScriptRefusal) → Fits benches Says long r → (Writes : List ℕ → Type 0) → Writes (cond long limit_bytes (script_outcome benches r)).text → PrintsUnless Says long r Writes
prints benches Says true r fits Writes written = written
prints benches Says false r fits Writes written = prints_one benches Says r fits Writes written

-- so much is said of each script that the text is, and of what is printed of a lawful run of it over the benches
abbrev FitsRun : Benches → (Script → (List ℕ → Type 0) → Type 0) → Bool → Result Script ScriptRefusal → Type 1
FitsRun benches Says long r = (script : Script) → long ≡ false → r ≡ Ok script → (ran : RunsOver benches script) → (Writes : List ℕ → Type 0) → Writes (run_text ran.run) → Says script Writes

-- what a run on threads prints
runs_one : (benches : Benches) (Says : Script → (List ℕ → Type 0) → Type 0) (r : Result Script ScriptRefusal) → FitsRun benches Says false r → (outcome : Outcome) → IsScriptRun benches r outcome → (Writes : List ℕ → Type 0) → Writes outcome.text → Prints Says r Writes
runs_one benches Says (Ok script) fits outcome (done, tells) Writes written = fits script refl refl tells.ran Writes (subst Writes tells.told written)
runs_one benches Says (Err refusal) fits outcome is Writes written = subst (λ (o : Outcome). Writes o.text) is written

runs : (benches : Benches) (Says : Script → (List ℕ → Type 0) → Type 0) (long : Bool) (r : Result Script ScriptRefusal) → FitsRun benches Says long r → (outcome : Outcome) → IsRunUnless benches long r outcome → (Writes : List ℕ → Type 0) → Writes outcome.text → PrintsUnless Says long r Writes
runs benches Says true r fits outcome is Writes written = subst (λ (o : Outcome). Writes o.text) is written
runs benches Says false r fits outcome is Writes written = runs_one benches Says r fits outcome is Writes written

-- by the status
by_status : (mode : Mode) (Says : Script → (List ℕ → Type 0) → Type 0) (a b old new : Option (List ℕ)) (outcome : Outcome) (status : Status) → ((Writes : List ℕ → Type 0) → Writes outcome.text → IsPrinted mode Says a b Writes) → status ≢ ReadFault → Leaves outcome status old new
    → EndsSaying mode Says status a b old new
by_status mode Says a b old new outcome Done says read h = says (Appends old new) h.1
by_status mode Says a b old new outcome Usage says read h = says (Appends old new) h.1
by_status mode Says a b old new outcome Refused says read h = says (Appends old new) h.1
by_status mode Says a b old new outcome ReadFault says read h = absurd (read refl)
by_status mode Says a b old new outcome WriteFault says read h = says (WritesPrefix old new) h
by_status mode Says a b old new outcome NoMemory says read h = inr (says (WritesPrefix old new) h)
by_status mode Says a b old new outcome Limit says read h = says (Appends old new) h.1

-- the same of what was asked of the benches
heeding : (benches : Benches) (command : Command) (mode : Mode) (Says : Script → (List ℕ → Type 0) → Type 0) (a b old new : Option (List ℕ)) (outcome : Outcome) (status : Status) → ((Writes : List ℕ → Type 0) → Writes outcome.text → IsPrinted mode Says a b Writes) → status ≢ ReadFault → Leaves outcome status old new
    → EndsHeeding benches command mode Says status a b old new
heeding benches command mode Says a b old new outcome Done says read h = says (Appends old new) h.1
heeding benches command mode Says a b old new outcome Usage says read h = says (Appends old new) h.1
heeding benches command mode Says a b old new outcome Refused says read h = says (Appends old new) h.1
heeding benches command mode Says a b old new outcome ReadFault says read h = absurd (read refl)
heeding benches command mode Says a b old new outcome WriteFault says read h = says (WritesPrefix old new) h
heeding benches command mode Says a b old new outcome NoMemory says read h = inr (says (WritesPrefix old new) h)
heeding benches command mode Says a b old new outcome Limit says read h = says (Appends old new) h.1

-- of a replay
replayed : (benches : Benches) (Says : Script → (List ℕ → Type 0) → Type 0) (text : List ℕ) (outcome : Outcome) (a b : Option (List ℕ)) → Reads Replay a b text → IsOutcome benches Replay text outcome → Fits benches Says (nat_lt 16777216 (length text)) (script_of ByLine text)
    → (Writes : List ℕ → Type 0) → Writes outcome.text → IsPrinted ByLine Says a b Writes
replayed benches Says text outcome a b taken lawful fits Writes written =
    record { text = text; taken = taken; printed = prints benches Says (nat_lt 16777216 (length text)) (script_of ByLine text) fits Writes (subst (λ (o : Outcome). Writes o.text) lawful written) }

-- of a run on threads
ran_on : (benches : Benches) (Says : Script → (List ℕ → Type 0) → Type 0) (text : List ℕ) (outcome : Outcome) (a b : Option (List ℕ)) → Reads Run a b text → IsOutcome benches Run text outcome → FitsRun benches Says (nat_lt 16777216 (length text)) (script_of OnThreads text)
    → (Writes : List ℕ → Type 0) → Writes outcome.text → IsPrinted OnThreads Says a b Writes
ran_on benches Says text outcome a b taken lawful fits Writes written =
    record { text = text; taken = taken; printed = runs benches Says (nat_lt 16777216 (length text)) (script_of OnThreads text) fits outcome lawful Writes written }

pub headline : (benches : Benches) (command : Command) (text : List ℕ) (outcome : Outcome) (a b : Option (List ℕ)) → Reads command a b text → IsOutcome benches command text outcome → SafeOutcome command text
    → (status : Status) (old new : Option (List ℕ)) → status ≢ ReadFault → Leaves outcome status old new → IsHeadline command status a b old new
headline benches Replay text outcome a b taken lawful safe status old new read h =
    by_status ByLine (SafelyPrints ByLine) a b old new outcome status
    (replayed benches (SafelyPrints ByLine) text outcome a b taken lawful
    (λ script short is Writes written. record {
      answers = answers_of (talks_in benches script) script;
      lines = same_lines script.lines (start (talks_in benches script) script);
      printed = written;
      safe = (let run : IsSafeRun (talks_in benches script) script = subst SafeScript is safe (talks_in benches script) in run.answers);
    })) read h
headline benches Run text outcome a b taken lawful safe status old new read h =
    by_status OnThreads (SafelyPrints OnThreads) a b old new outcome status
    (ran_on benches (SafelyPrints OnThreads) text outcome a b taken lawful (λ script short is ran Writes written. runs_safely benches script ran Writes written)) read h
headline benches (Tso timestamp) text outcome a b taken lawful safe status old new read h = tt

-- what the benches were asked, where the text is a script
heeded_in : (benches : Benches) (long : Bool) (r : Result Script ScriptRefusal) (script : Script) → long ≡ false → r ≡ Ok script → AreHeededUnless benches ByLine long r → IsHeeded benches script
heeded_in benches long r script short is h = subst (AreHeededIn benches ByLine) is (subst (λ (t : Bool). AreHeededUnless benches ByLine t r) short h)

pub step_headline : (benches : Benches) (command : Command) (text : List ℕ) (outcome : Outcome) (a b : Option (List ℕ)) → Reads command a b text → IsOutcome benches command text outcome → AreHeededBy benches command text
    → (status : Status) (old new : Option (List ℕ)) → status ≢ ReadFault → Leaves outcome status old new → IsStepHeadline command status a b old new
step_headline benches Replay text outcome a b taken lawful heeded status old new read h =
    by_status ByLine PrintsSafeSteps a b old new outcome status
    (replayed benches PrintsSafeSteps text outcome a b taken lawful
    (λ script short is Writes written. record {
      answers = answers_of (talks_in benches script) script;
      lines = same_lines script.lines (start (talks_in benches script) script);
      printed = written;
      safe = safe_steps (talks_in benches script) script (is_lawful ByLine text script is) (heeded_in benches (nat_lt 16777216 (length text)) (script_of ByLine text) script short is heeded).turns;
    })) read h
step_headline benches Run text outcome a b taken lawful heeded status old new read h =
    by_status OnThreads RunsSafeSteps a b old new outcome status
    (ran_on benches RunsSafeSteps text outcome a b taken lawful
    (λ script short is ran Writes written. record {
      run = ran.run;
      lines = ran.answers;
      printed = written;
      safe = run_steps script (is_lawful OnThreads text script is) ran.run ran.answers ran.lawful;
    })) read h
step_headline benches (Tso timestamp) text outcome a b taken lawful heeded status old new read h = tt

pub heeded_headline : (benches : Benches) (command : Command) (text : List ℕ) (outcome : Outcome) (a b : Option (List ℕ)) → Reads command a b text → IsOutcome benches command text outcome → AreHeededBy benches command text
    → (status : Status) (old new : Option (List ℕ)) → status ≢ ReadFault → Leaves outcome status old new → IsHeededBy benches command status a b old new
heeded_headline benches Replay text outcome a b taken lawful heeded status old new read h =
    heeding benches Replay ByLine (PrintsHeeded benches) a b old new outcome status
    (replayed benches (PrintsHeeded benches) text outcome a b taken lawful
    (λ script short is Writes written. record {
      answers = answers_of (talks_in benches script) script;
      lines = same_lines script.lines (start (talks_in benches script) script);
      printed = written;
      heeded = (heeded_in benches (nat_lt 16777216 (length text)) (script_of ByLine text) script short is heeded).told;
    })) read h
heeded_headline benches Run text outcome a b taken lawful heeded status old new read h =
    heeding benches Run OnThreads (RunsHeeded benches) a b old new outcome status
    (ran_on benches (RunsHeeded benches) text outcome a b taken lawful
    (λ script short is ran Writes written. record { run = ran.run; lines = ran.answers; printed = written; heeded = run_heeds benches script ran })) read h
heeded_headline benches (Tso timestamp) text outcome a b taken lawful heeded status old new read h = heeded
