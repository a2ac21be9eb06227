-- What a scheduler's turn and a command tell of the bench, as the request that was served tells it.
use Rattle.std.proofs.Common.{refl, ◌≡◌, ℕ, List, [], length, ap, sym, ◌∙◌, subst, Option, Some, None}
use Rattle.std.specs.Prelude.{Result, Ok, Err, IfOk}
use Rattle.pd_types.specs.declared.memory.NoMemory.{NoMemory}
use Rattle.pd_types.specs.declared.request.Request.{Request}
use Rattle.pd_types.specs.declared.request.Request.TheVariants as ask
use Rattle.meta_store.specs.Asked.{AreAsked}
use Rattle.sched_api.specs.Benches.{Seats, names_of}
use Rattle.sched_api.specs.declared.scheduler.Said.{Said}
use Rattle.pd_state.specs.BenchHeard.{Becomes, HearsBench, Leaves, asked_at, dropped, fate_told, names_heard, turns_of}
use Rattle.pd_state.specs.Calls.{next_call}
use Rattle.pd_state.specs.declared.heard.Done.{Done}
use Rattle.pd_state.specs.declared.part.Part.{Part}
use Rattle.pd_state.proofs.Carried.{on_ok}

-- the three of one reply
all_heard : (part : Option Part) (request : Request) (r : Result Done NoMemory) (old new : Seats) → IfOk r (λ done. length done.heard.bench ≡ turns_of part request done.heard.names) → IfOk r (λ done. done.heard.names ≡ names_heard request (names_of old))
    → IfOk r (λ done. Becomes (asked_at part request) (fate_told done.reply) done.heard.bench (dropped part request done.heard.names) old new) → IfOk r (λ done. HearsBench part request done.reply done.heard old new)
all_heard part request (Ok done) old new turns names becomes = record { turns = turns; names = names; becomes = becomes }
all_heard part request (Err e) old new turns names becomes = tt

-- a turn in a term
module _ (part : Option Part) (held : Part) (request : Request) (moment : ℕ) (r : Result Done NoMemory) (part_is : part ≡ Some held) (same : request ≡ ask.Schedule moment) where
  both : (let x : Option Part × Request = (part, request) in x) ≡ (Some held, ask.Schedule moment)
  both = λ i. (part_is i, same i)

  pub schedule_asked : IfOk r (λ done. AreAsked (next_call (Some held) (ask.Schedule moment) done.heard.bench) [] done.heard.answers) → IfOk r (λ done. AreAsked (next_call part request done.heard.bench) [] done.heard.answers)
  schedule_asked h = subst (λ (x : Option Part × Request). IfOk r (λ done. AreAsked (next_call x.0 x.1 done.heard.bench) [] done.heard.answers)) (sym both) h

  pub schedule_hears : (old new : Seats) → IfOk r (λ done. length done.heard.bench ≡ turns_of (Some held) (ask.Schedule moment) done.heard.names) → IfOk r (λ done. done.heard.names ≡ names_of old)
      → IfOk r (λ done. Becomes (asked_at (Some held) (ask.Schedule moment)) (fate_told done.reply) done.heard.bench (dropped (Some held) (ask.Schedule moment) done.heard.names) old new) → IfOk r (λ done. HearsBench part request done.reply done.heard old new)
  schedule_hears old new turns names becomes =
      subst (λ (x : Option Part × Request). IfOk r (λ done. HearsBench x.0 x.1 done.reply done.heard old new)) (sym both) (all_heard (Some held) (ask.Schedule moment) r old new turns names becomes)

-- the names that a turn without a term hears
pub names_scheduled : (request : Request) (moment : ℕ) (names heard : List (List ℕ)) → request ≡ ask.Schedule moment → heard ≡ names → heard ≡ names_heard request names
names_scheduled request moment names heard same is = is ∙ ap (λ (q : Request). names_heard q names) (sym same)

-- a command
no_ctl_turn : (part : Option Part) (moment : ℕ) (words : List ℕ) (names : List (List ℕ)) → turns_of part (ask.Ctl moment words) names ≡ 0
no_ctl_turn None moment words names = refl
no_ctl_turn (Some part) moment words names = refl

module _ (part : Option Part) (request : Request) (moment : ℕ) (words : List ℕ) (r : Result Done NoMemory) (same : request ≡ ask.Ctl moment words) where
  ctl_turns : IfOk r (λ done. done.heard.bench ≡ []) → IfOk r (λ done. length done.heard.bench ≡ turns_of part request done.heard.names)
  ctl_turns h =
      on_ok r (λ done. done.heard.bench ≡ []) (λ done. length done.heard.bench ≡ turns_of part request done.heard.names)
      (λ done silent. ap length silent ∙ sym (ap (λ (q : Request). turns_of part q done.heard.names) same ∙ no_ctl_turn part moment words done.heard.names)) h

  pub ctl_asks : IfOk r (λ done. AreAsked (next_call part (ask.Ctl moment words) done.heard.bench) [] done.heard.answers) → IfOk r (λ done. AreAsked (next_call part request done.heard.bench) [] done.heard.answers)
  ctl_asks h = subst (λ (q : Request). IfOk r (λ done. AreAsked (next_call part q done.heard.bench) [] done.heard.answers)) (sym same) h

  -- nothing is said of the bench, as the command tells it
  ctl_bench : (old new : Seats) → IfOk r (λ done. done.heard.bench ≡ []) → IfOk r (λ done. Leaves (dropped part (ask.Ctl moment words) done.heard.names) old new) → IfOk r (λ done. Becomes (asked_at part request) (fate_told done.reply) done.heard.bench (dropped part request done.heard.names) old new)
  ctl_bench old new silent h = by r silent (subst (λ (q : Request). IfOk r (λ done. Leaves (dropped part q done.heard.names) old new)) (sym same) h)
    where
      by : (s : Result Done NoMemory) → IfOk s (λ done. done.heard.bench ≡ []) → IfOk s (λ done. Leaves (dropped part request done.heard.names) old new) → IfOk s (λ done. Becomes (asked_at part request) (fate_told done.reply) done.heard.bench (dropped part request done.heard.names) old new)
      by (Ok done) none left = subst (λ (l : List Said). Becomes (asked_at part request) (fate_told done.reply) l (dropped part request done.heard.names) old new) (sym none) left
      by (Err e) none left = tt

  pub ctl_hears : (old new : Seats) → IfOk r (λ done. done.heard.bench ≡ []) → IfOk r (λ done. done.heard.names ≡ names_heard (ask.Ctl moment words) (names_of old)) → IfOk r (λ done. Leaves (dropped part (ask.Ctl moment words) done.heard.names) old new)
      → IfOk r (λ done. HearsBench part request done.reply done.heard old new)
  ctl_hears old new silent names left =
      all_heard part request r old new (ctl_turns silent) (subst (λ (q : Request). IfOk r (λ done. done.heard.names ≡ names_heard q (names_of old))) (sym same) names) (ctl_bench old new silent left)
