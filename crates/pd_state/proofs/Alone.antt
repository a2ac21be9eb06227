-- A request that asks for no names of schedulers heard nothing of the bench, and leaves it.
use Rattle.std.proofs.Common.{refl, ◌≡◌, ℕ, Bool, false, cond, List, [], length, ap, sym, ◌∙◌, subst, Option, Some, None}
use Rattle.std.specs.Prelude.{Result, Ok, IfOk}
use Rattle.pd_types.specs.declared.memory.NoMemory.{NoMemory}
use Rattle.pd_types.specs.declared.request.Request.{Request}
use Rattle.pd_types.specs.declared.request.Request.TheVariants as ask
use Rattle.sched_api.specs.Benches.{Seats, names_of}
use Rattle.sched_api.specs.declared.scheduler.Fate.{Fate}
use Rattle.sched_api.specs.declared.scheduler.Said.{Said}
use Rattle.pd_ctl.specs.declared.command.Command.{Command}
use Rattle.pd_ctl.specs.declared.command.Command.TheVariants as commands
use Rattle.pd_ctl.specs.declared.fault.CtlFault.{CtlFault}
use Rattle.pd_state.specs.BenchHeard.{Becomes, HearsBench, Leaves, asked_at, asks_names, dropped, dropped_by, fate_told, names_by, turns_of}
use Rattle.pd_state.specs.Heard.{IsAlone}
use Rattle.pd_state.specs.Reports.{command_told}
use Rattle.pd_state.specs.declared.heard.Done.{Done}
use Rattle.pd_state.specs.declared.heard.Heard.{Heard}
use Rattle.pd_state.specs.declared.part.Part.{Part}
use Rattle.pd_state.specs.declared.reply.Reply.{Reply}
use Rattle.pd_state.proofs.Carried.{on_ok}

no_turn : (part : Option Part) (request : Request) (names : List (List ℕ)) → asks_names request ≡ false → turns_of part request names ≡ 0
no_turn None request names asks = refl
no_turn (Some part) (ask.Schedule moment) names asks = absurd cc
no_turn (Some part) request names asks = refl

none_by : (told : Result Command CtlFault) (names : List (List ℕ)) → names_by told ≡ false → dropped_by told names ≡ None
none_by (Ok (commands.SchedulerRemove name)) names asks = absurd cc
none_by told names asks = refl

none_goes : (part : Option Part) (request : Request) (names : List (List ℕ)) → asks_names request ≡ false → dropped part request names ≡ None
none_goes None request names asks = refl
none_goes (Some part) (ask.Ctl moment words) names asks = none_by (command_told words) names asks
none_goes (Some part) request names asks = refl

-- a bench of which nothing is said, and from which none goes
pub keeps_so : (name : Option (List ℕ)) (seats : Seats) → name ≡ None → Leaves name seats seats
keeps_so name seats left = subst (λ (o : Option (List ℕ)). Leaves o seats seats) (sym left) refl

stays_so : (now : ℕ) (fate : Option Fate) (said : List Said) (name : Option (List ℕ)) (seats : Seats) → said ≡ [] → name ≡ None → Becomes now fate said name seats seats
stays_so now fate said name seats none left = subst (λ (l : List Said). Becomes now fate l name seats seats) (sym none) (keeps_so name seats left)

-- The same of what a request's function made; of the request it is told what it is
module _ (part : Option Part) (request is : Request) (same : request ≡ is) (asks : asks_names is ≡ false) where
  asks_still : asks_names request ≡ false
  asks_still = ap asks_names same ∙ asks

  pub hears_alone : (reply : Reply) (seats : Seats) (heard : Heard) → IsAlone heard → HearsBench part request reply heard seats seats
  hears_alone reply seats heard alone = record {
    turns = ap length alone.bench ∙ sym (no_turn part request heard.names asks_still);
    names = alone.names ∙ ap (λ (t : Bool). cond t (names_of seats) []) (sym asks_still);
    becomes = stays_so (asked_at part request) (fate_told reply) heard.bench (dropped part request heard.names) seats alone.bench (none_goes part request heard.names asks_still);
  }

  pub hears_ok : (seats : Seats) (r : Result Done NoMemory) → IfOk r (λ done. IsAlone done.heard) → IfOk r (λ done. HearsBench part request done.reply done.heard seats seats)
  hears_ok seats r h = on_ok r (λ d. IsAlone d.heard) (λ d. HearsBench part request d.reply d.heard seats seats) (λ d alone. hears_alone d.reply seats d.heard alone) h
