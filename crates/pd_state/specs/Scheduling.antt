-- What a scheduler's turn does (PD documentation, "Scheduling"). Nothing is believed of a proposal.
use Rattle.std.specs.Prelude.{ℕ, List, [], ◌∷◌, Option, Some, None}
use Rattle.pd_types.specs.declared.proposal.Proposal.{Proposal}
use Rattle.sched_api.specs.declared.scheduler.Fate.{Fate}
use Rattle.sched_api.specs.declared.scheduler.Fate.TheVariants as fates
use Rattle.sched_api.specs.declared.scheduler.Said.{Said}
use Rattle.pd_state.specs.Adding.{Around, Planning, Work, around_at, planning_of}
use Rattle.pd_state.specs.Asking.{Asking, and_then, done}
use Rattle.pd_state.specs.Checking.{Deed, idle}
use Rattle.pd_state.specs.Wishing.{region_of, try_wished, wish_of, wished}
use Rattle.pd_state.specs.declared.adding.Adding.{Adding}
use Rattle.pd_state.specs.declared.adding.Adding.TheVariants as adding
use Rattle.pd_state.specs.declared.part.Part.{Part}
use Rattle.pd_state.specs.declared.reply.Reply.TheVariants as replies
use Rattle.pd_state.specs.declared.wishing.Asker.{Asker}
use Rattle.pd_state.specs.declared.scheduling.TheConstants.{SCHEDULER_PRIORITY}

-- an operator of a scheduler has its name as its kind
abbrev pub scheduler : List ℕ → Asker
scheduler name = record { kind = name; priority = SCHEDULER_PRIORITY }

-- what became of a proposal for a region
abbrev pub fate : Adding → ℕ → Fate
fate (adding.Added answer) region = fates.Added region
fate _ region = fates.Refused

-- a proposal was carried as far as this
abbrev pub proposed : Around → List ℕ → Proposal → Work → Deed
proposed around name proposal work = record { planning = work.planning; stores = around.stores; sents = work.sents; reply = replies.Proposed name proposal work.adding }

-- what a scheduler of this name answered
abbrev pub heed : Around → Planning → List ℕ → Option Proposal → Asking Deed
heed around planning name None = done (idle around planning (replies.Silent name))
heed around planning name (Some proposal) =
    and_then (try_wished around (scheduler name) planning (wished around (region_of proposal) (wish_of proposal))) (λ work. done (proposed around name proposal work))

-- what the bench said in this turn: nothing where it has no scheduler
abbrev pub schedule : Around → Planning → List Said → Asking Deed
schedule around planning [] = done (idle around planning replies.NoScheduler)
schedule around planning (said ∷ more) = heed around planning said.name said.proposal

-- the request of this moment to a term's cluster that lets the next scheduler propose, where the bench said this
abbrev pub schedule_of : Part → ℕ → List Said → Asking Deed
schedule_of part moment said = schedule (around_at part moment) (planning_of part) said
