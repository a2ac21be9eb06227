-- What a turn leaves of the scheduler that took it.
use Rattle.std.proofs.Common.{refl, ◌≡◌, ℕ, List, [], ◌∷◌, ap, ◌∙◌, sym, subst, Option, Some, None, option_map}
use Rattle.op_control.specs.declared.turn.Dispatch.{Dispatch}
use Rattle.pd_types.specs.declared.proposal.Proposal.{Proposal}
use Rattle.sched_api.proofs.LawLemmas.{asked_now, told_last}
use Rattle.sched_api.specs.Benches.{Seat, Seats, asked_last, told}
use Rattle.sched_api.specs.declared.scheduler.Fate.{Fate}
use Rattle.sched_api.specs.declared.scheduler.Fate.TheVariants as fates
use Rattle.sched_api.specs.declared.scheduler.Said.{Said}
use Rattle.pd_state.specs.BenchHeard.{Becomes, HasHeard, OverBench, Turned, asked_at, dropped, fate_told}
use Rattle.pd_state.specs.declared.adding.Adding.{Adding}
use Rattle.pd_state.specs.declared.adding.Adding.TheVariants as adding
use Rattle.pd_state.specs.declared.entry.Entry.{Entry}
use Rattle.pd_state.specs.declared.part.Part.{Part}
use Rattle.pd_state.specs.declared.reply.Reply.TheVariants as replies

heard_of_turn : (now : ℕ) (fate : Option Fate) (said : Said) (old new : Seats) → Turned now fate said old new → (one : Seat) × (asked_last new ≡ Some one) × HasHeard now fate said one
heard_of_turn now None said old new turned =
    let one = turned.turn.asked in
    (one, ap asked_last turned.told ∙ asked_now old turned.asked now said turned.turn, record { name = sym turned.turn.named; last = sym turned.turn.answer; at = turned.turn.at; heard = turned.turn.heard })
heard_of_turn now (Some fate) said old new turned =
    let one = turned.turn.asked in
    let left : asked_last new ≡ Some (told fate one) = told_last fate turned.asked new turned.told ∙ ap (option_map (told fate)) (asked_now old turned.asked now said turned.turn) in
    (told fate one, left, record { name = sym turned.turn.named; last = sym turned.turn.answer; at = turned.turn.at; heard = refl })

pub who_spoke : (part : Option Part) (entry : Entry) (said : Said) (old new : Seats) → OverBench part entry old new → entry.bench ≡ said ∷ [] → (one : Seat) × (asked_last new ≡ Some one) × HasHeard (asked_at part entry.request) (fate_told entry.reply) said one
who_spoke part entry said old new over is =
    let now = asked_at part entry.request in
    let fate = fate_told entry.reply in
    heard_of_turn now fate said old new (subst (λ (l : List Said). Becomes now fate l (dropped part entry.request entry.names) old new) is over.becomes)

-- an operator that wasn't added
pub refused_told : (name : List ℕ) (proposal : Proposal) (came : Adding) → ((answer : Dispatch) → came ≡ adding.Added answer → ⊥) → fate_told (replies.Proposed name proposal came) ≡ Some fates.Refused
refused_told name proposal (adding.Added answer) never = absurd (never answer refl)
refused_told name proposal came never = refl
