use Rattle.std.proofs.Common.{◌≡◌, ◌≤◌, drop, false}
use Rattle.pd_state.specs.Adding.{around_of, planning_of, replanned}
use Rattle.pd_state.specs.Asking.{Ear, Talks, ear}
use Rattle.pd_state.specs.Checking.{Round, round_at, sweep}
use Rattle.pd_state.proofs.patrol.sweep.Given as goal

-- what the rest comes to is what the whole comes to; no more operators were added than plans were visited
abbrev pub invariant-loop-planned : goal.invariant-loop-planned
invariant-loop-planned g l = record {
  on : (value : Round) (last : Ear) → Talks Round (sweep (around_of l.fn.part) (drop l.planned-index l.plans) (round_at l.part l.log.sents l.round)) value l.driver (ear l.log.answers l.part.known (g.M.Door.said l.door) (g.M.Door.told l.door)) last
      → Talks Round (sweep (around_of l.fn.part) l.plans (round_at l.fn.part l.fn.log.sents (record { added = 0; stopped = false }))) value l.driver (ear l.fn.log.answers l.fn.part.known (g.M.Door.said l.fn.door) (g.M.Door.told l.fn.door)) last;
  few : l.round.added ≤ l.planned-index;
  rest : l.part ≡ replanned l.fn.part (planning_of l.part) l.part.known;
  place : g.M.Door.place l.door ≡ g.M.Door.place l.fn.door;
}
