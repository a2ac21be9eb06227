use Rattle.std.proofs.Common.{◌≡◌, drop}
use Rattle.pd_state.specs.Adding.{Drawn, free_id}
use Rattle.pd_state.specs.Asking.{Ear, Talks, ear}
use Rattle.pd_state.proofs.planning.free_id.Given as goal

-- what the rest comes to is what the whole comes to
abbrev pub invariant-loop-peer : goal.invariant-loop-peer
invariant-loop-peer g l = record {
  on : (value : Drawn) (last : Ear) → Talks Drawn (free_id (drop l._peer-index l._peer-items) l.beat l.part.term l.part.window) value l.driver (ear l.answers l.part.known (g.M.Door.said l.door) (g.M.Door.told l.door)) last
      → Talks Drawn (free_id l.beat.region.peers l.beat l.fn.part.term l.fn.part.window) value l.driver (ear l.fn.answers l.fn.part.known (g.M.Door.said l.fn.door) (g.M.Door.told l.fn.door)) last;
  rest : l.part ≡ record l.fn.part { window = l.part.window; known = l.part.known };
  place : g.M.Door.place l.door ≡ g.M.Door.place l.fn.door;
}
