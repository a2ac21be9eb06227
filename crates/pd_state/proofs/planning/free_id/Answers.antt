use Rattle.std.proofs.Common.{◌≡◌, ◌∙◌, ◌+◌, ℕ, ap, drop, subst, arith}
use Rattle.std.specs.Prelude.{Result, Ok, Err, true, false}
use Rattle.op_step.specs.Peers.{has_id}
use Rattle.pd_state.specs.Adding.{Drawn, draw, drawn, free_id}
use Rattle.pd_state.specs.Asking.{Ear, Talks, ear}
use Rattle.pd_state.specs.declared.adding.Adding.{Adding}
use Rattle.pd_state.specs.declared.part.Part.{Part}
use Rattle.pd_state.proofs.Deeds.{free_none, free_stop, free_turn, next_peer}
use Rattle.pd_state.proofs.planning.free_id.Goals as goal

pub returns-in-Err-clause-talks : goal.returns-in-Err-clause-talks
returns-in-Err-clause-talks g c =
    let l = c.loop-peer in
    let one : Ear = ear l.answers l.part.known (g.M.Door.said l.door) (g.M.Door.told l.door) in
    let two : Ear = ear c.draw.new.answers c.draw.new.part.known (g.M.Door.said c.draw.new.door) (g.M.Door.told c.draw.new.door) in
    let next = next_peer c.as_slice-peer-items.result.now l._peer-index (omega arith) in
    let t : Talks Drawn (draw l.part.term l.part.window) (drawn c.draw.new.part.window (Err c.in-Err.why)) c.args.driver one two =
    subst (λ (r : Result ℕ Adding). Talks Drawn (draw l.part.term l.part.window) (drawn c.draw.new.part.window r) c.args.driver one two) c.in-Err.is c.in_ok-id.ensures.talks in
    l.invariant.on _ _ (free_none c.as_slice-peer-items.result.now l._peer-index next.0 c.args.beat.now l.part.term l.part.window c.draw.new.part.window c.in-Err.why c.args.driver one two next.1 t)

pub returns-then-not-has_id-clause-talks : goal.returns-then-not-has_id-clause-talks
returns-then-not-has_id-clause-talks g c =
    let l = c.loop-peer in
    let one : Ear = ear l.answers l.part.known (g.M.Door.said l.door) (g.M.Door.told l.door) in
    let two : Ear = ear c.draw.new.answers c.draw.new.part.known (g.M.Door.said c.draw.new.door) (g.M.Door.told c.draw.new.door) in
    let next = next_peer c.as_slice-peer-items.result.now l._peer-index (omega arith) in
    let has : has_id c.in-Ok.id c.args.beat.now ≡ false = cc (c.if-not-has_id.true, c.has_id.ensures.value) in
    let t : Talks Drawn (draw l.part.term l.part.window) (drawn c.draw.new.part.window (Ok c.in-Ok.id)) c.args.driver one two =
    subst (λ (r : Result ℕ Adding). Talks Drawn (draw l.part.term l.part.window) (drawn c.draw.new.part.window r) c.args.driver one two) c.in-Ok.is c.in_ok-id.ensures.talks in
    l.invariant.on _ _ (free_stop c.as_slice-peer-items.result.now l._peer-index next.0 c.args.beat.now l.part.term l.part.window c.draw.new.part.window c.in-Ok.id c.args.driver one two next.1 t has)

pub loop-peer-preserved : goal.loop-peer-preserved
loop-peer-preserved g c =
    let l = c.loop-peer in
    let one : Ear = ear l.answers l.part.known (g.M.Door.said l.door) (g.M.Door.told l.door) in
    let two : Ear = ear c.draw.new.answers c.draw.new.part.known (g.M.Door.said c.draw.new.door) (g.M.Door.told c.draw.new.door) in
    let peers = c.as_slice-peer-items.result.now in
    let next = next_peer peers l._peer-index (omega arith) in
    let has : has_id c.in-Ok.id c.args.beat.now ≡ true = cc (c.if-not-has_id.false, c.has_id.ensures.value) in
    let t : Talks Drawn (draw l.part.term l.part.window) (drawn c.draw.new.part.window (Ok c.in-Ok.id)) c.args.driver one two =
    subst (λ (r : Result ℕ Adding). Talks Drawn (draw l.part.term l.part.window) (drawn c.draw.new.part.window r) c.args.driver one two) c.in-Ok.is c.in_ok-id.ensures.talks in
    record {
      on = λ value last rest.
          l.invariant.on value last (free_turn peers l._peer-index next.0 c.args.beat.now l.part.term l.part.window c.draw.new.part.window c.in-Ok.id value c.args.driver one two last next.1 t has
          (subst (λ (n : ℕ). Talks Drawn (free_id (drop (l._peer-index + 1) peers) c.args.beat.now n c.draw.new.part.window) value c.args.driver two last) (ap (λ (p : Part). p.term) c.in_ok-id.ensures.rest) rest));
      rest = c.in_ok-id.ensures.rest ∙ ap (λ (p : Part). record p { window = c.draw.new.part.window; known = c.draw.new.part.known }) l.invariant.rest;
      place = c.in_ok-id.ensures.place ∙ l.invariant.place;
    }
