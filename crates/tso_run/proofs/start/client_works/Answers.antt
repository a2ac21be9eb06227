use Rattle.std.proofs.Common.{rules, ◌≡◌, ◌+◌, refl, length, [], false, sym, ap, arith, subst}
use Rattle.std.specs.Prelude.{vec_len}
use Rattle.tso_model.specs.Moves.{client_view}
use Rattle.tso_board.specs.Boards.{setup_of}
use Rattle.tso_board.specs.Passes.{pass_view}
use Rattle.tso_client.specs.Slips.{new_slip}
use Rattle.tso_run.proofs.Rows.{row_length, rows_length}
use Rattle.tso_run.specs.declared.caller.ClientWork.{ClientWork}
use Rattle.tso_run.proofs.Starting.{ClientsLeft, clients_begin, clients_end, clients_next}
use Rattle.tso_run.proofs.start.client_works.Goals as goal

pub loop-pass-init : goal.loop-pass-init
loop-pass-init g c =
    let name = g.N.BoardName.board in
    let begun : ClientsLeft {N = g.row.N.Denot} name c.args._board.now c.args._post.now 0 c.args.passes.items c.args.slips.items [] =
    clients_begin name c.args._board.now c.args._post.now c.args.passes.items c.args.slips.items c.requires.passes c.requires.views c.requires.slips in
    let same : c.into_iter-pass-iterator.result.rest.items ≡ c.args.passes.items = c.into_iter-pass-iterator.ensures.into_iter_gives.0 in
    let k = setup_of c.args._board.now in
    let count : vec_len c.args.slips ≡ length c.args.slips.items = search rules in
    let passes : vec_len c.args.passes ≡ length c.args.passes.items = search rules in (
      tt,
      tt,
      subst (λ works. ClientsLeft {N = g.row.N.Denot} name c.args._board.now c.args._post.now 0 c.into_iter-pass-iterator.result.rest.items c.into_iter-slips.result.rest.items works) (sym c.new-works.ensures.items)
          (subst (λ slips. ClientsLeft {N = g.row.N.Denot} name c.args._board.now c.args._post.now 0 c.into_iter-pass-iterator.result.rest.items slips []) (sym c.into_iter-slips.ensures.rest)
          (subst (λ passes. ClientsLeft {N = g.row.N.Denot} name c.args._board.now c.args._post.now 0 passes c.args.slips.items []) (sym same) begun)),
      omega (arith, c.into_iter-slips.ensures.len, count, ap length c.requires.slips, row_length (new_slip c.args._post.now) 1 k.clients),
      omega (arith, c.into_iter-pass-iterator.ensures.into_iter_gives.1, passes, rows_length pass_view c.args.passes.items, ap length c.requires.views, row_length (client_view k) 1 k.clients),
    )

pub loop-pass-preserved : goal.loop-pass-preserved
loop-pass-preserved g c =
    let name = g.N.BoardName.board in
    let w : ClientWork g.row.N.Denot = record { number = c.loop-pass.number + 1; pass = c.in-Some.pass; slip = c.in-Some-next.slip; answers = c.new.result; failed = false } in (
      tt,
      tt,
      clients_next name c.args._board.now c.args._post.now c.requires.named c.requires.clients c.loop-pass.number c.loop-pass.pass-iterator.rest.items c.next.new.self.rest.items c.loop-pass.slips.rest.items c.next-in-loop-pass.new.self.rest.items
          c.loop-pass.works.items c.push.new.self.items w c.loop-pass.invariant.2 c.in-Some.ensures.steps.0 c.in-Some-next.ensures.cases.0 refl c.new.ensures.items refl (search rules),
      omega (arith, c.in-Some-next.ensures.cases.1, c.loop-pass.invariant.3),
      omega (arith, c.in-Some.ensures.steps.1, c.loop-pass.invariant.4),
    )

pub returns-clause-numbers : goal.returns-clause-numbers
returns-clause-numbers g c = clients_end g.N.BoardName.board c.args._board.now c.args._post.now c.loop-pass.number c.loop-pass.works.items c.loop-pass.pass-iterator.rest.items c.loop-pass.slips.rest.items (omega (arith, c.in-None.ensures.steps.0, c.loop-pass.invariant.4)) c.loop-pass.invariant.2
