use Rattle.tso_run.proofs.driving.answer.Goals as goal

pub returns-in_err-reserve-in-Lead-clause-board : goal.returns-in_err-reserve-in-Lead-clause-board
returns-in_err-reserve-in-Lead-clause-board c = c.reserve.ensures.board c.args.board.now c.requires.board

pub lead-reply-requires-clause-board : goal.lead-reply-requires-clause-board
lead-reply-requires-clause-board c = c.reserve.ensures.board c.args.board.now c.requires.board
