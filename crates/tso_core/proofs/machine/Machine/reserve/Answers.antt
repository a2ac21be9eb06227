use Rattle.std.proofs.Common.{List, ap}
use Rattle.tso_model.specs.declared.view.View.{View}
use Rattle.tso_model.specs.Moves.{spent_view}
use Rattle.tso_core.specs.Machine.{whole_of}
use Rattle.tso_core.specs.Seated.{view_of}
use Rattle.tso_core.proofs.Places.{seat_kept}
use Rattle.tso_core.proofs.machine.Machine.reserve.Goals as goal

pub returns-in_err-reserve-clause-whole : goal.returns-in_err-reserve-clause-whole
returns-in_err-reserve-clause-whole c =
    let same = seat_kept view_of c.args.self.now.seats.items c.args.id c.reserve.new.self c.index_mut.result.now spent_view c.requires.inside c.index_mut.ensures.value c.reserve.ensures.view in
    ap (λ (vs : List View). record (whole_of c.args.self.now) { views = vs }) same

pub returns-clause-whole : goal.returns-clause-whole
returns-clause-whole c =
    let same = seat_kept view_of c.args.self.now.seats.items c.args.id c.reserve.new.self c.index_mut.result.now spent_view c.requires.inside c.index_mut.ensures.value c.reserve.ensures.view in
    λ i. record (whole_of c.args.self.now) { views = same i; windows = c.reserve-2.ensures.windows i; batches = c.reserve-2.ensures.batches i }
