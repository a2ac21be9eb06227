use Rattle.std.proofs.Common.{rules, ◌≡◌, ◌∙◌, List, length, refl, sym, subst}
use Rattle.std.specs.List.{AllZip}
use Rattle.std.specs.Prelude.{All}
use Rattle.std.proofs.lemmas.List.{with_items_is}
use Rattle.tso_run.specs.Works.{ClientWorked, IsNewClient}
use Rattle.pd_shared.specs.Shares.{SharedValue}
use Rattle.pd_run.specs.Works.{DriverWorked, StoreWorked}
use Rattle.pd_run.specs.declared.storing.StoreWork.{StoreWork}
use Rattle.pd_run.proofs.Leading.{zip_length}
use Rattle.pd_run.proofs.runner.work.Goals as goal

pub work_each-requires-clause-others : goal.work_each-requires-clause-others
work_each-requires-clause-others g c κs within =
    let new : All (IsNewClient {N = g.row.N.Denot} g.N.BoardName.board c.args.board.now c.args.workers.now.post) c.as_mut_slice-3.result.now =
    subst (All (IsNewClient {N = g.row.N.Denot} g.N.BoardName.board c.args.board.now c.args.workers.now.post)) (sym c.as_mut_slice-3.ensures.value) c.requires.ready.clients in
    λ k d low. (new k d low, c.requires.calls)

pub returns : goal.returns
returns g c =
    let Drove = DriverWorked {N = g.row.N.Denot} {B = g.row.B.Denot} g.B.Seated.seats c.args.board.now in
    let Acted = StoreWorked {N = g.row.N.Denot} c.args.workers.now.clusters.items in
    let Called = ClientWorked {N = g.row.N.Denot} c.args.board.now c.args.workers.now.post c.args.clients.now in
    let ds = c.args.workers.now.drivers in
    let ss = c.args.workers.now.stores in
    let cs = c.args.workers.now.clients in
    let drove : AllZip Drove ds.items c.work_each.new.first = subst (λ l. AllZip Drove l c.work_each.new.first) c.as_mut_slice.ensures.value c.work_each.ensures.first in
    let acted : AllZip Acted ss.items c.work_each.new.last =
    subst (λ (y : List SharedValue × List (StoreWork g.row.N.Denot)). AllZip (StoreWorked {N = g.row.N.Denot} y.0) y.1 c.work_each.new.last) (λ i. (c.deref.ensures.value i, c.as_mut_slice-2.ensures.value i)) c.work_each.ensures.last in
    let called : AllZip Called cs.items c.work_each.new.others = subst (λ l. AllZip Called l c.work_each.new.others) c.as_mut_slice-3.ensures.value c.work_each.ensures.others in
    let ds_len : length ds.items ≡ ds.len = search rules in
    let ss_len : length ss.items ≡ ss.len = search rules in
    let cs_len : length cs.items ≡ cs.len = search rules in
    record {
      worked = record {
        post = refl;
        clusters = refl;
        drove = subst (AllZip Drove ds.items) (sym (with_items_is ds c.work_each.new.first (zip_length Drove ds.items c.work_each.new.first drove ∙ ds_len))) drove;
        called = subst (AllZip Called cs.items) (sym (with_items_is cs c.work_each.new.others (zip_length Called cs.items c.work_each.new.others called ∙ cs_len))) called;
        acted = subst (AllZip Acted ss.items) (sym (with_items_is ss c.work_each.new.last (zip_length Acted ss.items c.work_each.new.last acted ∙ ss_len))) acted;
      };
    }
