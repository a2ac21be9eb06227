use Rattle.std.proofs.Common.{◌∙◌, arith, refl}
use Rattle.std.proofs.lemmas.List.{get_or_default}
use Rattle.pd_cluster.proofs.Dealing.{found, found_at, line_more, own_at, place_of}
use Rattle.pd_cluster.proofs.run_lines.Dealt.to_store.Goals as goal

pub unreachable-requires : goal.unreachable-requires
unreachable-requires c =
    let at = found c.args.self.now.ids.items c.deref.result.now c.args.store c.binary_search.result c.deref.ensures.value c.binary_search.ensures.position c.requires.place.1 c.requires.place.0 in
    c.in_default.not-Ok at.0 at.1

pub index_mut-requires : goal.index_mut-requires
index_mut-requires c =
    let at = found_at c.args.self.now.ids.items c.deref.result.now c.args.store c.in-Ok.place c.binary_search.result c.deref.ensures.value c.in-Ok.is c.binary_search.ensures.position c.requires.place.1 in
    omega (arith, place_of c.args.self.now.tasks.stores.items c.args.self.now.ids.items c.in-Ok.place c.requires.place.2 at.0, c.args.self.now.tasks.stores.ok.0)

pub returns : goal.returns
returns c =
    let ids = c.args.self.now.ids.items in
    let stores = c.args.self.now.tasks.stores.items in
    let at = found_at ids c.deref.result.now c.args.store c.in-Ok.place c.binary_search.result c.deref.ensures.value c.in-Ok.is c.binary_search.ensures.position c.requires.place.1 in
    record {
      ok = (
        refl,
        refl,
        (
          c.in-Ok.place,
          at.0,
          get_or_default ids c.in-Ok.place c.args.store 0 at.0 ∙ at.1,
          line_more stores c.in-Ok.place c.index_mut.result.now c.push.new.self c.args.store c.args.line (place_of stores ids c.in-Ok.place c.requires.place.2 at.0) c.index_mut.ensures.value
              (own_at stores ids c.in-Ok.place c.args.store c.index_mut.result.now c.requires.place.2 at.0 at.1 c.index_mut.ensures.value) c.in_ok-push.ensures.items,
        ),
        refl,
      );
    }
