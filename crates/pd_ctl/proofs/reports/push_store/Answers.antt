use Rattle.std.proofs.Common.{◌≡◌, ◌++◌, ◌∷◌, [], map, refl}
use Rattle.std.proofs.lemmas.List.{map-append}
use Rattle.std.specs.Prelude.{slice_get}
use Rattle.serde_json.specs.View.{view}
use Rattle.pd_ctl.proofs.Lists.{store_more}
use Rattle.pd_ctl.proofs.reports.push_store.Goals as goal

pub returns : goal.returns
returns c = λ before.
    let pushed : c.push.new.self.items ≡ c.args.values.now.items ++ c.in_ok-store.field-0 ∷ [] = c.in_ok-push.ensures.items in
    let more = store_more c.args.stores.now c.args.standing.now c.args.now c.args.place c.in-Some.rec.now (map view c.args.values.now.items) (view c.in_ok-store.field-0) (slice_get c.args.stores.now c.args.place) refl c.in-Some.ensures.rising c.in-Some.ensures.value c.in_ok-store.ensures before in
    rw (pushed, map-append) more
