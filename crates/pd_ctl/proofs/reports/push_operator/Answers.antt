use Rattle.std.proofs.Common.{◌≡◌, ◌++◌, ◌∷◌, [], map, refl}
use Rattle.std.proofs.lemmas.List.{map-append}
use Rattle.std.specs.Prelude.{slice_get}
use Rattle.serde_json.specs.View.{view}
use Rattle.pd_ctl.proofs.Lists.{no_operator, operator_more}
use Rattle.pd_ctl.proofs.reports.push_operator.Goals as goal

pub unreachable-requires : goal.unreachable-requires
unreachable-requires c = no_operator c.args.operators.now c.args.place c.requires.listed c.requires.place c.in_default.ensures.value

pub returns : goal.returns
returns c = λ before.
    let pushed : c.push.new.self.items ≡ c.args.values.now.items ++ c.in_ok-operator.field-0 ∷ [] = c.in_ok-push.ensures.items in
    let more = operator_more c.args.operators.now c.args.place c.in-Some.op.now (map view c.args.values.now.items) (view c.in_ok-operator.field-0) (slice_get c.args.operators.now.busy c.args.place) refl c.requires.listed c.in-Some.ensures.value c.in_ok-operator.ensures before in
    rw (pushed, map-append) more
