use Rattle.std.proofs.Common.{ℕ, List, [], ◌∷◌, ◌++◌, map, sym, ap, ◌∙◌}
use Rattle.std.proofs.lemmas.List.{append_assoc, map-append}
use Rattle.tso_model.specs.declared.view.View.{View}
use Rattle.tso_model.specs.Moves.{numbers_from, driver_view}
use Rattle.tso_model.proofs.Numbers.{map_numbers}
use Rattle.tso_core.specs.Seated.{Seated, view_of}
use Rattle.tso_core.proofs.opening.seat_drivers.Goals as goal

pub loop-index-preserved : goal.loop-index-preserved
loop-index-preserved c =
    let old = map view_of c.args.seats.now.items in
    let f : ℕ → View = driver_view c.args.setup in
    let given = map f (numbers_from 1 c.loop-index.index) in
    ap (λ (l : List Seated). map view_of l) c.in_ok-push.ensures.items ∙ map-append view_of c.loop-index.seats.items (c.new.result ∷ [])
    ∙ ap (λ (l : List View). l ++ view_of c.new.result ∷ []) c.loop-index.invariant ∙ append_assoc old given (view_of c.new.result ∷ [])
    ∙ ap (λ (v : View). old ++ (given ++ v ∷ [])) c.new.ensures.view ∙ ap (λ (l : List View). old ++ l) (sym (map_numbers f c.loop-index.index))
