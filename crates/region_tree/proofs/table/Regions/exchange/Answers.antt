use Rattle.std.proofs.Common.{◌∷◌, List, nat_eq, sym, ap, subst, ◌∙◌}
use Rattle.std.proofs.lemmas.Result.{on_ok_weaker}
use Rattle.std.specs.List.{find}
use Rattle.pd_types.specs.declared.region.RegionBeat.{RegionBeat}
use Rattle.region_tree.specs.Moves.{CountMoves}
use Rattle.region_tree.specs.Stale.{put_beat}
use Rattle.region_tree.specs.Standing.{AreApart, IsTable}
use Rattle.region_tree.proofs.Numbers.{count_moves}
use Rattle.region_tree.proofs.Puts.{found_put}
use Rattle.region_tree.proofs.Stand.{stand_more, table_put}
use Rattle.region_tree.proofs.table.Regions.exchange.Goals as goal

pub returns-clause-table : goal.returns-clause-table
returns-clause-table c =
    on_ok_weaker c.put_in.result
    (λ value accepted table. subst (IsTable (c.args.beat ∷ accepted)) (sym value)
    (table_put c.args.beat accepted c.self.inside.held.items (subst AreApart value c.put_in.ensures.apart) (subst (IsTable accepted) (sym c.self.view_is) table)))
    c.put_in.ensures.ok

pub returns-clause-stands : goal.returns-clause-stands
returns-clause-stands c =
    on_ok_weaker c.put_in.result
    (λ value accepted is. value ∙ ap (put_beat c.args.beat) (c.self.view_is ∙ is) ∙ sym (stand_more c.args.beat accepted))
    c.put_in.ensures.ok

pub returns-clause-counts : goal.returns-clause-counts
returns-clause-counts c =
    on_ok_weaker c.put_in.result
    (λ value p. subst (CountMoves p c.args.beat c.args.self.now) (sym (value ∙ ap (put_beat c.args.beat) c.self.view_is)) (subst (λ (l : List RegionBeat). CountMoves p c.args.beat l (put_beat c.args.beat l)) c.self.view_is (count_moves p c.args.beat c.self.inside.held.items c.self.invariant.0)))
    c.put_in.ensures.ok

pub returns-clause-found : goal.returns-clause-found
returns-clause-found c =
    on_ok_weaker c.put_in.result
    (λ value. ap (λ (l : List RegionBeat). find (λ one. nat_eq one.region.id c.args.beat.region.id) l) value ∙ found_put c.args.beat c.self.inside.held.items)
    c.put_in.ensures.ok
