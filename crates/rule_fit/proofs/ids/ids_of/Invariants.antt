use Rattle.std.proofs.Common.{◌≡◌, true}
use Rattle.std.specs.List.{list_all}
use Rattle.pd_types.specs.BeatCheck.{has_id}
use Rattle.rule_fit.proofs.IdLemmas.{AreIds}
use Rattle.rule_fit.proofs.PickLemmas.{ArePicked}
use Rattle.rule_fit.proofs.ids.ids_of.Given as goal

abbrev pub invariant-loop-place : goal.invariant-loop-place
invariant-loop-place l = record {
  agree : AreIds l.ids.items l.peers l.reached l.place;
  inside : list_all (has_id l.peers) l.ids.items ≡ true;
  order : ArePicked l.ids.items l.peers l.reached l.place;
}
