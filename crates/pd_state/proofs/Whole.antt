-- What is reported of a command that changes the cluster has no float, so that its text is that of its tree.
use Rattle.std.proofs.Common.{◌≡◌, ℕ, List, false, ap}
use Rattle.std.specs.Prelude.{codes}
use Rattle.serde_json.specs.Data.{Data, object, member, no_members, string}
use Rattle.serde_json.specs.Written.{has_float}
use Rattle.pd_ctl.specs.Trees.{count, fault_tree}
use Rattle.pd_state.specs.Reports.{done_tree}

pub fault_whole : (tree : Data) (text : List ℕ) → tree ≡ fault_tree text → has_float tree ≡ false
fault_whole tree text is = ap has_float is

pub done_whole : (tree : Data) (name : List ℕ) → tree ≡ done_tree name → has_float tree ≡ false
done_whole tree name is = ap has_float is

pub added_whole : (tree : Data) (steps : ℕ) (now : List ℕ) → tree ≡ object (member (codes "added") (count steps) (member (codes "now") (string now) no_members)) → has_float tree ≡ false
added_whole tree steps now is = ap has_float is
