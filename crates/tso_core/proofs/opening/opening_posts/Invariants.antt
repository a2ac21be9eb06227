use Rattle.std.proofs.Common.{◌≡◌, [], map}
use Rattle.std.specs.Prelude.{replicate}
use Rattle.tso_core.specs.Machine.{waits_in}
use Rattle.tso_core.proofs.opening.opening_posts.Given as goal

abbrev pub invariant-loop-client : goal.invariant-loop-client
invariant-loop-client l = map waits_in l.posts.items ≡ replicate l._client []
