use Rattle.std.proofs.Common.{◌≡◌, drop, take, []}
use Rattle.pd_script.specs.Forms.{items_from}
use Rattle.pd_script.proofs.items.item.Given as goal

abbrev pub invariant-loop-i : goal.invariant-loop-i
invariant-loop-i l = items_from [] l.word ≡ items_from (take l.i l.word) (drop l.i l.word)
