use Rattle.std.proofs.Common.{◌≡◌, ◌<◌, length, arith, sym, ◌∙◌, inl, inr}
use Rattle.std.proofs.lemmas.Bool.{cases_lt}
use Rattle.rule_fit.specs.Table.{suits}
use Rattle.rule_fit.proofs.SearchLemmas.{search_reach, extends_reach, mark_still, mark_same, peer_read}
use Rattle.rule_fit.proofs.search.reach.Goals as goal

pub loop-other-preserved : goal.loop-other-preserved
loop-other-preserved c =
    let inv = c.loop-other.invariant in
    let other = c.loop-other.other in
    let reached = c.loop-other.reached in
    let longer = inv.kept.longer in
    let size = inv.search.size in
    let early : c.args.at < length c.loop-other.queue.items = omega (arith, longer, c.requires.at) in
    let same = inv.kept.steps c.args.at c.requires.at in
    let read = peer_read c.args.queue.now.items c.args.at c.index.result.now c.requires.at c.index.ensures in
    let told = sym c.suits.ensures ∙ c.if-not-suits.false in
    record {
      search = rw c.in_ok-push.ensures.items (search_reach (suits c.args.table.now) c.args.given.now c.loop-other.queue.items reached other c.args.at c.in-Some.rule inv.search early (omega arith) c.if-reached-other.false c.in-Some.is (rw (same, ← read) told));
      kept = rw c.in_ok-push.ensures.items (extends_reach c.args.queue.now.items c.loop-other.queue.items c.args.reached.now reached _ other inv.kept);
      holders = λ q r h s e. elim (cases_lt q other) [
        | inl old ↦ mark_still reached other q (inv.holders q r old s e)
        | inr past ↦ let last : q ≡ other = omega arith in rw last (mark_same reached other (omega arith))
      ];
    }
