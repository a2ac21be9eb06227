use borrow.Author.Count.{below_more}
use Rattle.std.proofs.Common.{◌≡◌, ℕ, get_or, false}
use Rattle.pd_script.specs.Words.{is_space}
use Rattle.pd_script.proofs.Cuts.{no_space_found, no_space_is, piece_goes_on, space_found, word_ends, word_is_all}
use Rattle.pd_script.proofs.split.first_word.Goals as goal

pub returns-then-byte-eq32 : goal.returns-then-byte-eq32
returns-then-byte-eq32 c = record {
  value = word_ends _ _ c.loop-i-test.true c.if-byte-eq32.true c.requires.first c.loop-i.invariant.pieces;
  behind = space_found _ _ c.loop-i-test.true c.if-byte-eq32.true c.loop-i.invariant.bytes;
}

pub loop-i-preserved : goal.loop-i-preserved
loop-i-preserved c = record {
  pieces = piece_goes_on _ _ c.loop-i-test.true c.if-byte-eq32.false c.loop-i.invariant.pieces;
  bytes = below_more (λ (k : ℕ). is_space (get_or c.args.line.now k 0) ≡ false) c.loop-i.i c.loop-i.invariant.bytes (no_space_is _ c.if-byte-eq32.false);
}

pub returns : goal.returns
returns c = record {
  value = word_is_all _ _ c.requires.some c.loop-i-test.false c.loop-i.invariant.pieces;
  behind = no_space_found _ _ c.loop-i-test.false c.loop-i.invariant.bytes;
}
