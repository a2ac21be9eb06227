use borrow.Author.Count.{below_more}
use Rattle.std.proofs.Common.{◌≡◌, ℕ, get_or, true}
use Rattle.pd_script.specs.Words.{is_space}
use Rattle.pd_script.proofs.Cuts.{no_word_found, rest_from, skip_one, space_is, word_found}
use Rattle.pd_script.proofs.split.skip_spaces.Goals as goal

pub returns-then-byte-ne32-clause-words : goal.returns-then-byte-ne32-clause-words
returns-then-byte-ne32-clause-words c = rest_from c.args.line.now c.loop-i.i c.loop-i.invariant.words

pub returns-then-byte-ne32-clause-value : goal.returns-then-byte-ne32-clause-value
returns-then-byte-ne32-clause-value c = word_found _ _ c.loop-i-test.true c.if-byte-ne32.true c.loop-i.invariant.spaces

pub loop-i-preserved : goal.loop-i-preserved
loop-i-preserved c = record {
  words = skip_one _ _ c.loop-i-test.true c.if-byte-ne32.false c.loop-i.invariant.words;
  spaces = below_more (λ (k : ℕ). is_space (get_or c.args.line.now k 0) ≡ true) c.loop-i.i c.loop-i.invariant.spaces (space_is _ c.if-byte-ne32.false);
}

pub returns-clause-value : goal.returns-clause-value
returns-clause-value c = no_word_found _ _ c.loop-i-test.false c.loop-i.invariant.spaces
