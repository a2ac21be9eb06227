use Rattle.tso_model.proofs.Whole.{starts}
use Rattle.tso_board.proofs.opening.open.Goals as goal

pub of_words-requires : goal.of_words-requires
of_words-requires c = rw (c.as_slice.ensures.value, c.in_ok-words.ensures.value) (starts _ c.requires.setup)
