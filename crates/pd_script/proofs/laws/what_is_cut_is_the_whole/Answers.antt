use Rattle.std.proofs.Common.{refl, []}
use Rattle.std.proofs.lemmas.List.Elements.{All-from_recursion}
use Rattle.pd_script.proofs.Joined.{items_are_the_word, lines_are_the_text, lines_lack_line_feeds, pieces_are_the_line, pieces_lack_spaces}
use Rattle.pd_script.proofs.laws.what_is_cut_is_the_whole.Goals as goal

pub returns : goal.returns
returns c = record {
  lines = lines_are_the_text;
  feeds = λ text. All-from_recursion _ _ (lines_lack_line_feeds [] text refl);
  pieces = pieces_are_the_line;
  spaces = λ line. All-from_recursion _ _ (pieces_lack_spaces [] line refl);
  items = items_are_the_word;
}
