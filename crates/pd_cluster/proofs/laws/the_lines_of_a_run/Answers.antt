use Rattle.std.proofs.Common.{append_assoc}
use Rattle.std.specs.Fmt.{decimal}
use Rattle.pd_cluster.specs.RunText.{key_text}
use Rattle.pd_cluster.proofs.RunTexts.{delete_pieces, limit_pieces, put_pieces, text_key}
use Rattle.pd_cluster.proofs.laws.the_lines_of_a_run.Goals as goal

pub returns-clause-lead : goal.returns-clause-lead
returns-clause-lead c = simp append_assoc

pub returns-clause-put : goal.returns-clause-put
returns-clause-put c = λ key bytes is. put_pieces (decimal 2) (decimal 1) (decimal 3) (decimal 5) key (key_text key) (text_key key is)

pub returns-clause-delete : goal.returns-clause-delete
returns-clause-delete c = λ key is. delete_pieces (decimal 3) (decimal 1) (decimal 5) (decimal 6) key (key_text key) (text_key key is)

pub returns-clause-limit : goal.returns-clause-limit
returns-clause-limit c = λ key is. limit_pieces (decimal 4) (decimal 1) (decimal 5) key (key_text key) (text_key key is)
