use Rattle.std.proofs.Common.{List, ℕ, ◌++◌}
use Rattle.std.specs.Fmt.{decimal}
use Rattle.std.specs.Prelude.{codes, None}
use Rattle.tso_client.specs.declared.entry.PostWhat.TheVariants as posted
use Rattle.tso_core.specs.declared.reply.Reply.TheVariants as replies
use Rattle.pd_cluster.specs.RunText.{entry_line, meta_line, post_line, said_line, window_line}
use Rattle.pd_cluster.specs.declared.said.Said.TheVariants.{ByOracle, Popped}
use Rattle.pd_cluster.proofs.RunTexts.{one_answer}
use Rattle.pd_cluster.proofs.laws.the_sections_of_a_run.Goals as goal
use Rattle.std.proofs.lemmas.List.{append-nil}

pub returns : goal.returns
returns c =
    let window : List ℕ = window_line (record { term = 1; driver = 1; lo = 1000; hi = 4000 }) in
    let won : List ℕ = said_line 1 (ByOracle (replies.Won 1 1000 4000)) in
    let got : List ℕ = said_line 2 (ByOracle (replies.Got (record { term = 1; driver = 1; last = 262144003; count = 3 }))) in
    let empty : List ℕ = said_line 5 (Popped None) in
    let told : List ℕ = post_line 1 (record { client = 1; line = 3; what = posted.Told 1 (record { term = 1; last = 262144003 }) }) in
    let heard : List ℕ = post_line 2 (record { client = 1; line = 4; what = posted.Heard (record { term = 1; last = 262144003 }) }) in
    let other : List ℕ = codes "journal " ++ decimal 2 ++ codes "\n" in
    record {
      sections = λ entry call. λ i.
          append-nil window i
          ++ one_answer (codes "driver ") (decimal 1) won i
          ++ one_answer (codes "client ") (decimal 1) got i
          ++ one_answer (codes "store ") (decimal 7) empty i
          ++ (codes "journal " ++ decimal 1 ++ codes "\n" ++ append-nil (entry_line 1 entry) i ++ append-nil (append-nil other i) i)
          ++ (codes "meta\n" ++ append-nil (meta_line 1 call) i)
          ++ (codes "post\n" ++ (told ++ append-nil heard i));
    }
