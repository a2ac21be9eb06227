use Rattle.std.proofs.Common.{[], ◌∷◌, ◌++◌, List, ◌∙◌, sym, subst}
use Rattle.tso_client.specs.declared.entry.PostEntry.{PostEntry}
use Rattle.tso_client.specs.Slips.{entry_of}
use Rattle.tso_client.specs.Logs.{IsLog}
use Rattle.tso_client.proofs.Posting.{hears_any, heard_from}
use Rattle.tso_client.proofs.log.Log.hear.Goals as goal

pub invariant_of-self-2 : goal.invariant_of-self-2
invariant_of-self-2 g c =
    let journal = c.push_reserved.ensures.items ∙ (λ i. c.reserve.ensures.items i ++ entry_of c.args.client c.args.line (c.what_of-what.ensures.value i) ∷ []) in
    subst (λ (j : List PostEntry). IsLog g.N.BoardName.board j c.oldest-heard.new.queues.items) (sym journal)
    (hears_any g.N.BoardName.board _ _ c.self.invariant c.args.client c.args.line _ _ c.requires.client.0 c.requires.client.1 c.oldest-heard.ensures.some c.oldest-heard.ensures.none)

pub returns-clause-board : goal.returns-clause-board
returns-clause-board g c = heard_from g.N.BoardName.board _ _ c.self.invariant c.args.client _ _ c.requires.client.0 c.requires.client.1 c.oldest-heard.ensures.some
