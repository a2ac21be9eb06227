use Rattle.std.proofs.Common.{[], ◌∷◌, ◌++◌, List, ◌∙◌, sym, subst}
use Rattle.tso_board.specs.declared.note.Note.{Note}
use Rattle.tso_client.specs.declared.entry.PostEntry.{PostEntry}
use Rattle.tso_client.specs.declared.entry.PostWhat.TheVariants.{Told}
use Rattle.tso_client.specs.Slips.{entry_of}
use Rattle.tso_client.specs.Logs.{IsLog}
use Rattle.tso_client.proofs.Posting.{tells}
use Rattle.tso_client.proofs.log.Log.tell.Goals as goal

pub invariant_of-self-2 : goal.invariant_of-self-2
invariant_of-self-2 g c =
    let journal = c.push_reserved.ensures.items ∙ (λ i. c.reserve.ensures.items i ++ entry_of c.args.client c.args.line (Told c.args.to (c.seen-seen.ensures.value i)) ∷ []) in
    subst (λ (y : List PostEntry × List (List Note)). IsLog g.N.BoardName.board y.0 y.1) (λ i. (sym journal i, sym c.in_ok-leave.ensures.ok i))
    (tells g.N.BoardName.board _ _ c.self.invariant c.args.client c.args.line c.args.to c.args.note c.requires.to.0 c.requires.to.1 c.requires.note)
