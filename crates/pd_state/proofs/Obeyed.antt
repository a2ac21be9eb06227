-- What is said of a request that carries out a command, from what its words did over a door in a term.
use Rattle.std.proofs.Common.{◌≡◌, ℕ, cond, List, [], ◌++◌, ap, sym, ◌∙◌, subst, Option, Some, None}
use Rattle.std.specs.Prelude.{Result}
use Rattle.pd_types.specs.declared.request.Request.TheVariants as ask
use Rattle.meta_store.specs.Asked.{AreAsked}
use Rattle.meta_store.specs.declared.record.MetaAnswer.{MetaAnswer}
use Rattle.meta_store.specs.declared.record.MetaEntry.{MetaEntry}
use Rattle.pd_ctl.specs.declared.command.Command.{Command}
use Rattle.pd_ctl.specs.declared.fault.CtlFault.{CtlFault}
use Rattle.pd_state.specs.Adding.{planning_of}
use Rattle.pd_state.specs.Asking.{ear}
use Rattle.pd_state.specs.Calls.{next_call}
use Rattle.pd_state.specs.Ctl.{Carries, resigns, resigns_by}
use Rattle.pd_state.specs.Heard.{told_all}
use Rattle.pd_state.specs.Legal.{first_reply, sents_by}
use Rattle.pd_state.specs.Reports.{command_told}
use Rattle.pd_state.specs.Steps.{rewritten, stepped}
use Rattle.pd_state.specs.declared.heard.Done.{Done}
use Rattle.pd_state.specs.declared.part.Part.{Part}
use Rattle.pd_state.proofs.Carried.{at_moment}
use Rattle.pd_state.proofs.Commanded.{ctl_after, ctl_asked, ctl_reply, ctl_said, ctl_sents, ctl_told}

-- that the term is given up where the words say so
resigned_so : (told : Result Command CtlFault) (words : List ℕ) (new : Part) → told ≡ command_told words → cond (resigns_by told) None (Some new) ≡ cond (resigns words) None (Some new)
resigned_so told words new is = ap (λ (r : Result Command CtlFault). cond (resigns_by r) None (Some new)) is

module _ (part : Option Part) (old mid new : Part) (moment driver : ℕ) (words : List ℕ) (told : Result Command CtlFault) (names : List (List ℕ)) (d : Done) (said_old said_new : List MetaAnswer) (told_old told_new : Option (List MetaEntry)) (part_is : part ≡ Some old)
    (mid_is : mid ≡ at_moment old moment) (told_is : told ≡ command_told words) (heard : (d.heard.bench ≡ []) × (d.heard.names ≡ names))
    (does : Carries driver mid names told (planning_of new) new.stores d (ear [] mid.known said_old told_old) (ear d.heard.answers new.known said_new told_new)) where
  own : Carries driver mid d.heard.names told (planning_of new) new.stores d (ear [] mid.known said_old told_old) (ear d.heard.answers new.known said_new told_new)
  own = subst (λ (n : List (List ℕ)). Carries driver mid n told (planning_of new) new.stores d (ear [] mid.known said_old told_old) (ear d.heard.answers new.known said_new told_new)) (sym heard.1) does

  pub obeyed_reply : d.reply ≡ first_reply driver part (ask.Ctl moment words) d.heard
  obeyed_reply = ctl_reply old mid new moment words told driver d said_old said_new told_old told_new mid_is told_is own ∙ ap (λ (p : Option Part). first_reply driver p (ask.Ctl moment words) d.heard) (sym part_is)

  pub obeyed_asked : AreAsked (next_call part (ask.Ctl moment words) d.heard.bench) [] d.heard.answers
  obeyed_asked = subst (λ (p : Option Part). AreAsked (next_call p (ask.Ctl moment words) d.heard.bench) [] d.heard.answers) (sym part_is) (ctl_asked old mid new moment words told driver d said_old said_new told_old told_new mid_is told_is own)

  pub obeyed_sents : d.sents ≡ sents_by part (ask.Ctl moment words) d.reply d.heard
  obeyed_sents = ctl_sents old mid new moment words told driver d said_old said_new told_old told_new mid_is told_is own ∙ ap (λ (p : Option Part). sents_by p (ask.Ctl moment words) d.reply d.heard) (sym part_is)

  pub obeyed_said : said_new ≡ said_old ++ d.heard.answers
  obeyed_said = ctl_said old mid new moment words told driver d said_old said_new told_old told_new mid_is told_is own

  pub obeyed_told : told_new ≡ told_all told_old driver d.heard.answers
  obeyed_told = ctl_told old mid new moment words told driver d said_old said_new told_old told_new mid_is told_is own

  pub obeyed_after : (after : Option Part) → new ≡ rewritten mid new → after ≡ cond (resigns_by told) None (Some new) → after ≡ stepped part (ask.Ctl moment words) d.reply d.heard
  obeyed_after after rest is =
      is ∙ resigned_so told words new told_is
      ∙ ap (λ (p : Part). cond (resigns words) None (Some p)) (ctl_after old mid new moment words told driver d said_old said_new told_old told_new mid_is told_is own rest)
      ∙ ap (λ (p : Option Part). stepped p (ask.Ctl moment words) d.reply d.heard) (sym part_is)
