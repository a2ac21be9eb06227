-- What an entry of a legal journal sends is safe, and a step that its reply tells was sent by it.
use Rattle.std.proofs.Common.{refl, ◌≡◌, ℕ, ◌+◌, Bool, true, false, cond, List, [], ◌∷◌, ◌++◌, length, max, append_assoc, ap, sym, ◌∙◌, subst, Option, Some, None}
use Rattle.std.proofs.lemmas.List.Elements.{All-contains}
use Rattle.std.specs.Prelude.{Contains, Result, Ok, Err, option_map}
use Rattle.pd_types.specs.declared.request.Request.{Request}
use Rattle.pd_types.specs.declared.request.Request.TheVariants as ask
use Rattle.pd_types.specs.declared.step.Step.{Step}
use Rattle.pd_types.specs.declared.step.StepMsg.{StepMsg}
use Rattle.meta_store.specs.declared.record.MetaAnswer.{MetaAnswer}
use Rattle.pd_ctl.specs.declared.command.Command.{Command}
use Rattle.pd_ctl.specs.declared.command.Command.TheVariants as commands
use Rattle.pd_ctl.specs.declared.fault.CtlFault.{CtlFault}
use Rattle.pd_state.specs.Adding.{Around, Planning, around_at, planning_of}
use Rattle.pd_state.specs.Asking.{Hearing, hearing}
use Rattle.pd_state.specs.Checking.{Deed, deed_of, idle}
use Rattle.pd_state.specs.Ctl.{ctl_of, resigns, resigns_by, words_done}
use Rattle.pd_state.specs.Gates.{IsSafeThere}
use Rattle.pd_state.specs.Heard.{heard_of}
use Rattle.pd_state.specs.Legal.{IsLegal, IsLegalAfter, sents_by, term_in}
use Rattle.pd_state.specs.Sends.{message}
use Rattle.pd_state.specs.Reports.{command_told}
use Rattle.pd_state.specs.Since.{since, since_by}
use Rattle.pd_state.specs.State.{moment_of, part_after, part_of}
use Rattle.pd_state.specs.StepTold.{TellsStep}
use Rattle.pd_state.specs.declared.entry.Entry.{Entry}
use Rattle.pd_state.specs.declared.heard.Heard.{Heard}
use Rattle.pd_state.specs.declared.part.Part.{Part}
use Rattle.pd_state.specs.declared.reply.Reply.{Reply}
use Rattle.pd_state.specs.declared.reply.Reply.TheVariants as replies
use Rattle.pd_state.specs.declared.sent.Sent.{Sent}
use Rattle.pd_state.proofs.Ends.{Ends, ends_or}
use Rattle.pd_state.proofs.Gates.{gated}
use Rattle.pd_state.proofs.Telling.{AmongTold, told_sent}
use Rattle.tso_outcome.proofs.Above.{to_map}
use Rattle.pd_cluster.specs.Sent.{IsSafelySent, IsToldSafely, SendsSafely}
use Rattle.pd_cluster.proofs.Lists.{from_map, none_in}

-- WHAT AN ENTRY SENDS
-- what an entry that sends finds and leaves
record HasParts (o : Option (List Entry)) (request : Request) (entry : Entry) : Type 0 where
  before : Part
  after : Part
  stood : option_map part_of o ≡ Some before
  stands : option_map part_of (since_by request entry o) ≡ Some after

-- a command to resign sends nothing
resign_sends : (around : Around) (planning : Planning) (told : Result Command CtlFault) (at : Hearing) → resigns_by told ≡ true → Ends Deed (λ (deed : Deed). deed.sents ≡ []) (words_done around planning told at)
resign_sends around planning (Err fault) at is = refl
resign_sends around planning (Ok commands.LeaderResign) at is = refl
resign_sends around planning (Ok command) at is = absurd cc

resigned_sends : (part : Part) (moment : ℕ) (words : List ℕ) (answers : List MetaAnswer) → resigns words ≡ true → (deed_of (ctl_of part moment words) part moment answers).sents ≡ []
resigned_sends part moment words answers is =
    ends_or Deed (λ (deed : Deed). deed.sents ≡ []) (idle (around_at part moment) (planning_of part) replies.NotLeading) (ctl_of part moment words (hearing part.known answers)) refl
    (resign_sends (around_at part moment) (planning_of part) (command_told words) (hearing part.known answers) is)

parts_of : (o : Option (List Entry)) (request : Request) (entry : Entry) (reply : Reply) (heard : Heard) (sent : Sent) → Contains (sents_by (option_map part_of o) request reply heard) sent → HasParts o request entry
parts_of None request entry reply heard sent has = none_in sent has
parts_of (Some es) (ask.Beat store moment beat) entry reply heard sent has = record { before = part_of es; after = part_of (entry ∷ es); stood = refl; stands = refl }
parts_of (Some es) (ask.Check moment region) entry reply heard sent has = record { before = part_of es; after = part_of (entry ∷ es); stood = refl; stands = refl }
parts_of (Some es) (ask.Patrol moment workers) entry reply heard sent has = record { before = part_of es; after = part_of (entry ∷ es); stood = refl; stands = refl }
parts_of (Some es) (ask.Schedule moment) entry reply heard sent has = record { before = part_of es; after = part_of (entry ∷ es); stood = refl; stands = refl }
parts_of (Some es) (ask.Ctl moment words) entry reply heard sent has = by (resigns words) refl
  where
    by : (t : Bool) → resigns words ≡ t → HasParts (Some es) (ask.Ctl moment words) entry
    by true is = none_in sent (subst (λ (sents : List Sent). Contains sents sent) (resigned_sends (part_of es) moment words heard.answers is) has)
    by false is = record { before = part_of es; after = part_of (entry ∷ es); stood = refl; stands = ap (λ (t : Bool). option_map part_of (cond t None (Some (entry ∷ es)))) is }
parts_of (Some es) _ entry reply heard sent has = none_in sent has

-- a message that a driver's journal sent safely
pub record IsOwn (d : ℕ) (journal : List Entry) (m : StepMsg) : Type 0 where
  pub driver : m.driver ≡ d
  pub sent : IsSafelySent journal m

-- an entry behind a past that is legal
module _ (d : ℕ) (past : List Entry) (one : Entry) (legal : IsLegal d past) (after : IsLegalAfter d past one) where
  abbrev sents : List Sent
  sents = sents_by (part_after past) one.request one.reply (heard_of one)

  abbrev as_message : Sent → StepMsg
  as_message sent = message d (term_in (part_after past)) (length past + 1) sent

  sent_as : (m : StepMsg) → Contains one.sends m → (sent : Sent) × Contains sents sent × (m ≡ as_message sent)
  sent_as m has = from_map as_message sents m (subst (λ (ms : List StepMsg). Contains ms m) after.sends_are has)

  sends_safely : (m : StepMsg) → Contains one.sends m → SendsSafely past one m
  sends_safely m has =
      let from = sent_as m has in
      let parts = parts_of (since past) one.request one one.reply (heard_of one) from.0 from.1 in
      record {
        sent = has;
        before = parts.before;
        after = parts.after;
        stood = parts.stood;
        stands = parts.stands;
        safe = All-contains (IsSafeThere parts.before parts.after (max parts.before.clock (moment_of one.request))) one.sends m (gated d past one legal after parts.before parts.after parts.stood parts.stands) has;
      }

  pub own_sent : (m : StepMsg) → Contains one.sends m → IsOwn d (one ∷ past) m
  own_sent m has =
      let from = sent_as m has in
      record {
        driver = ap (λ (x : StepMsg). x.driver) from.2;
        sent = record { later = []; entry = one; past = past; stands = refl; place = ap (λ (x : StepMsg). x.entry) from.2; safely = sends_safely m has };
      }

  pub own_told : (step : Step) → TellsStep one.reply step → IsToldSafely (one ∷ past) one.line one.reply
  own_told step is =
      let first = told_sent d (part_after past) one.request (heard_of one) step (subst (λ (reply : Reply). TellsStep reply step) after.reply_is is) in
      let among : AmongTold one.reply sents = subst (λ (reply : Reply). AmongTold reply (sents_by (part_after past) one.request reply (heard_of one))) (sym after.reply_is) first in
      let m : StepMsg = as_message among.sent in
      let has : Contains one.sends m = subst (λ (ms : List StepMsg). Contains ms m) (sym after.sends_are) (to_map as_message sents among.sent among.here) in
      record { message = m; told = among.told; sent = record { later = []; entry = one; past = past; stands = refl; place = refl; safely = sends_safely m has }; line_is = refl; reply_is = refl }

-- WHAT WAS SENT STAYS SENT
pub later_sent : (more journal : List Entry) (m : StepMsg) → IsSafelySent journal m → IsSafelySent (more ++ journal) m
later_sent more journal m s = record {
  later = more ++ s.later;
  entry = s.entry;
  past = s.past;
  stands = ap (λ (j : List Entry). more ++ j) s.stands ∙ sym (append_assoc more s.later (s.entry ∷ s.past));
  place = s.place;
  safely = s.safely;
}

pub later_told : (more journal : List Entry) (line : ℕ) (reply : Reply) → IsToldSafely journal line reply → IsToldSafely (more ++ journal) line reply
unfolding later_sent
later_told more journal line reply t = record { message = t.message; told = t.told; sent = later_sent more journal t.message t.sent; line_is = t.line_is; reply_is = t.reply_is }
