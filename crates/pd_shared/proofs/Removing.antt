-- Which scheduler an entry removed, by its reply.
use Rattle.std.proofs.Common.{refl, ◌≡◌, ◌≤◌, ℕ, max, arith, Bool, true, false, cond, List, ap, sym, ◌∙◌, subst, Option, Some, None}
use Rattle.std.specs.Prelude.{◌≢◌, Result, Ok, codes}
use Rattle.std.specs.Str.{bytes_eq}
use Rattle.json.specs.Print.{escape_byte}
use Rattle.std.proofs.lemmas.Slice.Eq.{bytes_eq-Decides}
use Rattle.pd_types.specs.declared.request.Request.{Request}
use Rattle.pd_types.specs.declared.request.Request.TheVariants as ask
use Rattle.rule_fit.specs.Suits.{is_among}
use Rattle.sched_api.specs.Benches.{Seats, names_of}
use Rattle.pd_ctl.specs.declared.command.Command.{Command}
use Rattle.pd_ctl.specs.declared.command.Command.TheVariants as commands
use Rattle.pd_ctl.specs.declared.fault.CtlFault.{CtlFault}
use Rattle.pd_ctl.specs.Trees.{fault_tree}
use Rattle.pd_ctl.proofs.Written.{absent_is}
use Rattle.pd_state.specs.BenchHeard.{Becomes, OverBench, asked_at, dropped, dropped_by, fate_told, names_left}
use Rattle.pd_state.specs.Ctl.{reply_or, words_report}
use Rattle.pd_state.specs.Heard.{heard_of}
use Rattle.pd_state.specs.Legal.{IsLegalAfter, first_reply}
use Rattle.pd_state.specs.Reports.{command_told, done_tree, removal_tree, reported}
use Rattle.pd_state.specs.State.{moment_of, part_after}
use Rattle.pd_state.specs.declared.entry.Entry.{Entry}
use Rattle.pd_state.specs.declared.heard.Heard.{Heard}
use Rattle.pd_state.specs.declared.part.Part.{Part}
use Rattle.pd_state.specs.declared.reply.Reply.{Reply}
use Rattle.pd_state.specs.declared.reply.Reply.TheVariants as replies
use Rattle.pd_shared.specs.Benches.{IsOver, name_to_remove, removed_name, removed_with, tells_removed}

nobody : (b : Bool) (name : Option (List ℕ)) → name ≡ None → None ≡ cond b name None
nobody true name none = sym none
nobody false name none = refl

removed_is : reported (done_tree (codes "Removed")) ≡ replies.Report (codes "{\"done\":\"Removed\"}")
unfolding escape_byte
removed_is = refl

-- a removal is answered Removed exactly where the name is there
by_name : (name : List ℕ) (names : List (List ℕ)) (reply : Reply) → reply ≡ reported (removal_tree name names) → cond (is_among name names) (Some name) None ≡ cond (tells_removed reply) (Some name) None
by_name name names reply is = subst (λ (r : Reply). cond (is_among name names) (Some name) None ≡ cond (tells_removed r) (Some name) None) (sym is) (by (is_among name names))
  where
    by : (b : Bool) → cond b (Some name) None ≡ cond (tells_removed (reported (cond b (done_tree (codes "Removed")) (fault_tree (codes "absent"))))) (Some name) None
    by true = ap (λ (r : Reply). cond (tells_removed r) (Some name) None) (sym removed_is)
    by false = ap (λ (json : List ℕ). cond (tells_removed (replies.Report json)) (Some name) None) (sym absent_is)

by_words : (driver : ℕ) (part : Part) (now : ℕ) (names : List (List ℕ)) (told : Result Command CtlFault) (other reply : Reply) → reply ≡ reply_or (words_report driver part now names told) other
    → dropped_by told names ≡ cond (tells_removed reply) (name_to_remove told) None
by_words driver part now names (Ok (commands.SchedulerRemove name)) other reply is = by_name name names reply is
by_words driver part now names told other reply is = nobody (tells_removed reply) (name_to_remove told) refl

by_request : (driver : ℕ) (part : Option Part) (request : Request) (heard : Heard) (reply : Reply) → reply ≡ first_reply driver part request heard → dropped part request heard.names ≡ removed_with request reply
by_request driver None (ask.Ctl moment words) heard reply is = ap (λ (r : Reply). cond (tells_removed r) (name_to_remove (command_told words)) None) (sym is)
by_request driver (Some part) (ask.Ctl moment words) heard reply is = by_words driver part _ heard.names (command_told words) _ reply is
by_request driver None request heard reply is = refl
by_request driver (Some part) request heard reply is = refl

-- a clock has the moments that it was raised to
raised_to : (clock moment : ℕ) → moment ≤ max clock moment
raised_to clock moment = omega arith

no_more : (moment : ℕ) → moment ≤ moment
no_more moment = omega arith

asked_later : (part : Option Part) (request : Request) → moment_of request ≤ asked_at part request
asked_later None request = no_more (moment_of request)
asked_later (Some part) request = raised_to part.clock (moment_of request)

-- what the tables before an entry tell of its bench, its reply tells too
pub over_entry : (driver : ℕ) (past : List Entry) (entry : Entry) (old new : Seats) → IsLegalAfter driver past entry → OverBench (part_after past) entry old new → IsOver entry old new
over_entry driver past entry old new legal over =
    let same : dropped (part_after past) entry.request entry.names ≡ removed_name entry = by_request driver (part_after past) entry.request (heard_of entry) entry.reply legal.reply_is in
    let now = asked_at (part_after past) entry.request in record {
      names = over.names;
      now = now;
      moment = asked_later (part_after past) entry.request;
      becomes = subst (λ (o : Option (List ℕ)). Becomes now (fate_told entry.reply) entry.bench o old new) same over.becomes;
      said = over.said;
      left = over.left ∙ ap (λ (o : Option (List ℕ)). names_left o (names_of old)) same;
    }

-- THE LAW
pub told : (moment : ℕ) (words name : List ℕ) → command_told words ≡ Ok (commands.SchedulerRemove name) → removed_with (ask.Ctl moment words) (replies.Report (codes "{\"done\":\"Removed\"}")) ≡ Some name
told moment words name is = ap name_to_remove is

-- another reply doesn't tell so
other_text : (json : List ℕ) → json ≢ codes "{\"done\":\"Removed\"}" → bytes_eq json (codes "{\"done\":\"Removed\"}") ≡ false
other_text json other = by (bytes_eq json (codes "{\"done\":\"Removed\"}")) refl
  where
    by : (t : Bool) → bytes_eq json (codes "{\"done\":\"Removed\"}") ≡ t → t ≡ false
    by true is = absurd (other ((bytes_eq-Decides json (codes "{\"done\":\"Removed\"}")).0 is))
    by false is = refl

pub not_told : (moment : ℕ) (words : List ℕ) (reply : Reply) → reply ≢ replies.Report (codes "{\"done\":\"Removed\"}") → removed_with (ask.Ctl moment words) reply ≡ None
not_told moment words (replies.Report json) other = ap (λ (t : Bool). cond t (name_to_remove (command_told words)) None) (other_text json (λ same. other (ap replies.Report same)))
not_told moment words reply other = refl
