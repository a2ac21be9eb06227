-- What one line of a driver did.
use Rattle.std.proofs.Common.{◌≡◌, ◌∙◌, ℕ, [], ◌∷◌, refl, sym, ap, subst}
use Rattle.std.specs.Prelude.{Option, Some, None}
use Rattle.std.proofs.lemmas.List.{append-nil}
use Rattle.pd_types.specs.declared.request.Request.{Request}
use Rattle.tso_driver.specs.Drivers.{view_of}
use Rattle.tso_driver.specs.Driving.{DriverDid as OracleDid}
use Rattle.tso_driver.specs.declared.said.DriverSaid.{DriverSaid}
use Rattle.tso_run.specs.declared.line.DriverAsk.{DriverAsk}
use Rattle.tso_run.specs.Lines.{driver_ask}
use Rattle.sched_api.specs.Benches.{Seats}
use Rattle.pd_state.specs.declared.reply.Reply.{Reply}
use Rattle.pd_run.specs.Answers.{asked_besides}
use Rattle.pd_run.specs.Heard.{seats_of}
use Rattle.pd_run.specs.Turns.{IsAsked, IsReplied}
use Rattle.pd_run.specs.Works.{LineDone, Made}
use Rattle.pd_run.specs.declared.answer.DriverSays.TheVariants as says
use Rattle.pd_run.specs.declared.driving.Means.{Means}
use Rattle.pd_run.specs.declared.line.DriverTask.TheVariants as tasks

-- the one entry of a call
pub replied : {B : Type 0} (seats : B → Seats) (line : ℕ) (request : Request) (reply : Reply) {N : Type 0} (old new : Means N B) → (m : Made seats line request reply old.share new.share old.bench new.bench) → IsReplied line request reply (m.entry ∷ [])
replied seats line request reply old new m = (m.entry, refl, m.entry_is.line_is, m.entry_is.request_is, m.entry_is.reply_is)

module _ {N B : Type 0} (seats : B → Seats) (line : ℕ) (ask : DriverAsk) (said : DriverSaid) (old new : Means N B) (asked : driver_ask said ≡ ask) (did : OracleDid said (view_of old.driver) (view_of new.driver)) where
  -- the cluster heard of it
  pub told : (request : Request) → asked_besides said ≡ Some request → (reply : Reply) → Made seats line request reply old.share new.share old.bench new.bench → LineDone seats line (tasks.Oracle ask) (says.Oracle said) old new
  told request besides reply m = record {
    own = m.entry ∷ [];
    did = (asked, subst (λ (r : Option Request). IsAsked line r (m.entry ∷ [])) (sym besides) (reply, replied seats line request reply old new m));
    list = ap (λ s. s.list) m.gained;
    drove = (view_of new.driver, did, refl);
    heard = (seats_of seats new.bench, m.over, refl);
  }

  -- the cluster heard nothing
  pub quiet : asked_besides said ≡ None → new.share ≡ old.share → new.bench ≡ old.bench → LineDone seats line (tasks.Oracle ask) (says.Oracle said) old new
  quiet besides share bench = record {
    own = [];
    did = (asked, subst (λ (r : Option Request). IsAsked line r []) (sym besides) refl);
    list = ap (λ s. s.list) share ∙ sym (append-nil old.share.list);
    drove = (view_of new.driver, did, refl);
    heard = ap (seats_of seats) bench;
  }
