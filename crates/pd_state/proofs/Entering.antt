-- What adding an operator comes to over a door, by what its parts leave.
use Rattle.std.proofs.Common.{◌≡◌, IfOk, OnOk, ℕ, true, false, List, [], ◌++◌, append-nil, sym, ◌∙◌, subst, Some, None}
use Rattle.std.specs.Prelude.{Result, Ok, Err}
use Rattle.pd_types.specs.declared.memory.NoMemory.{NoMemory}
use Rattle.pd_types.specs.declared.region.RegionBeat.{RegionBeat}
use Rattle.id_alloc.specs.Windows.{Window}
use Rattle.op_control.specs.declared.operator.NewOp.{NewOp}
use Rattle.op_control.specs.declared.adding.AddFault.{AddFault}
use Rattle.op_control.specs.Adding.{refusal_of, with_new_id}
use Rattle.op_control.proofs.IdLemmas.{same_refusal}
use Rattle.pd_state.specs.Adding.{Adds, Around, Drawn, Planning, Work, add_op, around_of, asks_id, drawn, entered, free_id, planning_of, with_window, work}
use Rattle.pd_state.specs.Asking.{Ear, Talks}
use Rattle.pd_state.specs.declared.adding.Adding.{Adding}
use Rattle.pd_state.specs.declared.adding.Adding.TheVariants as adding
use Rattle.pd_state.specs.declared.part.Part.{Part}
use Rattle.pd_state.specs.declared.sent.Sent.{Sent}
use Rattle.pd_state.proofs.Deeds.{add_plain, add_refused, add_with}

-- one of its tests fails
pub adds_none : (around : Around) (op : NewOp) (beat : RegionBeat) (p : Planning) (sents : List Sent) (fault : AddFault) (driver : ℕ) (e : Ear) → refusal_of p.operators op (Some beat) p.limits around.now ≡ Some fault
    → Adds around op beat p p sents sents (adding.Add fault) driver e e
adds_none around op beat p sents fault driver e is = record { sents = []; sent = sym (append-nil sents); talks = add_refused around op beat p fault driver e is }

-- what entering it left
pub record Entered (x : Work) (q : Planning) (sents_old sents_new : List Sent) (came : Adding) : Type 0 where
  pub came_is : came ≡ x.adding
  pub planning_is : q ≡ x.planning
  pub sents_are : sents_new ≡ sents_old ++ x.sents

pub entered_ok : (r : Result Adding NoMemory) (x : Work) (q : Planning) (sents_old sents_new : List Sent) (P : Adding → Type 0) → ((came : Adding) → Entered x q sents_old sents_new came → P came)
    → IfOk r (λ came. came ≡ x.adding) → OnOk r (q ≡ x.planning) → OnOk r (sents_new ≡ sents_old ++ x.sents) → IfOk r P
entered_ok (Ok came) x q sents_old sents_new P f a b c = f came (record { came_is = a; planning_is = b; sents_are = c })
entered_ok (Err e) x q sents_old sents_new P f a b c = tt

-- no id is wanted
pub adds_plain : (around : Around) (op : NewOp) (beat : RegionBeat) (p q : Planning) (sents_old sents_new : List Sent) (came : Adding) (driver : ℕ) (e : Ear) → refusal_of p.operators op (Some beat) p.limits around.now ≡ None → asks_id op.steps ≡ false
    → Entered (entered around op beat p) q sents_old sents_new came → Adds around op beat p q sents_old sents_new came driver e e
adds_plain around op beat p q sents_old sents_new came driver e passed plain h = record {
  sents = (entered around op beat p).sents;
  sent = h.sents_are;
  talks = subst (λ (w : Work). Talks Work (add_op around op beat p) w driver e e) (λ i. work (sym h.planning_is i) (entered around op beat p).sents (sym h.came_is i)) (add_plain around op beat p driver e passed plain);
}

-- its new peer has an id
pub adds_with : (around : Around) (op : NewOp) (beat : RegionBeat) (p q : Planning) (window : Window) (id : ℕ) (sents_old sents_new : List Sent) (came : Adding) (driver : ℕ) (x y : Ear) → refusal_of p.operators op (Some beat) p.limits around.now ≡ None
    → asks_id op.steps ≡ true → Talks Drawn (free_id beat.region.peers beat around.term p.window) (drawn window (Ok id)) driver x y → Entered (entered around (with_new_id op id) beat (with_window p window)) q sents_old sents_new came
    → Adds around op beat p q sents_old sents_new came driver x y
adds_with around op beat p q window id sents_old sents_new came driver x y passed asks t h = record {
  sents = (entered around (with_new_id op id) beat (with_window p window)).sents;
  sent = h.sents_are;
  talks = subst (λ (w : Work). Talks Work (add_op around op beat p) w driver x y) (λ i. work (sym h.planning_is i) (entered around (with_new_id op id) beat (with_window p window)).sents (sym h.came_is i))
      (add_with around op beat p (drawn window (Ok id)) driver x y passed asks t);
}

-- it has none
pub adds_without : (around : Around) (op : NewOp) (beat : RegionBeat) (p q : Planning) (window : Window) (why : Adding) (sents : List Sent) (driver : ℕ) (x y : Ear) → refusal_of p.operators op (Some beat) p.limits around.now ≡ None
    → asks_id op.steps ≡ true → Talks Drawn (free_id beat.region.peers beat around.term p.window) (drawn window (Err why)) driver x y → q ≡ with_window p window → Adds around op beat p q sents sents why driver x y
adds_without around op beat p q window why sents driver x y passed asks t q_is = record {
  sents = [];
  sent = sym (append-nil sents);
  talks = subst (λ (w : Work). Talks Work (add_op around op beat p) w driver x y) (λ i. work (sym q_is i) [] why) (add_with around op beat p (drawn window (Err why)) driver x y passed asks t);
}

-- the tables once ids were taken
abbrev pub windowed : Part → Part → Part
windowed old new = record old { window = new.window; known = new.known }

pub passed_still : (old new : Part) (op : NewOp) (id : ℕ) (beat : RegionBeat) → new ≡ windowed old new → refusal_of old.operators op (Some beat) old.limits old.clock ≡ None
    → refusal_of new.operators (with_new_id op id) (Some beat) new.limits new.clock ≡ None
passed_still old new op id beat is passed =
    subst (λ (p : Part). refusal_of p.operators (with_new_id op id) (Some beat) p.limits p.clock ≡ None) (sym is) (same_refusal old.operators op id (Some beat) old.limits old.clock ∙ passed)

pub entered_still : (old new : Part) (op : NewOp) (beat : RegionBeat) (q : Planning) (sents_old sents_new : List Sent) (came : Adding) → new ≡ windowed old new
    → Entered (entered (around_of new) op beat (planning_of new)) q sents_old sents_new came → Entered (entered (around_of old) op beat (with_window (planning_of old) new.window)) q sents_old sents_new came
entered_still old new op beat q sents_old sents_new came is h = subst (λ (p : Part). Entered (entered (around_of p) op beat (planning_of p)) q sents_old sents_new came) is h
