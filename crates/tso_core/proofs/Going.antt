-- A row of steps, as far as it has come.
use Rattle.std.proofs.Common.{◌≡◌, ℕ, zero, suc, ◌+◌, ◌<◌, ◌≤◌, Bool, true, cond, List, [], ◌∷◌, length, get_or, drop, sym, ap, subst, ◌∙◌, arith, drop-cons}
use Rattle.std.specs.List.{AllByRecursion}
use Rattle.pd_types.specs.declared.oracle.Actor.{Actor}
use Rattle.pd_types.specs.declared.oracle.Actor.TheVariants.{Client}
use Rattle.tso_model.specs.declared.view.Setup.{Setup}
use Rattle.tso_core.specs.declared.machine.Machine.{Machine}
use Rattle.tso_core.specs.declared.reply.Due.{Due}
use Rattle.tso_core.specs.declared.reply.Due.TheVariants.{Rest}
use Rattle.tso_core.specs.declared.reply.Kind.{Kind}
use Rattle.tso_core.specs.declared.reply.Kind.TheVariants.{Look, Arm, Draw}
use Rattle.tso_core.specs.declared.reply.Reply.{Reply}
use Rattle.tso_core.specs.declared.reply.Reply.TheVariants.{OutOfTurn}
use Rattle.tso_core.specs.Asked.{HasActor, IsAsked}
use Rattle.tso_core.specs.Due.{same_due}
use Rattle.tso_core.specs.Machine.{whole_of, place_of, room_at, Answers, Goes}
use Rattle.tso_core.specs.Rows.{goes_on, row, take_kinds, take_of}
use Rattle.tso_core.specs.Sound.{IsSound}
use Rattle.tso_core.specs.Steps.{Stepped, out_of_turn, due_of}
use Rattle.tso_core.specs.Whole.{Whole}

-- an answer and the state in memory
abbrev at_machine : Reply → Machine → Stepped
at_machine reply m = record { reply = reply; after = whole_of m }

-- what is left of the row from here leads where all of it leads from the beginning
pub record IsAlong (begun : Machine) (actor : Actor) (kinds : List Kind) (before : Reply) (i : ℕ) (m : Machine) (answer : Reply) : Type 0 where
  pub sound : IsSound (whole_of m)
  pub setup : m.setup ≡ begun.setup
  pub room : length kinds ≤ room_at m (place_of begun.setup actor) + i
  pub leads : row actor (drop i kinds) (at_machine answer m) ≡ row actor kinds (at_machine before begun)

asked_at : (P : Kind → Type 0) (kinds : List Kind) (i : ℕ) (d : Kind) → AllByRecursion P kinds → i < length kinds → P (get_or kinds i d)
asked_at P [] i d all within = absurd (omega arith)
asked_at P (kind ∷ kinds) zero d all within = all.0
asked_at P (kind ∷ kinds) (suc i) d all within = asked_at P kinds i d all.1 (omega arith)

-- one more kind of the row
row_more : (actor : Actor) (kinds : List Kind) (i : ℕ) (d : Kind) (r s : Stepped) → i < length kinds → s ≡ goes_on actor r (get_or kinds i d) → row actor (drop (i + 1) kinds) s ≡ row actor (drop i kinds) r
row_more actor kinds i d r s within is =
    let next : i + 1 ≡ suc i = omega arith in
    ap (λ (j : ℕ). row actor (drop j kinds) s) next ∙ ap (row actor (drop (suc i) kinds)) is ∙ sym (ap (λ (l : List Kind). row actor l r) (drop-cons kinds i d within))

-- the row goes on with one more kind
pub along_more : (begun : Machine) (actor : Actor) (kinds : List Kind) (before : Reply) (i : ℕ) (m n : Machine) (answer reply : Reply) (d : Kind) → IsAlong begun actor kinds before i m answer → i < length kinds
    → Goes (place_of m.setup actor) m reply n (goes_on actor (at_machine answer m) (get_or kinds i d)) → IsSound (whole_of n) → n.setup ≡ m.setup
    → IsAlong begun actor kinds before (i + 1) n reply
along_more begun actor kinds before i m n answer reply d along within went sound setup =
    let r : Stepped = at_machine answer m in
    let s : Stepped = at_machine reply n in
    let goes : s ≡ goes_on actor r (get_or kinds i d) = λ j. record { reply = went.answers.reply j; after = went.answers.after j } in
    let room : room_at m (place_of begun.setup actor) ≤ room_at n (place_of begun.setup actor) + 1 = subst (λ (k : Setup). room_at m (place_of k actor) ≤ room_at n (place_of k actor) + 1) along.setup went.room in record {
      sound = sound;
      setup = setup ∙ along.setup;
      room = omega (arith, along.room, room);
      leads = row_more actor kinds i d r s within goes ∙ along.leads;
    }

-- a kind of a row is one that may be asked for
pub asked_here : (begun : Machine) (actor : Actor) (kinds : List Kind) (before : Reply) (i : ℕ) (m : Machine) (answer : Reply) (d : Kind) → IsAlong begun actor kinds before i m answer → i < length kinds
    → AllByRecursion (IsAsked begun.setup) kinds → IsAsked m.setup (get_or kinds i d)
asked_here begun actor kinds before i m answer d along within asked = subst (λ (k : Setup). IsAsked k (get_or kinds i d)) (sym along.setup) (asked_at (IsAsked begun.setup) kinds i d asked within)

-- its actor is the row's
pub actor_here : (begun : Machine) (actor : Actor) (kinds : List Kind) (before : Reply) (i : ℕ) (m : Machine) (answer : Reply) → IsAlong begun actor kinds before i m answer → HasActor begun.setup actor → HasActor m.setup actor
actor_here begun actor kinds before i m answer along has = subst (λ (k : Setup). HasActor k actor) (sym along.setup) has

-- what a step of a row answers and leaves is what the row goes on to
went_on : (reply : Reply) (n : Machine) (r : Stepped) → Answers reply n r → at_machine reply n ≡ r
went_on reply n r answers = λ j. record { reply = answers.reply j; after = answers.after j }

-- a look, an arm and a draw behind one another, of a client at rest, are the row of a draw
pub take_goes : (w : Whole) (c d n : ℕ) (due : Due) (m m1 m2 m3 : Machine) (looked armed drawn : Reply) → due ≡ due_of w (Client c) → same_due due Rest ≡ true → whole_of m ≡ w
    → Answers looked m1 (goes_on (Client c) (at_machine (OutOfTurn due) m) (Look d)) → Answers armed m2 (goes_on (Client c) (at_machine looked m1) (Arm n)) → Answers drawn m3 (goes_on (Client c) (at_machine armed m2) Draw)
    → at_machine drawn m3 ≡ take_of w c d n
take_goes w c d n due m m1 m2 m3 looked armed drawn is_due rests same look arm draw =
    let out : Stepped = out_of_turn w (due_of w (Client c)) in
    let begun : at_machine (OutOfTurn due) m ≡ out = λ j. record { reply = OutOfTurn (is_due j); after = same j } in
    let on_look = went_on looked m1 (goes_on (Client c) (at_machine (OutOfTurn due) m) (Look d)) look ∙ ap (λ (r : Stepped). goes_on (Client c) r (Look d)) begun in
    let on_arm = went_on armed m2 (goes_on (Client c) (at_machine looked m1) (Arm n)) arm ∙ ap (λ (r : Stepped). goes_on (Client c) r (Arm n)) on_look in
    went_on drawn m3 (goes_on (Client c) (at_machine armed m2) Draw) draw ∙ ap (λ (r : Stepped). goes_on (Client c) r Draw) on_arm
    ∙ sym (ap (λ (b : Bool). cond b (row (Client c) (take_kinds d n) out) out) (ap (λ (e : Due). same_due e Rest) (sym is_due) ∙ rests))
