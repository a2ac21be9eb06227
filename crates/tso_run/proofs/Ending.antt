-- What the workers of clients did together, as a finished run needs it.
use Rattle.std.proofs.Common.{◌≡◌, ℕ, zero, suc, ◌+◌, ◌<◌, ◌≤◌, List, [], ◌∷◌, false, sym, refl, ap, ◌∙◌, subst, arith}
use Rattle.std.specs.Prelude.{map, All, Contains, Result, Ok, Err, IfOk}
use Rattle.std.specs.List.{AllZip}
use Rattle.std.proofs.lemmas.List.Elements.{All-cons, All-contains, All-head, All-tail, All-nil}
use native.Mathlib.Decide.{dec_le}
use mathlib.Core.Logic.{dite}
use Rattle.atomic_table.specs.Seated.{TableId}
use Rattle.pd_turn.specs.Turns.{TurnValue}
use Rattle.tso_model.specs.declared.view.View.{View}
use Rattle.tso_model.specs.Moves.{numbers_from, client_view}
use Rattle.tso_model.specs.Steps.{AtRest}
use Rattle.tso_model.proofs.Basics.{in_head, in_tail}
use Rattle.tso_board.specs.declared.board.Board.{Board}
use Rattle.tso_board.specs.Boards.{setup_of}
use Rattle.tso_board.specs.Ledger.{HasEach}
use Rattle.tso_board.specs.Passes.{IsPassOf, pass_view}
use Rattle.tso_client.specs.declared.entry.PostEntry.{PostEntry}
use Rattle.tso_client.specs.Posts.{entries_of}
use Rattle.tso_client.specs.Slips.{IsInJournal, SlipValue}
use Rattle.tso_outcome.specs.Clients.{Client, Drew}
use Rattle.tso_outcome.specs.Ends.{ClientEnd}
use Rattle.tso_outcome.specs.Runs.{ClientPart}
use Rattle.tso_outcome.proofs.Above.{in_map, to_map}
use Rattle.tso_outcome.proofs.Chains.{drew_client}
use Rattle.tso_run.specs.declared.caller.ClientWork.{ClientWork}
use Rattle.tso_run.specs.declared.end.ClientAnswers.{ClientAnswers}
use Rattle.tso_run.specs.declared.line.ClientLine.{ClientLine}
use Rattle.tso_run.specs.Lines.{client_line, lines_of_client}
use Rattle.tso_run.specs.Runs.{client_answers, client_part}
use Rattle.tso_run.specs.Works.{ClientWorked, IsNewClient, client_of}

pub ok_weaker : {A B : Type 0} (r : Result A B) (P Q : A → Type 0) → ((a : A) → P a → Q a) → IfOk r P → IfOk r Q
ok_weaker (Ok a) P Q f h = f a h
ok_weaker (Err e) P Q f h = h

-- LISTS
pub map-map : {A B C : Type 0} (f : B → C) (g : A → B) (xs : List A) → map f (map g xs) ≡ map (λ x. f (g x)) xs
map-map f g [] = refl
map-map f g (x ∷ xs) = λ i. f (g x) ∷ map-map f g xs i

pub map-same : {A B : Type 0} (f g : A → B) (xs : List A) → All (λ x. f x ≡ g x) xs → map f xs ≡ map g xs
map-same f g [] same = refl
map-same f g (x ∷ xs) same = let one : f x ≡ g x = All-head (λ y. f y ≡ g y) x xs same in let rest = map-same f g xs (All-tail (λ y. f y ≡ g y) x xs same) in λ i. one i ∷ rest i

pub all_map : {A B : Type 0} (P : B → Type 0) (f : A → B) (xs : List A) → All (λ x. P (f x)) xs → All P (map f xs)
all_map P f [] all = All-nil P
all_map P f (x ∷ xs) all = All-cons P (f x) (map f xs) (All-head (λ y. P (f y)) x xs all) (all_map P f xs (All-tail (λ y. P (f y)) x xs all))

pub all_by : {A : Type 0} (P Q : A → Type 0) → ((x : A) → P x → Q x) → (xs : List A) → All P xs → All Q xs
all_by P Q f [] all = All-nil Q
all_by P Q f (x ∷ xs) all = All-cons Q x xs (f x (All-head P x xs all)) (all_by P Q f xs (All-tail P x xs all))

pub has_numbers : (a n x : ℕ) → a ≤ x → x < a + n → Contains (numbers_from a n) x
has_numbers a zero x low high = absurd (omega (arith, low, high))
has_numbers a (suc n) x low high = dite (dec_le x a)
    (λ le. subst (Contains (a ∷ numbers_from (a + 1) n)) (let e : a ≡ x = omega (arith, le, low) in e) (in_head a (numbers_from (a + 1) n)))
    (λ gt. in_tail a (numbers_from (a + 1) n) x (has_numbers (a + 1) n x (omega (arith, gt)) (omega (arith, high))))

pub has_each : (n : ℕ) (xs : List ℕ) → xs ≡ numbers_from 1 n → HasEach n xs
has_each n xs e x pos low = subst (λ l. Contains l x) (sym e) (has_numbers 1 n x (omega (arith, pos)) (omega (arith, low)))

-- CLIENTS
pub record ClientDone {N : Type 0} (board : Board) (post : TurnValue) (lines : List ClientLine) (w : ClientWork N) : Type 0 where
  pub board_is : IsPassOf w.pass board
  pub rest : AtRest (pass_view w.pass)
  pub post_is : w.slip.post ≡ post
  pub number : (pass_view w.pass).client ≡ w.number
  pub client : w.slip.client ≡ w.number
  pub drew : Drew (record { view = client_view (setup_of board) w.number; slip = [] }) w.answers.items (client_of w.pass w.slip)
  pub asked : map (client_line w.number) w.answers.items ≡ lines_of_client w.number lines

module _ {N : Type 0} (name : TableId) (board : Board) (post : TurnValue) (lines : List ClientLine) where
  client_done : (v w : ClientWork N) → IsNewClient name board post v → ClientWorked board post lines v w → w.failed ≡ false → ClientDone board post lines w
  client_done v w new worked fine =
      let at_first : Client = record { view = client_view (setup_of board) w.number; slip = [] } in
      let view : pass_view v.pass ≡ client_view (setup_of board) w.number = new.view ∙ ap (client_view (setup_of board)) (sym worked.number) in
      let slip : v.slip.list ≡ [] = ap (λ (s : SlipValue). s.list) new.slip in
      let drew : Drew at_first w.answers.items (client_of w.pass w.slip) = subst (λ (x : Client). Drew x w.answers.items (client_of w.pass w.slip)) (λ i. record { view = view i; slip = slip i }) (worked.drew fine) in
      let number : (pass_view w.pass).client ≡ w.number = drew_client at_first w.answers.items (client_of w.pass w.slip) drew in
      record {
        board_is = worked.board_is;
        rest = worked.rest;
        post_is = worked.post_is;
        number = number;
        client = worked.own ∙ number;
        drew = drew;
        asked = subst (λ n. map (client_line n) w.answers.items ≡ lines_of_client n lines) (sym worked.number) (worked.asked fine);
      }

  pub clients_done : (vs ws : List (ClientWork N)) → All (IsNewClient name board post) vs → AllZip (ClientWorked board post lines) vs ws → All (λ (w : ClientWork N). w.failed ≡ false) ws
      → All (ClientDone board post lines) ws × (map (λ (w : ClientWork N). w.number) ws ≡ map (λ (v : ClientWork N). v.number) vs)
  clients_done [] [] new worked fine = (All-nil (ClientDone board post lines), refl)
  clients_done [] (w ∷ ws) new worked fine = absurd worked
  clients_done (v ∷ vs) [] new worked fine = absurd worked
  clients_done (v ∷ vs) (w ∷ ws) new worked fine =
      let rest = clients_done vs ws (All-tail (IsNewClient name board post) v vs new) worked.1 (All-tail (λ (x : ClientWork N). x.failed ≡ false) w ws fine) in
      let n : w.number ≡ v.number = worked.0.number in (
        All-cons (ClientDone board post lines) w ws (client_done v w (All-head (IsNewClient name board post) v vs new) worked.0 (All-head (λ (x : ClientWork N). x.failed ≡ false) w ws fine)) rest.0,
        λ i. n i ∷ rest.1 i,
      )

-- WHAT THEY LEAVE
module _ {N : Type 0} (board : Board) (post : TurnValue) (lines : List ClientLine) (cs : List (ClientWork N)) (called : All (ClientDone board post lines) cs) (numbers : map (λ (w : ClientWork N). w.number) cs ≡ numbers_from 1 (setup_of board).clients) where
  abbrev pub client_end : ClientWork N → ClientEnd
  client_end w = record { part = record { number = w.number; answers = w.answers.items }; last = client_of w.pass w.slip }

  pub passes_are : All (λ p. IsPassOf p board) (map (λ (w : ClientWork N). w.pass) cs)
  passes_are = all_map (λ p. IsPassOf p board) (λ (w : ClientWork N). w.pass) cs (all_by (ClientDone board post lines) (λ w. IsPassOf w.pass board) (λ w d. d.board_is) cs called)

  pub slips_are : All (λ (s : SlipValue). s.post ≡ post) (map (λ (w : ClientWork N). w.slip) cs)
  slips_are = all_map (λ (s : SlipValue). s.post ≡ post) (λ (w : ClientWork N). w.slip) cs (all_by (ClientDone board post lines) (λ w. w.slip.post ≡ post) (λ w d. d.post_is) cs called)

  pub clients_each : HasEach (setup_of board).clients (map (λ (v : View). v.client) (map pass_view (map (λ (w : ClientWork N). w.pass) cs)))
  clients_each = has_each (setup_of board).clients (map (λ (v : View). v.client) (map pass_view (map (λ (w : ClientWork N). w.pass) cs)))
      (map-map (λ (v : View). v.client) pass_view (map (λ (w : ClientWork N). w.pass) cs) ∙ map-map (λ p. (pass_view p).client) (λ (w : ClientWork N). w.pass) cs
      ∙ map-same (λ (w : ClientWork N). (pass_view w.pass).client) (λ (w : ClientWork N). w.number) cs (all_by (ClientDone board post lines) (λ w. (pass_view w.pass).client ≡ w.number) (λ w d. d.number) cs called) ∙ numbers)

  pub client_views : map pass_view (map (λ (w : ClientWork N). w.pass) cs) ≡ map (λ (e : ClientEnd). e.last.view) (map client_end cs)
  client_views = map-map pass_view (λ (w : ClientWork N). w.pass) cs ∙ sym (map-map (λ (e : ClientEnd). e.last.view) client_end cs)

  pub ends_numbers : map (λ (e : ClientEnd). e.part.number) (map client_end cs) ≡ numbers_from 1 (setup_of board).clients
  ends_numbers = map-map (λ (e : ClientEnd). e.part.number) client_end cs ∙ numbers

  pub ends_drew : (e : ClientEnd) → Contains (map client_end cs) e → Drew (record { view = client_view (setup_of board) e.part.number; slip = [] }) e.part.answers e.last
  ends_drew e there = let w = in_map client_end cs e there in
      let done = All-contains (ClientDone board post lines) cs w.0 called w.1 in
      subst (λ (x : ClientEnd). Drew (record { view = client_view (setup_of board) x.part.number; slip = [] }) x.part.answers x.last) w.2 done.drew

  pub ends_slips : (journal : List PostEntry) → All (IsInJournal journal) (map (λ (w : ClientWork N). w.slip) cs) → (e : ClientEnd) → Contains (map client_end cs) e → entries_of e.part.number journal ≡ e.last.slip
  ends_slips journal all e there = let w = in_map client_end cs e there in
      let done = All-contains (ClientDone board post lines) cs w.0 called w.1 in
      let own : IsInJournal journal w.0.slip = All-contains (IsInJournal journal) (map (λ (x : ClientWork N). x.slip) cs) w.0.slip all (to_map (λ (x : ClientWork N). x.slip) cs w.0 w.1) in
      subst (λ (x : ClientEnd). entries_of x.part.number journal ≡ x.last.slip) w.2 (ap (λ n. entries_of n journal) (sym done.client) ∙ sym own)

  module _ (answers : List ClientAnswers) (left : answers ≡ map client_answers cs) where
    pub parts_are : map client_part answers ≡ map (λ (e : ClientEnd). e.part) (map client_end cs)
    parts_are = ap (map client_part) left ∙ map-map client_part client_answers cs ∙ sym (map-map (λ (e : ClientEnd). e.part) client_end cs)

    pub parts_numbers : map (λ (p : ClientPart). p.number) (map client_part answers) ≡ numbers_from 1 (setup_of board).clients
    parts_numbers = ap (map (λ (p : ClientPart). p.number)) parts_are ∙ map-map (λ (p : ClientPart). p.number) (λ (e : ClientEnd). e.part) (map client_end cs) ∙ ends_numbers

    pub parts_lines : (p : ClientPart) → Contains (map client_part answers) p → map (client_line p.number) p.answers ≡ lines_of_client p.number lines
    parts_lines p there =
        let e = in_map (λ (x : ClientEnd). x.part) (map client_end cs) p (subst (λ l. Contains l p) parts_are there) in
        let w = in_map client_end cs e.0 e.1 in
        let done = All-contains (ClientDone board post lines) cs w.0 called w.1 in
        subst (λ (q : ClientPart). map (client_line q.number) q.answers ≡ lines_of_client q.number lines) (ap (λ (x : ClientEnd). x.part) w.2 ∙ e.2) done.asked
