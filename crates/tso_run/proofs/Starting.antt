-- The workers of clients, made one by one.
use Rattle.std.proofs.Common.{◌≡◌, ℕ, ◌+◌, ◌-◌, ◌≤◌, List, [], ◌∷◌, ◌++◌, false, sym, refl, ap, ◌∙◌, subst, arith}
use Rattle.std.specs.Prelude.{map, All}
use Rattle.std.proofs.lemmas.List.Elements.{All-push, All-head, All-tail, All-nil}
use Rattle.atomic_table.specs.Seated.{TableId}
use Rattle.pd_turn.specs.Turns.{TurnValue}
use Rattle.tso_model.specs.declared.view.Setup.{Setup}
use Rattle.tso_model.specs.Moves.{numbers_from, client_view}
use Rattle.tso_board.specs.declared.board.Board.{Board}
use Rattle.tso_board.specs.declared.pass.Pass.{Pass}
use Rattle.tso_board.specs.Boards.{board_id, setup_of}
use Rattle.tso_board.specs.Passes.{IsPassOf, pass_view}
use Rattle.tso_client.specs.Slips.{SlipValue, clients_of, new_slip}
use Rattle.tso_run.specs.declared.caller.ClientWork.{ClientWork}
use Rattle.tso_run.specs.Works.{IsNewClient}
use Rattle.tso_run.proofs.Rows.{next_is, numbered}

-- this many clients have workers, and these passes and slips are left
pub record ClientsLeft {N : Type 0} (name : TableId) (board : Board) (post : TurnValue) (number : ℕ) (rest : List Pass) (slips : List SlipValue) (works : List (ClientWork N)) : Type 0 where
  pub low : number ≤ (setup_of board).clients
  pub boards : All (λ p. IsPassOf p board) rest
  pub views : map pass_view rest ≡ map (client_view (setup_of board)) (numbers_from (number + 1) ((setup_of board).clients - number))
  pub slips_are : slips ≡ map (new_slip post) (numbers_from (number + 1) ((setup_of board).clients - number))
  pub new : All (IsNewClient name board post) works
  pub numbers : map (λ (w : ClientWork N). w.number) works ≡ numbers_from 1 number

map_id : {A : Type 0} (xs : List A) → map (λ (x : A). x) xs ≡ xs
map_id [] = refl
map_id (x ∷ xs) = λ i. x ∷ map_id xs i

module _ {N : Type 0} (name : TableId) (board : Board) (post : TurnValue) where
  pub clients_begin : (passes : List Pass) (slips : List SlipValue) → All (λ p. IsPassOf p board) passes → map pass_view passes ≡ map (client_view (setup_of board)) (numbers_from 1 (setup_of board).clients)
      → slips ≡ map (new_slip post) (numbers_from 1 (setup_of board).clients) → ClientsLeft {N = N} name board post 0 passes slips []
  clients_begin passes slips boards views slips_are = record {
    low = omega arith;
    boards = boards;
    views = views ∙ ap (λ (m : ℕ). map (client_view (setup_of board)) (numbers_from 1 m)) (let e : (setup_of board).clients ≡ (setup_of board).clients - 0 = omega arith in e);
    slips_are = slips_are ∙ ap (λ (m : ℕ). map (new_slip post) (numbers_from 1 m)) (let e : (setup_of board).clients ≡ (setup_of board).clients - 0 = omega arith in e);
    new = All-nil (IsNewClient name board post);
    numbers = refl;
  }

  pub clients_next : board_id board ≡ name → clients_of post ≡ (setup_of board).clients → (number : ℕ) (all rest : List Pass) (slips later : List SlipValue) (works more : List (ClientWork N)) (w : ClientWork N) → ClientsLeft name board post number all slips works → all ≡ w.pass ∷ rest
      → slips ≡ w.slip ∷ later → w.number ≡ number + 1 → w.answers.items ≡ [] → w.failed ≡ false → more ≡ works ++ w ∷ [] → ClientsLeft name board post (number + 1) rest later more
  clients_next named many number all rest slips later works more w l is also n empty fine e =
      let k : Setup = setup_of board in
      let views : map pass_view (w.pass ∷ rest) ≡ map (client_view k) (numbers_from (number + 1) (k.clients - number)) = ap (map pass_view) (sym is) ∙ l.views in
      let boards : All (λ p. IsPassOf p board) (w.pass ∷ rest) = subst (All (λ p. IsPassOf p board)) is l.boards in
      let one = next_is pass_view (client_view k) (number + 1) (k.clients - number) w.pass rest views in
      let two = next_is (λ (s : SlipValue). s) (new_slip post) (number + 1) (k.clients - number) w.slip later (map_id (w.slip ∷ later) ∙ sym also ∙ l.slips_are) in
      record {
        low = omega (arith, l.low, one.0);
        boards = All-tail (λ p. IsPassOf p board) w.pass rest boards;
        views = one.2 ∙ ap (λ (m : ℕ). map (client_view k) (numbers_from (number + 1 + 1) m)) (let s : k.clients - number - 1 ≡ k.clients - (number + 1) = omega arith in s);
        slips_are = sym (map_id later) ∙ two.2 ∙ ap (λ (m : ℕ). map (new_slip post) (numbers_from (number + 1 + 1) m)) (let s : k.clients - number - 1 ≡ k.clients - (number + 1) = omega arith in s);
        new = subst (All (IsNewClient name board post)) (sym e) (All-push (IsNewClient name board post) works w l.new (record {
          named = named;
          board_is = All-head (λ p. IsPassOf p board) w.pass rest boards;
          view = one.1 ∙ ap (client_view k) (sym n);
          slip = two.1 ∙ ap (new_slip post) (sym n);
          clients = many;
          answers = empty;
          fine = fine;
        }));
        numbers = numbered (λ (x : ClientWork N). x.number) works more w number e l.numbers n;
      }

  pub clients_end : (number : ℕ) (works : List (ClientWork N)) (rest : List Pass) (slips : List SlipValue) → (setup_of board).clients - number ≡ 0 → ClientsLeft name board post number rest slips works → map (λ (w : ClientWork N). w.number) works ≡ numbers_from 1 (setup_of board).clients
  clients_end number works rest slips none l = l.numbers ∙ ap (numbers_from 1) (let e : number ≡ (setup_of board).clients = omega (arith, l.low, none) in e)
