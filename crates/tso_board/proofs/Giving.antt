-- The base gives its numbers one by one.
use Rattle.std.proofs.Common.{◌≡◌, ℕ, suc, ◌+◌, ◌-◌, ◌*◌, ◌<◌, List, [], ◌∷◌, ◌++◌, map, sym, ap, subst, ◌∙◌, arith}
use Rattle.std.specs.Prelude.{All}
use Rattle.std.proofs.lemmas.List.Elements.{All-push}
use Rattle.std.proofs.lemmas.List.{map-append}
use Rattle.tso_model.specs.declared.view.View.{View}
use Rattle.tso_model.specs.declared.view.Setup.{Setup}
use Rattle.tso_model.specs.Moves.{blank, numbers_from, rest_of, head_of, gave_driver, gave_client, new_driver, new_client, first_view, driver_view, client_view}
use Rattle.tso_model.proofs.Numbers.{map_numbers}
use Rattle.tso_board.specs.Opened.{left}
use Rattle.tso_board.specs.Plays.{Sat}

-- of n numbers of which i are given, the next is i + 1
pub next_number : (i n : ℕ) → i < n → numbers_from (i + 1) (n - i) ≡ (i + 1) ∷ numbers_from (i + 1 + 1) (n - (i + 1))
next_number i n lt = let e : n - i ≡ suc (n - (i + 1)) = omega (arith, lt) in ap (numbers_from (i + 1)) e

none_left : (n : ℕ) → numbers_from (n + 1) (n - n) ≡ []
none_left n = let e : n - n ≡ 0 = omega arith in ap (numbers_from (n + 1)) e

module _ (k : Setup) (i j : ℕ) where
  pub has_driver : i < k.drivers → (d : ℕ) × (ds : List ℕ) × ((left k i j).give_drivers ≡ d ∷ ds)
  has_driver lt = (i + 1, numbers_from (i + 1 + 1) (k.drivers - (i + 1)), next_number i k.drivers lt)

  pub gives_driver : i < k.drivers → gave_driver (left k i j) ≡ left k (i + 1) j
  gives_driver lt = ap (λ (l : List ℕ). record (left k i j) { give_drivers = rest_of l }) (next_number i k.drivers lt)

  pub given_driver : i < k.drivers → new_driver (left k i j) ≡ driver_view k (i + 1)
  given_driver lt = ap (λ (l : List ℕ). record (blank k.cell) { driver = head_of l }) (next_number i k.drivers lt)

  pub has_client : j < k.clients → (d : ℕ) × (ds : List ℕ) × ((left k i j).give_clients ≡ d ∷ ds)
  has_client lt = (j + 1, numbers_from (j + 1 + 1) (k.clients - (j + 1)), next_number j k.clients lt)

  pub gives_client : j < k.clients → gave_client (left k i j) ≡ left k i (j + 1)
  gives_client lt =
      let less : (k.clients - j) * 262144 - 262144 ≡ (k.clients - (j + 1)) * 262144 = omega (arith, lt) in
      λ n. record (left k i j) { give_clients = rest_of (next_number j k.clients lt n); quota = less n }

  pub given_client : j < k.clients → new_client (left k i j) ≡ client_view k (j + 1)
  given_client lt = ap (λ (l : List ℕ). record (blank k.cell) { client = head_of l; quota = 262144 }) (next_number j k.clients lt)

-- a seat of this view that holds no slot
abbrev bare : View → Sat
bare v = (v, [])

-- The same of the seats: m is the base, n the one split off or what is left of the base
module _ (k : Setup) (i j : ℕ) (m n : Sat) (is : m ≡ (left k i j, [])) where
  pub seat_of_driver : i < k.drivers → n ≡ (new_driver m.0, []) → n ≡ (driver_view k (i + 1), [])
  seat_of_driver lt e = e ∙ ap (λ (x : Sat). bare (new_driver x.0)) is ∙ ap bare (given_driver k i j lt)

  pub base_of_driver : i < k.drivers → n ≡ (gave_driver m.0, m.1) → n ≡ (left k (i + 1) j, [])
  base_of_driver lt e = e ∙ ap (λ (x : Sat). (let y : Sat = (gave_driver x.0, x.1) in y)) is ∙ ap bare (gives_driver k i j lt)

  pub seat_of_client : j < k.clients → n ≡ (new_client m.0, []) → n ≡ (client_view k (j + 1), [])
  seat_of_client lt e = e ∙ ap (λ (x : Sat). bare (new_client x.0)) is ∙ ap bare (given_client k i j lt)

  pub base_of_client : j < k.clients → n ≡ (gave_client m.0, m.1) → n ≡ (left k i (j + 1), [])
  base_of_client lt e = e ∙ ap (λ (x : Sat). (let y : Sat = (gave_client x.0, x.1) in y)) is ∙ ap bare (gives_client k i j lt)

-- one more view, and one more of which a fact holds
pub one_more : {A : Type 0} (view : A → View) (f : ℕ → View) (xs ys : List A) (x : A) (n : ℕ) → ys ≡ xs ++ x ∷ [] → map view xs ≡ map f (numbers_from 1 n) → view x ≡ f (n + 1) → map view ys ≡ map f (numbers_from 1 (n + 1))
one_more view f xs ys x n is old new = ap (map view) is ∙ map-append view xs (x ∷ []) ∙ ap (λ (l : List View). l ++ view x ∷ []) old ∙ ap (λ (v : View). map f (numbers_from 1 n) ++ v ∷ []) new ∙ sym (map_numbers f n)

pub all_more : {A : Type 0} (P : A → Type 0) (xs ys : List A) (x : A) → ys ≡ xs ++ x ∷ [] → All P xs → P x → All P ys
all_more P xs ys x is old new = subst (All P) (sym is) (All-push P xs x old new)

pub all_left : (k : Setup) → first_view k ≡ left k 0 0
all_left k =
    let d : k.drivers ≡ k.drivers - 0 = omega arith in
    let c : k.clients ≡ k.clients - 0 = omega arith in
    λ n. record (blank k.cell) { give_drivers = numbers_from 1 (d n); give_clients = numbers_from 1 (c n); quota = c n * 262144 }

pub all_gone : (k : Setup) → left k k.drivers k.clients ≡ blank k.cell
all_gone k =
    let q : (k.clients - k.clients) * 262144 ≡ 0 = omega arith in
    λ n. record (blank k.cell) { give_drivers = none_left k.drivers n; give_clients = none_left k.clients n; quota = q n }
