-- What a step on a ticket's seat leaves of the ticket.
use Rattle.std.proofs.Common.{◌≡◌, ℕ, List, [], ◌∷◌, ◌++◌, length, map, ◌<◌, arith, append-nil, Option, Some, None, sym, refl, ap, ◌∙◌, subst}
use lib.ListN.{get_elem?}
use Rattle.atomic_table.proofs.Lists.{at_longer, at_last, at_map}
use Rattle.atomic_table.specs.Table.{Me}
use Rattle.atomic_table.specs.Seated.{TableId}
use Rattle.pd_turn.specs.declared.rule.View.{View}
use Rattle.pd_turn.specs.Rule.{Has, view_of, list_of, slots_of, Follows, IsTicket, both_views, lists_of}
use Rattle.pd_turn.specs.Turns.{items_of, made_by, IsMadeBy, TurnValue, TicketValue, ticket_value, turn_value}
use Rattle.pd_turn.specs.Rule.{AreOf}
use Rattle.pd_turn.proofs.Each.{AreToldBy}
use Rattle.pd_turn.proofs.Items.{grown}

module _ {I : Type 0} where
  abbrev pub Tells : View I → List (ℕ × I) → Type 0
  Tells v whole = (k : ℕ) (l : List I) → Has v.lists k l → IsMadeBy v.numbers whole × (l ≡ items_of k whole)

  abbrev head_number : List (ℕ × List I) → ℕ
  head_number [] = 0
  head_number (x ∷ xs) = x.0

module _ {T I : Type 0} where
  pub its_list : (n : ℕ) (m : Me (Option T) (View I)) (whole : List (ℕ × I)) → IsTicket n m → Tells m.0 whole → IsMadeBy m.0.numbers whole × (list_of m.0.lists ≡ items_of n whole)
  its_list n m whole is tells = tells n (list_of m.0.lists) (0, ap (λ l. get_elem? l 0) is.0)

  -- after taking
  pub took : (n : ℕ) (m m' : Me (Option T) (View I)) (whole : List (ℕ × I)) → IsTicket n m → m' ≡ (view_of m.0.numbers m.0.lists (Some whole), (0, None) ∷ []) → Tells m.0 whole → IsTicket n m'
  took n m m' whole is new tells = subst (λ x. IsTicket {T = T} n x) (sym new) (is.0, refl, its_list n m whole is tells)

  -- before giving
  pub may_give : (n : ℕ) (m : Me (Option T) (View I)) (before : List (ℕ × I)) → IsTicket n m → m.0.taken ≡ Some before
      → m ≡ (view_of m.0.numbers ((n, list_of m.0.lists) ∷ []) (Some before), (0, None) ∷ [])
  may_give n m before is taken = λ i. (view_of m.0.numbers (is.0 i) (taken i), (is.1 ∙ ap (slots_of {I = I} {T = T}) taken) i)

  follows_at : (n : ℕ) (m : Me (Option T) (View I)) (l : List I) (k : ℕ) (before : List (ℕ × I)) (ns : List ℕ) (c : List (ℕ × Option T)) → IsTicket n m → m ≡ (view_of ns ((k, l) ∷ []) (Some before), c) → l ≡ items_of n before
  follows_at n m l k before ns c is e = (subst (λ (x : Me (Option T) (View I)). Follows x.0.numbers n (list_of x.0.lists) x.0.taken) e is.2).1

  -- the list after giving, whichever way the tale is read
  pub gave : (n : ℕ) (m : Me (Option T) (View I)) (k : ℕ) (l new other : List I) (before before' whole : List (ℕ × I)) (ns : List ℕ) (c : List (ℕ × Option T))
      → IsTicket n m → m ≡ (view_of ns ((k, l) ∷ []) (Some before), c) → whole ≡ before ++ made_by k new
      → m.0.taken ≡ Some before' → whole ≡ before' ++ made_by n other → l ++ new ≡ list_of m.0.lists ++ other
  gave n m k l new other before before' whole ns c is e w taken w' =
      let same_number : n ≡ k = ap (λ (x : List (ℕ × List I)). head_number x) (sym is.0 ∙ ap (λ (x : Me (Option T) (View I)). x.0.lists) e) in
      grown k before l new whole (subst (λ j. l ≡ items_of j before) same_number (follows_at n m l k before ns c is e)) w
      ∙ ap (λ j. items_of j whole) (sym same_number)
      ∙ sym (grown n before' (list_of m.0.lists) other whole (subst (λ t. Follows m.0.numbers n (list_of m.0.lists) t) taken is.2).1 w')

-- a ticket's value by its parts
pub by_parts : {I : Type 0} (t u : TurnValue) (n k : ℕ) (l r : List I) (h g : Option (List (ℕ × I))) → t ≡ u → n ≡ k → l ≡ r → h ≡ g → ticket_value t n l h ≡ ticket_value u k r g
by_parts t u n k l r h g a b c d = λ i. ticket_value (a i) (b i) (c i) (d i)

pub turn_by_parts : (z y : TableId) (ns ms : List ℕ) → z ≡ y → ns ≡ ms → turn_value z ns ≡ turn_value y ms
turn_by_parts z y ns ms a b = λ i. turn_value (a i) (b i)

module _ {T I : Type 0} where
  -- the seat of a ticket that has taken nothing
  pub free_seat : (n : ℕ) (m : Me (Option T) (View I)) → IsTicket n m → m.0.taken ≡ None → m ≡ (view_of m.0.numbers ((n, list_of m.0.lists) ∷ []) None, [])
  free_seat n m is taken = λ i. (view_of m.0.numbers (is.0 i) (taken i), (is.1 ∙ ap (slots_of {I = I} {T = T}) taken) i)

  pub joined : (m o new : Me (Option T) (View I)) (ns : List ℕ) → m ≡ (view_of ns m.0.lists None, []) → new ≡ (both_views m.0 o.0, m.1) → new ≡ (view_of ns new.0.lists None, [])
  joined m o new ns is e = e ∙ (λ i. (view_of (ap (λ (x : Me (Option T) (View I)). x.0.numbers) is i) (ap (λ (x : Me (Option T) (View I)). x.0.lists) (sym e) i) (ap (λ (x : Me (Option T) (View I)). x.0.taken) is i), ap (λ (x : Me (Option T) (View I)). x.1) is i))

module _ {I : Type 0} where
  one_list : (rest : List (TicketValue I)) (t : TicketValue I) (ls : List (ℕ × List I)) → lists_of (rest ++ t ∷ []) ++ ls ≡ lists_of rest ++ (t.number, t.list) ∷ ls
  one_list [] t ls = refl
  one_list (x ∷ xs) t ls = ap (λ l. (x.number, x.list) ∷ l) (one_list xs t ls)

  pub peeled : (ts rest : List (TicketValue I)) (t : TicketValue I) (ls ms total : List (ℕ × List I)) → ts ≡ rest ++ t ∷ [] → ms ≡ (t.number, t.list) ∷ ls → lists_of ts ++ ls ≡ total → lists_of rest ++ ms ≡ total
  peeled ts rest t ls ms total e m all = ap (λ l. lists_of rest ++ l) m ∙ sym (one_list rest t ls) ∙ ap (λ l. lists_of l ++ ls) (sym e) ∙ all

  pub of_rest : (turn : TurnValue) (ts rest : List (TicketValue I)) (t : TicketValue I) → ts ≡ rest ++ t ∷ [] → AreOf turn ts → AreOf turn rest × (t.turn ≡ turn) × (t.taken ≡ None)
  of_rest turn ts rest t e all = let last = all (length rest) t (ap (λ l. get_elem? l (length rest)) e ∙ at_last rest t (length rest) refl) in ((λ k u there. all k u (ap (λ l. get_elem? l k) e ∙ at_longer rest (t ∷ []) k u there)), last.0, last.1)

  pub told_all : (ts : List (TicketValue I)) (ls : List (ℕ × List I)) (whole : List (ℕ × I)) → ls ≡ lists_of ts → ((k : ℕ) (l : List I) → Has ls k l → l ≡ items_of k whole) → AreToldBy whole ts
  told_all ts ls whole e tells k t there = tells t.number t.list (k, ap (λ l. get_elem? l k) e ∙ at_map (λ (u : TicketValue I). (u.number, u.list)) ts k t there)

  pub whole_lists : (ts rest : List (TicketValue I)) (t : TicketValue I) (ms : List (ℕ × List I)) → ts ≡ rest ++ t ∷ [] → ms ≡ (t.number, t.list) ∷ [] → lists_of rest ++ ms ≡ lists_of ts
  whole_lists ts rest t ms e m = peeled (rest ++ t ∷ []) rest t [] ms (lists_of (rest ++ t ∷ [])) refl m (append-nil (lists_of (rest ++ t ∷ []))) ∙ ap lists_of (sym e)

  pub last_has : (ls ms : List (ℕ × List I)) (n : ℕ) (l : List I) → ms ≡ (n, l) ∷ [] → Has (ls ++ ms) n l
  last_has ls ms n l e = (length ls, ap (λ m. get_elem? (ls ++ m) (length ls)) e ∙ at_last ls (n, l) (length ls) refl)

  pub not_none : (ts : List (TicketValue I)) (ns : List ℕ) → length ts ≡ 0 → map (λ t. t.number) ts ≡ ns → 0 < length ns → ⊥
  not_none [] ns e m more = subst (λ (l : List ℕ). 0 < length l → ⊥) m (λ h. omega arith) more
  not_none (t ∷ ts) ns e m more = omega arith
