-- One line more, of a list that a client walks.
use Rattle.std.proofs.Common.{◌≡◌, ◌≢◌, ℕ, ◌+◌, ◌<◌, Bool, true, false, List, [], ◌∷◌, ◌++◌, cond, length, take, get_or, sym, refl, ap, ◌∙◌, subst}
use Rattle.std.proofs.lemmas.Bool.{eq-eqb, ne_eqb}
use Rattle.std.proofs.lemmas.List.{take_more, append-nil, map-append}
use Rattle.std.proofs.lemmas.List.Elements.{filter-append}
use Rattle.std.specs.Prelude.{filter, map}
use Rattle.tso_outcome.specs.declared.said.ClientAnswer.{ClientAnswer}
use Rattle.tso_outcome.specs.declared.said.ClientSaid.{ClientSaid}
use Rattle.tso_outcome.specs.Clients.{Client, ClientDid, Drew}
use Rattle.tso_run.specs.declared.line.ClientLine.{ClientLine}
use Rattle.tso_run.specs.Lines.{client_ask, client_line, lines_of_client}

module _ {A : Type 0} (own : A → Bool) where
  pub own_more : (lines : List A) (i : ℕ) (d : A) → i < length lines → own (get_or lines i d) ≡ true → filter own (take (i + 1) lines) ≡ filter own (take i lines) ++ get_or lines i d ∷ []
  own_more lines i d lt mine = ap (filter own) (take_more lines i d lt) ∙ filter-append own (take i lines) (get_or lines i d ∷ []) ∙ ap (λ (b : Bool). filter own (take i lines) ++ cond b (get_or lines i d ∷ []) []) mine

  pub other_more : (lines : List A) (i : ℕ) (d : A) → i < length lines → own (get_or lines i d) ≡ false → filter own (take (i + 1) lines) ≡ filter own (take i lines)
  other_more lines i d lt other = ap (filter own) (take_more lines i d lt) ∙ filter-append own (take i lines) (get_or lines i d ∷ []) ∙ ap (λ (b : Bool). filter own (take i lines) ++ cond b (get_or lines i d ∷ []) []) other ∙ append-nil (filter own (take i lines))

drew_more : (v : Client) (answers : List ClientAnswer) (u : Client) (a : ClientAnswer) (w : Client) → Drew v answers u → ClientDid a.line a.said u w → Drew v (answers ++ a ∷ []) w
drew_more v [] u a w h did = (w, subst (λ x. ClientDid a.line a.said x w) (sym h) did, refl)
drew_more v (b ∷ rest) u a w h did = (h.0, h.1, drew_more h.0 rest u a w h.2 did)

pub drew_line : (v u w : Client) (old new : List ClientAnswer) (number : ℕ) (said : ClientSaid) → new ≡ old ++ record { line = number; said = said } ∷ [] → Drew v old u → ClientDid number said u w → Drew v new w
drew_line v u w old new number said e drew did = subst (λ l. Drew v l w) (sym e) (drew_more v old u (record { line = number; said = said }) w drew did)

pub called_line : (n : ℕ) (lines : List ClientLine) (i : ℕ) (d : ClientLine) (old new : List ClientAnswer) (said : ClientSaid) → i < length lines → (get_or lines i d).client ≡ n
    → new ≡ old ++ record { line = (get_or lines i d).number; said = said } ∷ [] → map (client_line n) old ≡ lines_of_client n (take i lines) → client_ask said ≡ (get_or lines i d).ask
    → map (client_line n) new ≡ lines_of_client n (take (i + 1) lines)
called_line n lines i d old new said lt mine e before asked =
    let own : n ≡ (get_or lines i d).client = sym mine in
    ap (map (client_line n)) e ∙ map-append (client_line n) old (record { line = (get_or lines i d).number; said = said } ∷ [])
    ∙ (λ j. before j ++ record { number = (get_or lines i d).number; client = own j; ask = asked j } ∷ [])
    ∙ sym (own_more (λ (l : ClientLine). Rattle.std.specs.Prelude.nat_eq l.client n) lines i d lt (eq-eqb (get_or lines i d).client n mine))

pub not_called : (n : ℕ) (lines : List ClientLine) (i : ℕ) (d : ClientLine) → i < length lines → (get_or lines i d).client ≢ n → lines_of_client n (take (i + 1) lines) ≡ lines_of_client n (take i lines)
not_called n lines i d lt other = other_more (λ (l : ClientLine). Rattle.std.specs.Prelude.nat_eq l.client n) lines i d lt (ne_eqb (get_or lines i d).client n other)
