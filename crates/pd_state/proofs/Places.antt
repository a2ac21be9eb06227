-- An entry anywhere in a legal journal.
use Rattle.std.proofs.Common.{◌≡◌, ℕ, List, [], ◌∷◌, ◌++◌, reverse, ap, ◌∙◌, subst, append_assoc}
use Rattle.std.proofs.lemmas.List.{reverse-append}
use Rattle.pd_state.specs.Legal.{IsLegal, IsLegalAfter}
use Rattle.pd_state.specs.declared.entry.Entry.{Entry}

legal_tail : (driver : ℕ) (later past : List Entry) → IsLegal driver (later ++ past) → IsLegal driver past
legal_tail driver [] past legal = legal
legal_tail driver (e ∷ later) past legal = legal_tail driver later past legal.1

back : (before after : List Entry) (e : Entry) → reverse (before ++ (e ∷ after)) ≡ reverse after ++ (e ∷ reverse before)
back before after e =
    reverse-append before (e ∷ after) ∙ ap (λ (l : List Entry). l ++ reverse before) (reverse-append (e ∷ []) after) ∙ append_assoc (reverse after) (e ∷ []) (reverse before)

pub legal_at : (driver : ℕ) (before after : List Entry) (e : Entry) → IsLegal driver (reverse (before ++ (e ∷ after))) → IsLegalAfter driver (reverse before) e
legal_at driver before after e legal =
    let here : IsLegal driver (e ∷ reverse before) = legal_tail driver (reverse after) (e ∷ reverse before) (subst (IsLegal driver) (back before after e) legal) in
    here.0
