-- What waits after each entry of the journal.
use Rattle.std.proofs.Common.{◌≡◌, ◌≢◌, ℕ, List, [], ◌∷◌, ◌++◌, sym, refl, subst, ◌∙◌}
use Rattle.std.proofs.lemmas.List.{append-nil, append_assoc}
use mathlib.Core.Logic.{dite}
use native.Mathlib.Decide.{ℕ_discrete}
use Rattle.pd_types.specs.declared.oracle.Seen.{Seen}
use Rattle.tso_client.specs.declared.entry.PostEntry.{PostEntry}
use Rattle.tso_client.specs.declared.entry.PostWhat.{PostWhat}
use Rattle.tso_client.specs.declared.entry.PostWhat.TheVariants.{Told, Heard, Nothing}
use Rattle.tso_client.specs.Posts.{Follows, IsPost, Waits, heard_by, told_to}
use Rattle.tso_client.specs.Slips.{entry_of}
use Rattle.tso_client.proofs.Posting.{waits_told, waits_others, waits_heard, waits_unheard, waits_nothing}

-- some pairs wait for the client
abbrev SomeWait : ℕ → List PostEntry → Type 0
SomeWait c journal = (pairs : List Seen) × Waits c journal pairs

-- behind one entry more
one_more : (c client line : ℕ) (what : PostWhat) (before : List PostEntry) → Follows before client what → SomeWait c before → SomeWait c (before ++ entry_of client line what ∷ [])
one_more c client line (Told to seen) before follows some =
    dite (ℕ_discrete to c)
    (λ same. subst (λ (n : ℕ). SomeWait c (before ++ entry_of client line (Told n seen) ∷ [])) (sym same) (some.0 ++ seen ∷ [], waits_told before client line c some.0 seen some.1))
    (λ other. (some.0, waits_others before client line c to some.0 seen other some.1))
one_more c client line (Heard seen) before follows some =
    dite (ℕ_discrete client c)
    (λ same. subst (λ (n : ℕ). SomeWait n (before ++ entry_of client line (Heard seen) ∷ [])) same (follows.0, waits_heard before client line follows.0 seen follows.1))
    (λ other. (some.0, waits_unheard before client line c some.0 (Heard seen) refl other some.1))
one_more c client line Nothing before follows some = (some.0, waits_nothing before client line c some.0 some.1)

-- behind all entries
all_wait : (c : ℕ) (before rest : List PostEntry) → IsPost (before ++ rest) → SomeWait c before → SomeWait c (before ++ rest)
all_wait c before [] post some = subst (SomeWait c) (sym (append-nil before)) some
all_wait c before (e ∷ rest) post some =
    let more = one_more c e.client e.line e.what before (post before e rest refl) some in
    let same : (before ++ e ∷ []) ++ rest ≡ before ++ e ∷ rest = append_assoc before (e ∷ []) rest in
    subst (SomeWait c) same (all_wait c (before ++ e ∷ []) rest (subst IsPost (sym same) post) more)

pub heard_first : (c : ℕ) (journal : List PostEntry) → IsPost journal → (later : List Seen) × (told_to c journal ≡ heard_by c journal ++ later)
heard_first c journal post = all_wait c [] journal post ([], refl)

pub heard_all : (c line : ℕ) (journal : List PostEntry) → IsPost (journal ++ entry_of c line Nothing ∷ []) → told_to c journal ≡ heard_by c journal
heard_all c line journal post = post journal (entry_of c line Nothing) [] refl ∙ append-nil (heard_by c journal)
