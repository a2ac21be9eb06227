-- One more piece of what is read or written.
use Rattle.std.proofs.Common.{◌-◌, arith, length-drop, take-add, ◌≡◌, ℕ, ◌+◌, ◌≤◌, List, ◌++◌, Some, length, take, drop, sym, ap, subst, ◌∙◌, append_assoc, take-append-drop}
use Rattle.std.proofs.lemmas.List.{take_all}
use Rattle.std.proofs.KnownBytes.{Appends-nil, Appends-trans, Appends-kept}
use Rattle.std.specs.Prelude.{Option}
use Rattle.std.specs.Io.KnownBytes.{Appends, Keeps}

pub appends_none : (a : Option (List ℕ)) (text : List ℕ) → Appends a a (take 0 text)
appends_none a text = Appends-nil a

-- `text[at..]` is seen as all of what is left after at
pub appends_more : (a b c : Option (List ℕ)) (text : List ℕ) (at n : ℕ) → Appends a b (take at text) → Appends b c (take n (take (length text - at) (drop at text)))
    → Appends a c (take (at + n) text)
appends_more a b c text at n so_far piece =
    let rest : take (length text - at) (drop at text) ≡ drop at text = take_all (length text - at) (drop at text) (omega (arith, length-drop at text)) in
    subst (Appends a c) (sym (take-add at n text)) (Appends-trans a b c (take at text) (take n (drop at text)) so_far (rw rest at piece))

pub appends_all : (a b : Option (List ℕ)) (text : List ℕ) (at : ℕ) → Appends a b (take at text) → length text ≤ at → Appends a b text
appends_all a b text at so_far end = subst (Appends a b) (take_all at text end) so_far

pub appends_kept : (a b c : Option (List ℕ)) (text : List ℕ) (at : ℕ) → Appends a b (take at text) → Keeps b c → Appends a c (take at text)
appends_kept a b c text at so_far kept = Appends-kept a b c (take at text) so_far kept

-- a front of the text and its rest are the whole text
pub front_and_rest : (old new text : List ℕ) (n : ℕ) → Appends (Some old) (Some new) (take n text) → old ++ text ≡ new ++ drop n text
front_and_rest old new text n written =
    ap (λ bytes. old ++ bytes) (sym (take-append-drop n text)) ∙ sym (append_assoc old (take n text) (drop n text)) ∙ ap (λ bytes. bytes ++ drop n text) (sym written)
