-- The command of most fixed words is the first of the table's that agrees.
use Rattle.std.proofs.Common.{◌≡◌, ℕ, ◌≤◌, ◌⊎◌, inl, inr, refl, sym, ap, ◌∙◌, arith, Bool, true, false, ◌&&◌, nat_le, List, [], ◌∷◌, length, Option, Some, None}
use Rattle.std.specs.List.{find, list_all}
use Rattle.std.proofs.lemmas.Bool.Decides.{nat_tests}
use Rattle.std.proofs.lemmas.Slice.Eq.{bytes_eq-Decides}
use Rattle.pd_types.proofs.Bools.{and_true}
use Rattle.pd_ctl.specs.Causes.{Names}
use Rattle.pd_ctl.specs.Table.{row, verbs, begin_with, agrees, verb_of}
use Rattle.pd_ctl.specs.declared.verb.Verb.{Verb}
use Rattle.pd_ctl.specs.declared.verb.Verb.TheVariants.{Store, StoreDelete, StoreLimit, Region, RegionKey, OperatorShow, AddPeer, RemovePeer, TransferLeader, TransferPeer, OperatorRemove, OperatorCheck, SchedulerShow, SchedulerRemove, LeaderShow, LeaderResign, Tso}

-- how many fixed words a command has
abbrev size : Verb → ℕ
size verb = length (row verb).fixed

-- the command is listed
abbrev Among : Verb → List Verb → Type 0
Among verb [] = ⊥
Among verb (one ∷ more) = (verb ≡ one) ⊎ Among verb more

-- each command is
among : (verb : Verb) → Among verb verbs
among Store = inr (inr (inr (inr (inr (inr (inr (inr (inr (inr (inr (inr (inr (inr (inl refl))))))))))))))
among StoreDelete = inr (inr (inr (inr (inr (inr (inl refl))))))
among StoreLimit = inr (inr (inr (inr (inr (inr (inr (inl refl)))))))
among Region = inr (inr (inr (inr (inr (inr (inr (inr (inr (inr (inr (inr (inr (inr (inr (inl refl)))))))))))))))
among RegionKey = inr (inr (inr (inr (inr (inr (inr (inr (inl refl))))))))
among OperatorShow = inr (inr (inr (inr (inr (inr (inr (inr (inr (inl refl)))))))))
among AddPeer = inl refl
among RemovePeer = inr (inl refl)
among TransferLeader = inr (inr (inl refl))
among TransferPeer = inr (inr (inr (inl refl)))
among OperatorRemove = inr (inr (inr (inr (inr (inr (inr (inr (inr (inr (inl refl))))))))))
among OperatorCheck = inr (inr (inr (inr (inr (inr (inr (inr (inr (inr (inr (inl refl)))))))))))
among SchedulerShow = inr (inr (inr (inr (inr (inr (inr (inr (inr (inr (inr (inr (inl refl))))))))))))
among SchedulerRemove = inr (inr (inr (inr (inr (inr (inr (inr (inr (inr (inr (inr (inr (inl refl)))))))))))))
among LeaderShow = inr (inr (inr (inr (inl refl))))
among LeaderResign = inr (inr (inr (inr (inr (inl refl)))))
among Tso = inr (inr (inr (inr (inr (inr (inr (inr (inr (inr (inr (inr (inr (inr (inr (inr (inl refl))))))))))))))))

-- a command's own fixed words name it
self_named : (verb : Verb) → verb_of (row verb).fixed ≡ Some verb
self_named Store = refl
self_named StoreDelete = refl
self_named StoreLimit = refl
self_named Region = refl
self_named RegionKey = refl
self_named OperatorShow = refl
self_named AddPeer = refl
self_named RemovePeer = refl
self_named TransferLeader = refl
self_named TransferPeer = refl
self_named OperatorRemove = refl
self_named OperatorCheck = refl
self_named SchedulerShow = refl
self_named SchedulerRemove = refl
self_named LeaderShow = refl
self_named LeaderResign = refl
self_named Tso = refl

-- each command has no fewer fixed words than those behind it
abbrev falls : List Verb → Bool
falls [] = true
falls (one ∷ more) = list_all (λ other. nat_le (size other) (size one)) more && falls more

all_fall : falls verbs ≡ true
all_fall = refl

le_of : (m n : ℕ) → nat_le m n ≡ true → m ≤ n
le_of m n h = grind (arith, nat_tests)

behind_it : (one : Verb) (more : List Verb) (verb : Verb) → list_all (λ other. nat_le (size other) (size one)) more ≡ true → Among verb more → size verb ≤ size one
behind_it one [] verb h listed = absurd listed
behind_it one (next ∷ more) verb h (inl same) =
    let low = le_of (size next) (size one) (and_true _ _ h).0 in
    let e : size verb ≡ size next = ap size same in omega arith
behind_it one (next ∷ more) verb h (inr listed) = behind_it one more verb (and_true _ _ h).1 listed

found_passes : (p : Verb → Bool) (all : List Verb) (verb : Verb) → find p all ≡ Some verb → p verb ≡ true
found_passes p [] verb is = absurd (cc is)
found_passes p (one ∷ more) verb is = by (p one) refl (λ rest. found_passes p more verb rest)
  where
    by : (b : Bool) → p one ≡ b → (find p more ≡ Some verb → p verb ≡ true) → p verb ≡ true
    by true e next = (let first : Some one ≡ Some verb = rw e at is in let same : one ≡ verb = cc first in ap p (sym same) ∙ e)
    by false e next = next (rw e at is)

found_greatest : (p : Verb → Bool) (all : List Verb) (verb other : Verb) → falls all ≡ true → find p all ≡ Some verb → Among other all → p other ≡ true → size other ≤ size verb
found_greatest p [] verb other fall is listed passes = absurd listed
found_greatest p (one ∷ more) verb other fall is listed passes = by (p one) refl listed (λ found rest. found_greatest p more verb other (and_true _ _ fall).1 found rest passes)
  where
    by : (b : Bool) → p one ≡ b → Among other (one ∷ more) → (find p more ≡ Some verb → Among other more → size other ≤ size verb) → size other ≤ size verb
    by true e (inl same) next = (let first : Some one ≡ Some verb = rw e at is in let it : one ≡ verb = cc first in let sizes : size other ≡ size verb = ap size (same ∙ it) in omega arith)
    by true e (inr rest) next = (let first : Some one ≡ Some verb = rw e at is in let it : one ≡ verb = cc first in let low = behind_it one more other (and_true _ _ fall).0 rest in let sizes : size one ≡ size verb = ap size it in omega arith)
    by false e (inl same) next = absurd (cc (passes, e, ap p same))
    by false e (inr rest) next = next (rw e at is) rest

none_passes : (p : Verb → Bool) (all : List Verb) (verb : Verb) → find p all ≡ None → Among verb all → p verb ≡ true → ⊥
none_passes p [] verb is listed passes = listed
none_passes p (one ∷ more) verb is listed passes = by (p one) refl listed (λ none rest. none_passes p more verb none rest passes)
  where
    by : (b : Bool) → p one ≡ b → Among verb (one ∷ more) → (find p more ≡ None → Among verb more → ⊥) → ⊥
    by true e rest next = (let first : Some one ≡ None = rw e at is in cc first)
    by false e (inl same) next = cc (passes, e, ap p same)
    by false e (inr rest) next = next (rw e at is) rest

-- as many words that agree are the same ones
same_words : (xs ys words : List (List ℕ)) → begin_with xs words ≡ true → begin_with ys words ≡ true → length xs ≡ length ys → xs ≡ ys
same_words [] [] words h k e = refl
same_words [] (y ∷ ys) words h k e = absurd (omega arith)
same_words (x ∷ xs) [] words h k e = absurd (omega arith)
same_words (x ∷ xs) (y ∷ ys) [] h k e = absurd (cc h)
same_words (x ∷ xs) (y ∷ ys) (word ∷ words) h k e =
    let one = (bytes_eq-Decides word x).0 (and_true _ _ h).0 in
    let other = (bytes_eq-Decides word y).0 (and_true _ _ k).0 in
    let first : x ≡ y = sym one ∙ other in
    let rest = same_words xs ys words (and_true _ _ h).1 (and_true _ _ k).1 (omega arith) in
    ap (λ z. z ∷ xs) first ∙ ap (λ zs. y ∷ zs) rest

pub named_is : (words : List (List ℕ)) (verb : Verb) → verb_of words ≡ Some verb → Names words verb
named_is words verb is = record {
  agree = found_passes (agrees words) verbs verb is;
  greatest = λ other passes. found_greatest (agrees words) verbs verb other all_fall is (among other) passes;
}

pub is_named : (words : List (List ℕ)) (verb : Verb) → Names words verb → verb_of words ≡ Some verb
is_named words verb names = by (verb_of words) refl
  where
    by : (o : Option Verb) → verb_of words ≡ o → verb_of words ≡ Some verb
    by None e = absurd (none_passes (agrees words) verbs verb e (among verb) names.agree)
    by (Some found) e =
        let here = named_is words found e in
        let low = here.greatest verb names.agree in
        let high = names.greatest found here.agree in
        let same = same_words (row found).fixed (row verb).fixed words here.agree names.agree (omega arith) in
        let it : Some found ≡ Some verb = sym (self_named found) ∙ (ap verb_of same ∙ self_named verb) in
        e ∙ it

pub none_named : (words : List (List ℕ)) → verb_of words ≡ None → (verb : Verb) → agrees words verb ≡ false
none_named words is verb = by (agrees words verb) refl
  where
    by : (b : Bool) → agrees words verb ≡ b → agrees words verb ≡ false
    by true e = absurd (none_passes (agrees words) verbs verb is (among verb) e)
    by false e = e
