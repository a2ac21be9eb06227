-- What a request leaves of the bench of schedulers.
use Rattle.std.proofs.Common.{refl, ◌≡◌, ◌≢◌, ℕ, suc, ◌≤◌, Bool, true, false, cond, List, [], ◌∷◌, ◌++◌, length, map, ap, sym, ◌∙◌, subst, Option, Some, None, append-nil, arith}
use Rattle.std.specs.List.{All}
use Rattle.std.specs.Str.{bytes_eq}
use Rattle.std.proofs.lemmas.Slice.Eq.{bytes_eq-Decides}
use Rattle.pd_types.specs.declared.request.Request.{Request}
use Rattle.pd_types.specs.declared.request.Request.TheVariants as ask
use Rattle.sched_api.specs.Benches.{Drops, Seat, Seats, names_of}
use Rattle.sched_api.proofs.TurnLemmas.{tells_names, tells_said}
use Rattle.sched_api.specs.declared.scheduler.Fate.{Fate}
use Rattle.sched_api.specs.declared.scheduler.Said.{Said}
use Rattle.pd_state.specs.BenchHeard.{Becomes, IsTold, OverBench, asked_at, asks_names, dropped, fate_told, names_heard, names_left, one_turn, turns_of, without_first}
use Rattle.pd_state.specs.declared.entry.Entry.{Entry}
use Rattle.pd_state.specs.declared.part.Part.{Part}

-- what is heard of the names is heard once
pub heard_again : (request : Request) (heard names : List (List ℕ)) → heard ≡ names_heard request names → heard ≡ names_heard request heard
heard_again request heard names is = by (asks_names request) is
  where
    by : (t : Bool) → heard ≡ cond t names [] → heard ≡ cond t heard []
    by true h = refl
    by false h = h

-- at most one turn is taken
one_most : (names : List (List ℕ)) → one_turn names ≤ 1
one_most [] = omega arith
one_most (name ∷ names) = omega arith

most_turns : (part : Option Part) (request : Request) (names : List (List ℕ)) → turns_of part request names ≤ 1
most_turns (Some part) (ask.Schedule moment) names = one_most names
most_turns (Some part) request names = omega arith
most_turns None request names = omega arith

-- and where one is, none is taken out
none_dropped : (part : Option Part) (request : Request) (names : List (List ℕ)) (n : ℕ) → suc n ≡ turns_of part request names → dropped part request names ≡ None
none_dropped None request names n is = refl
none_dropped (Some part) (ask.Ctl moment words) names n is = absurd (omega (arith, is))
none_dropped (Some part) request names n is = refl

none_left : (said : List Said) → length said ≡ 0 → said ≡ []
none_left [] is = refl
none_left (one ∷ more) is = absurd (omega (arith, is))

-- whether two names are the same
pub same_name : (a b : List ℕ) → a ≡ b → bytes_eq a b ≡ true
same_name a b same = (bytes_eq-Decides a b).1 same

pub other_name : (a b : List ℕ) → a ≢ b → bytes_eq a b ≡ false
other_name a b other = by (bytes_eq a b) refl
  where
    by : (t : Bool) → bytes_eq a b ≡ t → t ≡ false
    by true is = absurd (other ((bytes_eq-Decides a b).0 is))
    by false is = refl

-- the names without the first of a name
gone_first : (name : List ℕ) (before : List Seat) (one : Seat) (behind : List Seat) → one.name ≡ name → All (λ (other : Seat). other.name ≢ name) before
    → map (λ (seat : Seat). seat.name) (before ++ behind) ≡ without_first name (map (λ (seat : Seat). seat.name) (before ++ one ∷ behind))
gone_first name [] one behind same apart = ap (λ (t : Bool). cond t (map (λ (seat : Seat). seat.name) behind) (one.name ∷ without_first name (map (λ (seat : Seat). seat.name) behind))) (sym (same_name one.name name same))
gone_first name (other ∷ before) one behind same apart =
    ap (λ (l : List (List ℕ)). other.name ∷ l) (gone_first name before one behind same (λ k d low. apart (suc k) d (omega (arith, low))))
    ∙ ap (λ (t : Bool). cond t (map (λ (seat : Seat). seat.name) (before ++ one ∷ behind)) (other.name ∷ without_first name (map (λ (seat : Seat). seat.name) (before ++ one ∷ behind)))) (sym (other_name other.name name (apart 0 other (omega arith))))

drop_names : (name : List ℕ) (old new : Seats) → Drops name old new → names_of new ≡ without_first name (names_of old)
drop_names name old new h =
    ap (map (λ (seat : Seat). seat.name)) h.list.left ∙ gone_first name h.list.before h.one h.list.behind h.named h.first ∙ ap (λ (l : List Seat). without_first name (map (λ (seat : Seat). seat.name) l)) (sym h.list.whole)

-- who is told of a proposal keeps its name, and says nothing by it
told_said : (fate : Option Fate) (old new : Seats) → IsTold fate old new → new.said ≡ old.said
told_said None old new h = ap (λ (s : Seats). s.said) h
told_said (Some fate) old new h = tells_said fate old new h

told_names : (fate : Option Fate) (old new : Seats) → IsTold fate old new → names_of new ≡ names_of old
told_names None old new h = ap names_of h
told_names (Some fate) old new h = tells_names fate old new h

-- what was said grew by just this
grown : (now : ℕ) (fate : Option Fate) (said : List Said) (name : Option (List ℕ)) (old new : Seats) → length said ≤ 1 → Becomes now fate said name old new → new.said ≡ old.said ++ said
grown now fate [] None old new few h = ap (λ (s : Seats). s.said) h ∙ sym (append-nil old.said)
grown now fate [] (Some name) old new few h = h.said ∙ sym (append-nil old.said)
grown now fate (one ∷ more) name old new few h = told_said fate h.asked new h.told ∙ h.turn.grown ∙ ap (λ (l : List Said). old.said ++ one ∷ l) (sym (none_left more (omega (arith, few))))

-- the names that are left
left_by : (now : ℕ) (fate : Option Fate) (part : Option Part) (request : Request) (names : List (List ℕ)) (said : List Said) (name : Option (List ℕ)) (old new : Seats) → dropped part request names ≡ name
    → length said ≡ turns_of part request names → Becomes now fate said name old new → names_of new ≡ names_left name (names_of old)
left_by now fate part request names [] None old new is turns h = ap names_of h
left_by now fate part request names [] (Some name) old new is turns h = drop_names name old new h
left_by now fate part request names (one ∷ more) name old new is turns h =
    told_names fate h.asked new h.told ∙ h.turn.names ∙ ap (λ (o : Option (List ℕ)). names_left o (names_of old)) (sym (none_dropped part request names (length more) turns) ∙ is)

-- of an entry over a journal whose tables stood so
pub over_bench : (part after : Option Part) (entry : Entry) (names : List (List ℕ)) (old new : Seats) → part ≡ after → names ≡ names_of old → entry.names ≡ names_heard entry.request names → length entry.bench ≡ turns_of part entry.request entry.names
    → Becomes (asked_at part entry.request) (fate_told entry.reply) entry.bench (dropped part entry.request entry.names) old new → OverBench after entry old new
over_bench part after entry names old new same names_is heard turns h =
    subst (λ (p : Option Part). OverBench p entry old new) same
    (let most = most_turns part entry.request entry.names in let now = asked_at part entry.request in let fate = fate_told entry.reply in record {
      names = heard ∙ ap (names_heard entry.request) names_is;
      becomes = h;
      said = grown now fate entry.bench (dropped part entry.request entry.names) old new (omega (arith, turns, most)) h;
      left = left_by now fate part entry.request entry.names entry.bench (dropped part entry.request entry.names) old new refl turns h;
    })
