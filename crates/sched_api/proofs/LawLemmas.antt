-- Turns, asks and removals in words.
use Rattle.std.proofs.Common.{◌≡◌, ◌≢◌, ◌∙◌, sym, refl, ap, subst, ℕ, zero, suc, ◌+◌, ◌-◌, ◌<◌, ◌≤◌, List, [], ◌∷◌, ◌++◌, length, set, slice_get, arith, All, inl, inr, Option, Some, None, option_map}
use Rattle.std.proofs.lemmas.List.{take_at, drop_at, get_or-set_same, length-set}
use Rattle.std.proofs.lemmas.Option.{slice_get_read}
use Rattle.std.specs.Option.{option_and_then}
use Rattle.sched_api.specs.Benches.{Drops, Seat, Seats, StaysLast, TakesTurn, Tells, TellsOne, asked_last, told, turns}
use Rattle.sched_api.specs.declared.scheduler.Fate.{Fate}
use Rattle.sched_api.specs.declared.scheduler.Said.{Said}
use Rattle.sched_api.specs.Schedulers.{more_by_one}

pub round : (seats : Seats) (before behind : List Seat) → seats.list ≡ before ++ behind → length before ≡ seats.next → turns seats ≡ behind ++ before
round seats before behind whole at = rw (whole, drop_at before behind seats.next at, take_at before behind seats.next at) refl

pub counted : (asks : ℕ) → asks < 18446744073709551615 → more_by_one asks ≡ asks + 1
counted asks low = omega arith

-- the first stands at the head of what stands before another
at_head : (name : List ℕ) (one other : Seat) (behind before rest : List Seat) → one ∷ behind ≡ other ∷ before ++ rest → All (λ (seat : Seat). seat.name ≢ name) (other ∷ before) → one.name ≢ name
at_head name one other behind before rest whole none =
    let same : one ≡ other = cc whole in
    let here : other.name ≢ name = none 0 other (omega arith) in
    λ is. here (sym (ap (λ (seat : Seat). seat.name) same) ∙ is)

here_by : (name : List ℕ) (one gone : Seat) (behind before rest : List Seat) → one ∷ behind ≡ before ++ gone ∷ rest → one.name ≡ name → All (λ (seat : Seat). seat.name ≢ name) before → before ++ rest ≡ behind
here_by name one gone behind [] rest whole is none = cc whole
here_by name one gone behind (other ∷ before) rest whole is none = absurd (at_head name one other behind before (gone ∷ rest) whole none is)

pub here : (name : List ℕ) (one : Seat) (behind : List Seat) (old new : Seats) → old.list ≡ one ∷ behind → one.name ≡ name → Drops name old new → new.list ≡ behind
here name one behind old new list is drops =
    drops.list.left ∙ here_by name one drops.one behind drops.list.before drops.list.behind (sym list ∙ drops.list.whole) is drops.first

later_by : (name : List ℕ) (one gone : Seat) (behind before rest : List Seat) → one ∷ behind ≡ before ++ gone ∷ rest → one.name ≢ name → gone.name ≡ name → (left : List Seat) × (before ++ rest ≡ one ∷ left)
later_by name one gone behind [] rest whole other named =
    let same : one ≡ gone = cc whole in
    absurd (other (ap (λ (seat : Seat). seat.name) same ∙ named))
later_by name one gone behind (first ∷ before) rest whole other named = (before ++ rest, let same : first ≡ one = cc whole in ap (λ (seat : Seat). seat ∷ (before ++ rest)) same)

pub later : (name : List ℕ) (one : Seat) (behind : List Seat) (old new : Seats) → old.list ≡ one ∷ behind → one.name ≢ name → Drops name old new → (left : List Seat) × (new.list ≡ one ∷ left)
later name one behind old new list other drops =
    let stays = later_by name one drops.one behind drops.list.before drops.list.behind (sym list ∙ drops.list.whole) other drops.named in
    (stays.0, drops.list.left ∙ stays.1)

-- the one whose turn it was
pub asked_now : (old new : Seats) (now : ℕ) (said : Said) (turn : TakesTurn old new now said) → asked_last new ≡ Some turn.asked
asked_now old new now said turn =
    ap (option_and_then (slice_get new.list)) turn.last
    ∙ ap (λ (list : List Seat). slice_get list old.next) turn.place
    ∙ slice_get_read (set old.list old.next turn.asked) (length old.list) old.next turn.asked (sym (length-set old.list old.next turn.asked)) turn.here (sym (get_or-set_same old.list old.next turn.asked turn.asked turn.here))

-- one between others
stands_there : (before : List Seat) (one : Seat) (behind : List Seat) → slice_get (before ++ one ∷ behind) (length before) ≡ Some one
stands_there [] one behind = refl
stands_there (other ∷ before) one behind = stands_there before one behind

stands_at : (list before : List Seat) (one : Seat) (behind : List Seat) (place : ℕ) → length before ≡ place → list ≡ before ++ one ∷ behind → slice_get list place ≡ Some one
stands_at list before one behind place at whole = ap (slice_get list) (sym at) ∙ ap (λ (all : List Seat). slice_get all (length before)) whole ∙ stands_there before one behind

told_by : (last : Option ℕ) (fate : Fate) (old new : Seats) → old.last ≡ last → TellsOne last fate old new → asked_last new ≡ option_map (told fate) (asked_last old)
told_by None fate old new is same =
    let nobody : asked_last old ≡ None = ap (option_and_then (slice_get old.list)) is in
    ap asked_last same ∙ nobody ∙ sym (ap (option_map (told fate)) nobody)
told_by (Some place) fate old new is tells =
    let was : asked_last old ≡ Some tells.one = ap (option_and_then (slice_get old.list)) is ∙ stands_at old.list tells.before tells.one tells.behind place tells.at tells.whole in
    let still : new.last ≡ Some place = ap (λ (seats : Seats). seats.last) tells.told ∙ is in
    let left : new.list ≡ tells.before ++ told fate tells.one ∷ tells.behind = ap (λ (seats : Seats). seats.list) tells.told in
    let now : asked_last new ≡ Some (told fate tells.one) = ap (option_and_then (slice_get new.list)) still ∙ stands_at new.list tells.before (told fate tells.one) tells.behind place tells.at left in
    now ∙ sym (ap (option_map (told fate)) was)

pub told_last : (fate : Fate) (old new : Seats) → Tells fate old new → asked_last new ≡ option_map (told fate) (asked_last old)
told_last fate old new tells = told_by old.last fate old new refl tells

-- those before another stay where they are, and those behind it move up, where it goes
stays_before : (before behind rest : List Seat) (place : ℕ) → place < length before → slice_get (before ++ behind) place ≡ slice_get (before ++ rest) place
stays_before [] behind rest place low = absurd (omega (arith, low))
stays_before (one ∷ before) behind rest zero low = refl
stays_before (one ∷ before) behind rest (suc place) low = stays_before before behind rest place (omega (arith, low))

moves_up : (before behind : List Seat) (one : Seat) (place : ℕ) → length before ≤ place → slice_get (before ++ behind) place ≡ slice_get (before ++ one ∷ behind) (suc place)
moves_up [] behind one place past = refl
moves_up (other ∷ before) behind one zero past = absurd (omega (arith, past))
moves_up (other ∷ before) behind one (suc place) past = moves_up before behind one place (omega (arith, past))

stays_by : (before behind : List Seat) (one : Seat) (place : ℕ) (last : Option ℕ) → place ≢ length before → StaysLast (length before) (Some place) last → option_and_then (slice_get (before ++ behind)) last ≡ slice_get (before ++ one ∷ behind) place
stays_by before behind one place last other (inl (low, is)) = ap (option_and_then (slice_get (before ++ behind))) is ∙ stays_before before behind (one ∷ behind) place low
stays_by before behind one place last other (inr (inl (here, is))) = absurd (other here)
stays_by before behind one place last other (inr (inr (past, is))) =
    let up : suc (place - 1) ≡ place = omega (arith, past) in
    ap (option_and_then (slice_get (before ++ behind))) is ∙ moves_up before behind one (place - 1) (omega (arith, past)) ∙ ap (slice_get (before ++ one ∷ behind)) up

pub stays_last : (name : List ℕ) (old new : Seats) (place : ℕ) (drops : Drops name old new) → old.last ≡ Some place → place ≢ length drops.list.before → asked_last new ≡ asked_last old
stays_last name old new place drops is other =
    let stays : StaysLast (length drops.list.before) (Some place) new.last = subst (λ (last : Option ℕ). StaysLast (length drops.list.before) last new.last) is drops.last in
    ap (λ (list : List Seat). option_and_then (slice_get list) new.last) drops.list.left
    ∙ stays_by drops.list.before drops.list.behind drops.one place new.last other stays
    ∙ sym (ap (option_and_then (slice_get old.list)) is ∙ ap (λ (list : List Seat). slice_get list place) drops.list.whole)

none_by : (gone : ℕ) (last : Option ℕ) → StaysLast gone (Some gone) last → last ≡ None
none_by gone last (inl (low, is)) = absurd (omega (arith, low))
none_by gone last (inr (inl (here, is))) = is
none_by gone last (inr (inr (past, is))) = absurd (omega (arith, past))

pub gone_last : (name : List ℕ) (old new : Seats) (drops : Drops name old new) → old.last ≡ Some (length drops.list.before) → asked_last new ≡ None
gone_last name old new drops is =
    let gone : ℕ = length drops.list.before in
    ap (option_and_then (slice_get new.list)) (none_by gone new.last (subst (λ (last : Option ℕ). StaysLast gone last new.last) is drops.last))

pub nobody_last : (name : List ℕ) (old new : Seats) → Drops name old new → old.last ≡ None → asked_last new ≡ None
nobody_last name old new drops is =
    let nobody : new.last ≡ None = subst (λ (last : Option ℕ). StaysLast (length drops.list.before) last new.last) is drops.last in
    ap (option_and_then (slice_get new.list)) nobody
