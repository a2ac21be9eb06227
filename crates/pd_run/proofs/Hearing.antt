-- What a driver's entries tell of its bench.
use Rattle.std.proofs.Common.{◌≡◌, ◌∙◌, ℕ, zero, suc, List, [], ◌∷◌, ◌++◌, ap, sym, subst, arith, length, drop, take, append_assoc, append-nil}
use Rattle.std.specs.Prelude.{IfOk, None, Option, Some, Result, Ok, Err, flat_map}
use Rattle.std.proofs.lemmas.List.{length-append}
use Rattle.pd_types.specs.declared.request.Request.{Request}
use Rattle.sched_api.specs.Benches.{Seat, Seats, names_of}
use Rattle.sched_api.specs.declared.scheduler.Fate.{Fate}
use Rattle.sched_api.specs.declared.scheduler.Said.{Said}
use Rattle.pd_state.specs.BenchHeard.{Becomes, fate_told, names_heard}
use Rattle.pd_state.specs.declared.entry.Entry.{Entry}
use Rattle.pd_state.specs.declared.reply.Reply.{Reply}
use Rattle.pd_shared.specs.Benches.{IsOver, removed_name}
use Rattle.pd_shared.specs.Shares.{Called, ShareValue}
use Rattle.pd_run.specs.Heard.{HeardAll, names_behind, no_seats, seats_of}
use Rattle.pd_run.specs.Works.{Made}

pub names_of_entry : (before behind : List Entry) (entry : Entry) (old new : Seats) → HeardAll (before ++ entry ∷ behind) old new → entry.names ≡ names_heard entry.request (names_behind before (names_of old))
names_of_entry [] behind entry old new heard = heard.1.names
names_of_entry (e ∷ before) behind entry old new heard =
    names_of_entry before behind entry heard.0 new heard.2 ∙ ap (λ (names : List (List ℕ)). names_heard entry.request (names_behind before names)) heard.1.left

pub said_by_all : (entries : List Entry) (old new : Seats) → HeardAll entries old new → new.said ≡ old.said ++ flat_map (λ (e : Entry). e.bench) entries
said_by_all [] old new same = ap (λ (s : Seats). s.said) same ∙ sym (append-nil old.said)
said_by_all (e ∷ entries) old new heard =
    said_by_all entries heard.0 new heard.2 ∙ ap (λ (said : List Said). said ++ flat_map (λ (x : Entry). x.bench) entries) heard.1.said ∙ append_assoc old.said e.bench (flat_map (λ (x : Entry). x.bench) entries)

pub names_left_by : (entries : List Entry) (old new : Seats) → HeardAll entries old new → names_of new ≡ names_behind entries (names_of old)
names_left_by [] old new same = ap names_of same
names_left_by (e ∷ entries) old new heard = names_left_by entries heard.0 new heard.2 ∙ ap (names_behind entries) heard.1.left

-- WITHOUT SCHEDULERS nothing comes of a turn or of a removal
no_turn : (n : ℕ) (one : Seat) (others : List Seat) → drop n [] ++ take n [] ≡ one ∷ others → ⊥
no_turn zero one others is = let n : 0 ≡ length (one ∷ others) = ap length is in omega (arith, n)
no_turn (suc n) one others is = let m : 0 ≡ length (one ∷ others) = ap length is in omega (arith, m)

stays : (now : ℕ) (fate : Option Fate) (said : List Said) (name : Option (List ℕ)) (old new : Seats) → old.list ≡ [] → Becomes now fate said name old new → new ≡ old
stays now fate [] None old new none same = same
stays now fate [] (Some name) old new none drops =
    let one : 0 ≡ length (drops.list.before ++ drops.one ∷ drops.list.behind) = ap length (sym none ∙ drops.list.whole) in
    let more = length-append drops.list.before (drops.one ∷ drops.list.behind) in
    absurd (omega (arith, one, more))
stays now fate (one ∷ more) name old new none turned =
    let turn = turned.turn in
    absurd (no_turn old.next turn.one turn.others (subst (λ (list : List Seat). drop old.next list ++ take old.next list ≡ turn.one ∷ turn.others) none turn.turn))

pub over_no_bench : (entry : Entry) (old new : Seats) → old.list ≡ [] → old.next ≡ 0 → old.last ≡ None → old.said ≡ [] → IsOver entry old new → IsOver entry no_seats no_seats
over_no_bench entry old new list next last said over =
    let empty : old ≡ no_seats = λ i. record { list = list i; next = next i; last = last i; said = said i } in
    let same : new ≡ no_seats = stays over.now (fate_told entry.reply) entry.bench (removed_name entry) old new list over.becomes ∙ empty in
    subst (λ (s : Seats). IsOver entry s no_seats) empty (subst (λ (s : Seats). IsOver entry old s) same over)

-- a call over such a bench
pub made_alone : {B E : Type 0} (seats : B → Seats) (line : ℕ) (request : Request) (old new : ShareValue) (bench : Option B) (one other : Seats) (result : Result Reply E) → None ≡ bench → one.list ≡ [] → one.next ≡ 0 → one.last ≡ None → one.said ≡ []
    → IfOk result (λ (reply : Reply). Called old new one other line request reply) → IfOk result (λ (reply : Reply). Made seats line request reply old new bench bench)
made_alone seats line request old new bench one other (Ok reply) none list next last said call = record {
  entry = call.entry;
  entry_is = call.entry_is;
  gained = call.gained;
  over = subst (λ o. IsOver call.entry (seats_of seats o) (seats_of seats o)) none (over_no_bench call.entry one other list next last said call.over);
}
made_alone seats line request old new bench one other (Err fault) none list next last said call = call
