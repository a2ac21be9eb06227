-- What the streams' calls leave of the messages that wait.
use Rattle.std.proofs.Common.{refl, ◌≡◌, ℕ, ◌+◌, ◌-◌, ◌<◌, Bool, true, false, cond, List, [], ◌∷◌, ◌++◌, length, get_or, take, reverse, ap, sym, ◌∙◌, Option, Some, None, arith}
use Rattle.std.specs.Prelude.{IsSome, is_some, remove}
use Rattle.std.specs.FinMap as map
use Rattle.std.proofs.lemmas.List.{reverse-append, take_more}
use Rattle.pd_types.specs.declared.step.StepMsg.{StepMsg}
use Rattle.id_map.proofs.Tables.{insert-insert}
use Rattle.pd_state.specs.declared.entry.Entry.{Entry}
use Rattle.pd_cluster.specs.Streams.{Waiting, first_of, has_room, last_sends, left_by, messages_in, oldest_in, with_message, without_first}

-- a store with room has a list
pub room_some : (o : Option (List StepMsg)) → has_room o ≡ true → IsSome o
room_some None room = absurd cc
room_some (Some list) room = refl

-- a message that was put behind the others
pub sent_on : (old mid new : Waiting) (m : StepMsg) (list last : List StepMsg) → has_room (map.get old m.to) ≡ true → map.get old m.to ≡ Some list → mid ≡ map.insert old m.to [] → last ≡ list ++ m ∷ [] → new ≡ map.insert mid m.to last → new ≡ with_message old m
sent_on old mid new m list last room got mid_is last_is new_is =
    new_is ∙ ap (λ (w : Waiting). map.insert w m.to last) mid_is ∙ insert-insert old m.to [] last
    ∙ ap (λ (l : List StepMsg). map.insert old m.to l) (last_is ∙ ap (λ (l : List StepMsg). l ++ m ∷ []) (sym (ap messages_in got)))
    ∙ sym (ap (λ (t : Bool). cond t (map.insert old m.to (messages_in (map.get old m.to) ++ m ∷ [])) old) room)

-- a message that wasn't kept
pub not_sent : (old : Waiting) (m : StepMsg) → has_room (map.get old m.to) ≡ false → old ≡ with_message old m
not_sent old m full = sym (ap (λ (t : Bool). cond t (map.insert old m.to (messages_in (map.get old m.to) ++ m ∷ [])) old) full)

-- no message waits
none_first : (o : Option (List StepMsg)) → is_some (first_of o) ≡ false → first_of o ≡ None
none_first None none = refl
none_first (Some []) none = refl
none_first (Some (m ∷ ms)) none = absurd cc

none_taken : (o : Option (List StepMsg)) (waiting : Waiting) (store : ℕ) → is_some (first_of o) ≡ false → without_first o waiting store ≡ waiting
none_taken None waiting store none = refl
none_taken (Some []) waiting store none = refl
none_taken (Some (m ∷ ms)) waiting store none = absurd cc

pub none_waits : (old : Waiting) (store : ℕ) → is_some (oldest_in old store) ≡ false → None ≡ oldest_in old store
none_waits old store none = sym (none_first (map.get old store) none)

pub none_left : (old : Waiting) (store : ℕ) → is_some (oldest_in old store) ≡ false → old ≡ left_by old store
none_left old store none = sym (none_taken (map.get old store) old store none)

-- a message waits
pub waits_some : (o : Option (List StepMsg)) → is_some (first_of o) ≡ true → IsSome o
waits_some None some = absurd cc
waits_some (Some list) some = refl

pub waits_len : (old : Waiting) (store : ℕ) (list : List StepMsg) → is_some (oldest_in old store) ≡ true → map.get old store ≡ Some list → 0 < length list
waits_len old store list some got = by list (sym (ap (λ (o : Option (List StepMsg)). is_some (first_of o)) got) ∙ some)
  where
    by : (l : List StepMsg) → is_some (first_of (Some l)) ≡ true → 0 < length l
    by [] none = absurd cc
    by (m ∷ ms) some = omega arith

pub oldest_is : (old : Waiting) (store : ℕ) (list : List StepMsg) (m : StepMsg) → map.get old store ≡ Some list → 0 < length list → m ≡ get_or list 0 m → Some m ≡ oldest_in old store
oldest_is old store list m got some is = by list some is ∙ sym (ap first_of got)
  where
    by : (l : List StepMsg) → 0 < length l → m ≡ get_or l 0 m → Some m ≡ first_of (Some l)
    by [] low is = absurd (omega (arith, low))
    by (one ∷ ms) low is = ap (λ (x : StepMsg). Some x) is

pub taken_left : (old mid new : Waiting) (store : ℕ) (list left : List StepMsg) → map.get old store ≡ Some list → 0 < length list → mid ≡ map.insert old store [] → left ≡ remove list 0 → new ≡ map.insert mid store left → new ≡ left_by old store
taken_left old mid new store list left got some mid_is left_is new_is =
    new_is ∙ ap (λ (w : Waiting). map.insert w store left) mid_is ∙ insert-insert old store [] left ∙ ap (λ (l : List StepMsg). map.insert old store l) left_is ∙ by list some ∙ sym (ap (λ (o : Option (List StepMsg)). without_first o old store) got)
  where
    by : (l : List StepMsg) → 0 < length l → map.insert old store (remove l 0) ≡ without_first (Some l) old store
    by [] low = absurd (omega (arith, low))
    by (m ∷ ms) low = refl

-- what the last of the entries sent
take_all : (entries : List Entry) → take (length entries) entries ≡ entries
take_all [] = refl
take_all (e ∷ es) = ap (λ (l : List Entry). e ∷ l) (take_all es)

pub last_sent : (entries : List Entry) (entry : Entry) → 0 < length entries → get_or entries (length entries - 1) entry ≡ entry → entry.sends ≡ last_sends (reverse entries)
last_sent entries entry some is =
    let at = length entries - 1 in
    let whole : entries ≡ take at entries ++ get_or entries at entry ∷ [] = sym (take_all entries) ∙ ap (λ (n : ℕ). take n entries) (let n : length entries ≡ at + 1 = omega (arith, some) in n) ∙ take_more entries at entry (omega (arith, some)) in
    sym (ap last_sends (ap reverse whole ∙ reverse-append (take at entries) (get_or entries at entry ∷ [])) ∙ ap (λ (e : Entry). e.sends) is)
