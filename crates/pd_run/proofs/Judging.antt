-- What of a run is lawful, once its clusters and its metadata are closed.
use Rattle.std.proofs.Common.{◌≡◌, ℕ, zero, suc, ◌+◌, List, [], ◌∷◌, ◌++◌, false, get_or, length, map, reverse, refl, sym, ap, ◌∙◌, arith, subst, append_assoc}
use Rattle.std.specs.Prelude.{All, Contains, Option, Some, None, flat_map}
use Rattle.std.specs.Option.{is_some}
use Rattle.std.specs.List.{AllZip}
use Rattle.std.proofs.lemmas.List.Elements.{All-cons, All-head, All-nil, All-tail}
use mathlib.Core.Bool.{true≢false}
use Rattle.pd_turn.specs.Turns.{AreApart, TurnValue}
use Rattle.pd_types.specs.declared.oracle.Actor.{Actor}
use Rattle.pd_types.specs.declared.oracle.Actor.TheVariants.{Driver, Store}
use Rattle.pd_types.specs.declared.step.StepMsg.{StepMsg}
use Rattle.sched_api.specs.Benches.{Seats}
use Rattle.tso_model.specs.Moves.{numbers_from}
use Rattle.tso_run.proofs.Ending.{all_map}
use Rattle.tso_board.specs.declared.board.Board.{Board}
use Rattle.meta_store.specs.declared.record.MetaEntry.{MetaEntry}
use Rattle.meta_store.specs.Seats.{IsHeard, SeatValue, heard_by}
use Rattle.pd_state.specs.Clusters.{ClusterValue}
use Rattle.pd_state.specs.declared.entry.Entry.{Entry}
use Rattle.pd_shared.specs.Shares.{SharedValue, actor_of, entries_of}
use Rattle.pd_run.specs.Ends.{AreClosed, IsClosed, IsDriversOwn, driver_part_of, lent, part_of}
use Rattle.pd_run.specs.Heard.{AreHeard, HeardAll, seats_of}
use Rattle.pd_run.specs.Runs.{ArePopped, DriversAnswer, IsLawfulJournal, Journal, StoreAnswersLines, StorePart, callers, journal_of, taken_by, taken_of}
use Rattle.pd_run.specs.Starts.{AreDealt}
use Rattle.pd_run.specs.Turns.{DriverAnswered, StoreAnswered, StoreTurn, store_answer, taken_at}
use Rattle.pd_run.specs.Works.{DriverWorked, StoreWorked, made_at, popped_at}
use Rattle.pd_run.specs.declared.answer.StoreAnswer.{StoreAnswer}
use Rattle.pd_run.specs.declared.driving.DriverWork.{DriverWork}
use Rattle.pd_run.specs.declared.line.DriverLine.{DriverLine}
use Rattle.pd_run.specs.declared.line.StoreLine.{StoreLine}
use Rattle.pd_run.specs.declared.storing.StoreWork.{StoreWork}
use Rattle.pd_run.proofs.Closing.{driver_actor, store_actors}

abbrev head_or : ℕ → List ℕ → ℕ
head_or d [] = d
head_or d (x ∷ xs) = x

abbrev rest_of : List ℕ → List ℕ
rest_of [] = []
rest_of (x ∷ xs) = xs

-- STEPS THAT STORES TOOK
taken_flat : (driver : ℕ) (turns : List StoreTurn) → flat_map (taken_of driver) (map store_answer turns) ≡ flat_map (taken_at driver) turns
taken_flat driver [] = refl
taken_flat driver (turn ∷ turns) = ap (λ l. taken_at driver turn ++ l) (taken_flat driver turns)

taken_popped : (lines : List StoreLine) (answers : List StoreAnswer) (entries : ℕ → List Entry) (popped : ℕ → List StepMsg) → StoreAnswered lines answers entries popped → (driver : ℕ) → taken_by driver answers ≡ popped driver
taken_popped lines answers entries popped h driver = ap (flat_map (taken_of driver)) (sym h.answers_are) ∙ taken_flat driver h.turns ∙ h.popped_are driver

module _ {N : Type 0} where
  -- by its answers a store took what it popped
  abbrev pub TookPopped : StoreWork N → Type 0
  TookPopped w = (driver : ℕ) → taken_by driver w.answers.items ≡ popped_at w.ports.items driver

  pub took_popped : (clusters : List SharedValue) (vs ws : List (StoreWork N)) → AllZip (StoreWorked clusters) vs ws → All (λ (w : StoreWork N). w.failed ≡ false) ws → All TookPopped ws
  took_popped clusters [] [] acted fine = All-nil TookPopped
  took_popped clusters [] (w ∷ ws) acted fine = absurd acted
  took_popped clusters (v ∷ vs) [] acted fine = absurd acted
  took_popped clusters (v ∷ vs) (w ∷ ws) acted fine =
      All-cons TookPopped w ws (taken_popped v.lines.items w.answers.items (made_at w.ports.items) (popped_at w.ports.items) (acted.0.answered (All-head (λ (x : StoreWork N). x.failed ≡ false) w ws fine)))
      (took_popped clusters vs ws acted.1 (All-tail (λ (x : StoreWork N). x.failed ≡ false) w ws fine))

  -- JOURNALS
  stores_same : (ws : List (StoreWork N)) → map Store (map (λ (w : StoreWork N). w.store) ws) ≡ map (λ (part : StorePart). Store part.store) (map part_of ws)
  stores_same [] = refl
  stores_same (w ∷ ws) = ap (λ l. Store w.store ∷ l) (stores_same ws)

  callers_are : (driver : ℕ) (ws : List (StoreWork N)) → AreApart (0 ∷ map (λ (w : StoreWork N). w.store) ws) → map (actor_of driver) (0 ∷ map (λ (w : StoreWork N). w.store) ws) ≡ callers driver (map part_of ws)
  callers_are driver ws apart = λ i. driver_actor driver i ∷ (store_actors driver (map (λ (w : StoreWork N). w.store) ws) apart.0 ∙ stores_same ws) i

  module _ (meta : TurnValue) (ws : List (StoreWork N)) (apart : AreApart (0 ∷ map (λ (w : StoreWork N). w.store) ws)) (metadata : List MetaEntry) (took : All TookPopped ws) where
    abbrev OwnPopped : ClusterValue → ℕ → StoreWork N → Type 0
    OwnPopped cluster place w = ArePopped cluster.entries w.store (popped_at w.ports.items place)

    popped_by : (cluster : ClusterValue) (place : ℕ) (w : StoreWork N) → cluster.driver ≡ place → TookPopped w → OwnPopped cluster place w → ArePopped cluster.entries w.store (taken_by cluster.driver w.answers.items)
    popped_by cluster place w is took one = subst (ArePopped cluster.entries w.store) (ap (popped_at w.ports.items) (sym is) ∙ sym (took cluster.driver)) one

    lawful_journal : (driver : ℕ) (cluster : ClusterValue) (seat : SeatValue) → cluster.driver ≡ driver → IsClosed meta ws driver cluster seat → IsHeard metadata seat → IsLawfulJournal (map part_of ws) metadata (journal_of cluster)
    lawful_journal driver cluster seat is closed heard = record {
      legal = closed.legal;
      served = subst (λ (actors : List Actor). All (λ (e : Entry). Contains actors e.actor) cluster.entries) (callers_are cluster.driver ws apart) closed.callers;
      kept = ap (λ n. heard_by n (reverse metadata)) (sym closed.driver) ∙ sym heard ∙ closed.answers;
      popped = all_map (λ (part : StorePart). ArePopped cluster.entries part.store (taken_by cluster.driver part.answers)) part_of ws (λ k d low. popped_by cluster driver (get_or ws k d) is (took k d low) (closed.popped k d low));
    }

    pub lawful_journals : (driver : ℕ) (clusters : List ClusterValue) (seats : List SeatValue) → AreClosed meta ws driver clusters seats → All (IsHeard metadata) seats → All (IsLawfulJournal (map part_of ws) metadata) (map journal_of clusters)
    lawful_journals driver [] [] closed heard = All-nil (IsLawfulJournal (map part_of ws) metadata)
    lawful_journals driver [] (s ∷ seats) closed heard = absurd closed
    lawful_journals driver (c ∷ clusters) [] closed heard = absurd closed
    lawful_journals driver (c ∷ clusters) (s ∷ seats) closed heard =
        All-cons (IsLawfulJournal (map part_of ws) metadata) (journal_of c) (map journal_of clusters) (lawful_journal driver c s closed.0 closed.1 (All-head (IsHeard metadata) s seats heard))
        (lawful_journals (driver + 1) clusters seats closed.2 (All-tail (IsHeard metadata) s seats heard))

  -- the drivers of closed clusters, and the turn of their seats
  pub closed_numbers : (meta : TurnValue) (ws : List (StoreWork N)) (driver : ℕ) (clusters : List ClusterValue) (seats : List SeatValue) → AreClosed meta ws driver clusters seats → map (λ (j : Journal). j.driver) (map journal_of clusters) ≡ numbers_from driver (length clusters)
  closed_numbers meta ws driver [] [] closed = refl
  closed_numbers meta ws driver [] (s ∷ seats) closed = absurd closed
  closed_numbers meta ws driver (c ∷ clusters) [] closed = absurd closed
  closed_numbers meta ws driver (c ∷ clusters) (s ∷ seats) closed = let one = closed.0 in let rest = closed_numbers meta ws (driver + 1) clusters seats closed.2 in λ i. one i ∷ rest i

  pub closed_seats : (meta : TurnValue) (ws : List (StoreWork N)) (driver : ℕ) (clusters : List ClusterValue) (seats : List SeatValue) → AreClosed meta ws driver clusters seats → All (λ (s : SeatValue). s.turn ≡ meta) seats
  closed_seats meta ws driver [] [] closed = All-nil (λ (s : SeatValue). s.turn ≡ meta)
  closed_seats meta ws driver [] (s ∷ seats) closed = absurd closed
  closed_seats meta ws driver (c ∷ clusters) [] closed = absurd closed
  closed_seats meta ws driver (c ∷ clusters) (s ∷ seats) closed = All-cons (λ (x : SeatValue). x.turn ≡ meta) s seats closed.1.turn (closed_seats meta ws (driver + 1) clusters seats closed.2)

  -- WHOSE LINES WERE ANSWERED
  abbrev pub OwnMade : StoreWork N → Journal → Type 0
  OwnMade w journal = made_at w.ports.items journal.driver ≡ entries_of (Store w.store) journal.entries

  pub stores_made : (meta : TurnValue) (ws : List (StoreWork N)) (driver : ℕ) (clusters : List ClusterValue) (seats : List SeatValue) → AreClosed meta ws driver clusters seats → All (λ (w : StoreWork N). All (OwnMade w) (map journal_of clusters)) ws
  stores_made meta ws driver [] [] closed = λ k d low. All-nil (OwnMade (get_or ws k d))
  stores_made meta ws driver [] (s ∷ seats) closed = absurd closed
  stores_made meta ws driver (c ∷ clusters) [] closed = absurd closed
  stores_made meta ws driver (c ∷ clusters) (s ∷ seats) closed =
      let rest = stores_made meta ws (driver + 1) clusters seats closed.2 in
      λ k d low. All-cons (OwnMade (get_or ws k d)) (journal_of c) (map journal_of clusters) (one (get_or ws k d) (closed.1.made k d low)) (rest k d low)
    where
      one : (w : StoreWork N) → made_at w.ports.items driver ≡ entries_of (Store w.store) c.entries → OwnMade w (journal_of c)
      one w is = ap (made_at w.ports.items) closed.0 ∙ is

  abbrev pub store_lines : StoreWork N → ℕ × List StoreLine
  store_lines w = (w.store, w.lines.items)

  pub stores_answer : (journals : List Journal) (clusters : List SharedValue) (vs ws : List (StoreWork N)) → AllZip (StoreWorked clusters) vs ws → All (λ (w : StoreWork N). w.failed ≡ false) ws → All (λ (w : StoreWork N). All (OwnMade w) journals) ws
      → AllZip (StoreAnswersLines journals) (map store_lines vs) (map part_of ws)
  stores_answer journals clusters [] [] acted fine made = tt
  stores_answer journals clusters [] (w ∷ ws) acted fine made = absurd acted
  stores_answer journals clusters (v ∷ vs) [] acted fine made = absurd acted
  stores_answer journals clusters (v ∷ vs) (w ∷ ws) acted fine made = (
    record {
      same = acted.0.store;
      entries = made_at w.ports.items;
      popped = popped_at w.ports.items;
      answered = acted.0.answered (All-head (λ (x : StoreWork N). x.failed ≡ false) w ws fine);
      own = All-head (λ (x : StoreWork N). All (OwnMade x) journals) w ws made;
    },
    stores_answer journals clusters vs ws acted.1 (All-tail (λ (x : StoreWork N). x.failed ≡ false) w ws fine) (All-tail (λ (x : StoreWork N). All (OwnMade x) journals) w ws made),
  )

abbrev pub driver_lines : {N B : Type 0} → DriverWork N B → List DriverLine
driver_lines w = w.lines.items

module _ {N B : Type 0} (seats : B → Seats) (board : Board) where
  pub drivers_answer : (vs ws : List (DriverWork N B)) (clusters : List ClusterValue) → AllZip (DriverWorked seats board) vs ws → All (λ (w : DriverWork N B). w.failed ≡ false) ws → AllZip IsDriversOwn ws clusters → DriversAnswer (map driver_lines vs) (map driver_part_of ws) (map journal_of clusters)
  drivers_answer [] [] [] worked fine own = tt
  drivers_answer [] [] (c ∷ clusters) worked fine own = absurd own
  drivers_answer [] (w ∷ ws) clusters worked fine own = absurd worked
  drivers_answer (v ∷ vs) [] clusters worked fine own = absurd worked
  drivers_answer (v ∷ vs) (w ∷ ws) [] worked fine own = absurd own
  drivers_answer (v ∷ vs) (w ∷ ws) (c ∷ clusters) worked fine own = (
    record {
      same = own.0.driver;
      answered = subst (DriverAnswered v.lines.items w.answers.items) own.0.own (worked.0.answered (All-head (λ (x : DriverWork N B). x.failed ≡ false) w ws fine));
    },
    drivers_answer vs ws clusters worked.1 (All-tail (λ (x : DriverWork N B). x.failed ≡ false) w ws fine) own.1,
  )

-- WHAT THE BENCHES SAID
module _ {B : Type 0} (seats : B → Seats) where
  others_stay : (driver : ℕ) (xs ys : List B) → xs ≡ ys → AreHeard driver [] (map seats xs) (map seats ys)
  others_stay driver xs ys is = subst (λ (l : List B). AreHeard driver [] (map seats xs) (map seats l)) is (same driver xs)
    where
      same : (driver : ℕ) (l : List B) → AreHeard driver [] (map seats l) (map seats l)
      same driver [] = tt
      same driver (b ∷ l) = (refl, same (driver + 1) l)

  -- the bench of one driver
  abbrev Heard : ℕ → ClusterValue → Option B → Option B → Type 0
  Heard driver c old new = HeardAll (entries_of (Driver driver) c.entries) (seats_of seats old) (seats_of seats new)

  deal : (driver : ℕ) (c : ClusterValue) (cs : List ClusterValue) (benches others : List B) (old new : Option B) (olds : List (Option B)) (news : List B) → is_some new ≡ is_some old → Heard driver c old new → AreDealt benches (old ∷ olds) others
      → ((rest : List B) → AreDealt rest olds others → AreHeard (driver + 1) (map (λ (x : ClusterValue). x.entries) cs) (map seats rest) (map seats (news ++ others)))
      → AreHeard driver (c.entries ∷ map (λ (x : ClusterValue). x.entries) cs) (map seats benches) (map seats (lent new ++ (news ++ others)))
  deal driver c cs [] others None None olds news same heard dealt behind = none (news ++ others) (behind [] dealt)
    where
      none : (l : List B) → AreHeard (driver + 1) (map (λ (x : ClusterValue). x.entries) cs) [] (map seats l) → AreHeard driver (c.entries ∷ map (λ (x : ClusterValue). x.entries) cs) [] (map seats l)
      none [] rest = (heard, rest)
      none (b ∷ l) rest = absurd (nobody (driver + 1) (map (λ (x : ClusterValue). x.entries) cs) rest)
        where
          nobody : (driver : ℕ) (journals : List (List Entry)) → AreHeard driver journals [] (seats b ∷ map seats l) → ⊥
          nobody driver [] h = h
          nobody driver (j ∷ journals) h = h
  deal driver c cs [] others None (Some b) olds news same heard dealt behind = absurd (true≢false same)
  deal driver c cs (b ∷ benches) others None new olds news same heard dealt behind = absurd dealt
  deal driver c cs [] others (Some one) new olds news same heard dealt behind = absurd dealt
  deal driver c cs (b ∷ benches) others (Some one) None olds news same heard dealt behind = absurd (true≢false (sym same))
  deal driver c cs (b ∷ benches) others (Some one) (Some two) olds news same heard dealt behind =
      (subst (λ (x : B). HeardAll (entries_of (Driver driver) c.entries) (seats x) (seats two)) (sym dealt.0) heard, behind benches dealt.1)

module _ {N B : Type 0} (seats : B → Seats) (board : Board) where
  abbrev bench_of : DriverWork N B → Option B
  bench_of w = w.means.bench

  abbrev back : List (DriverWork N B) → List B
  back ws = flat_map (λ (w : DriverWork N B). lent w.means.bench) ws

  heard_one : (driver : ℕ) (v w : DriverWork N B) (c : ClusterValue) → w.number ≡ driver → DriverWorked seats board v w → w.failed ≡ false → IsDriversOwn w c → Heard seats driver c v.means.bench w.means.bench
  heard_one driver v w c number worked fine own =
      subst (λ (es : List Entry). HeardAll es (seats_of seats v.means.bench) (seats_of seats w.means.bench)) (own.own ∙ ap (λ n. entries_of (Driver n) c.entries) number) (worked.heard fine)

  pub benches_heard : (driver n : ℕ) (vs ws : List (DriverWork N B)) (clusters : List ClusterValue) (benches others : List B) → map (λ (w : DriverWork N B). w.number) ws ≡ numbers_from driver n → AllZip (DriverWorked seats board) vs ws → All (λ (w : DriverWork N B). w.failed ≡ false) ws
      → AllZip IsDriversOwn ws clusters → AreDealt benches (map bench_of vs) others → AreHeard driver (map (λ (x : ClusterValue). x.entries) clusters) (map seats benches) (map seats (back ws ++ others))
  benches_heard driver n [] [] [] benches others numbers worked fine own dealt = others_stay seats driver benches others dealt
  benches_heard driver n [] [] (c ∷ clusters) benches others numbers worked fine own dealt = absurd own
  benches_heard driver n [] (w ∷ ws) clusters benches others numbers worked fine own dealt = absurd worked
  benches_heard driver n (v ∷ vs) [] clusters benches others numbers worked fine own dealt = absurd worked
  benches_heard driver n (v ∷ vs) (w ∷ ws) [] benches others numbers worked fine own dealt = absurd own
  benches_heard driver zero (v ∷ vs) (w ∷ ws) (c ∷ clusters) benches others numbers worked fine own dealt = absurd (let e : suc (length (map (λ (x : DriverWork N B). x.number) ws)) ≡ 0 = ap length numbers in omega (arith, e))
  benches_heard driver (suc n) (v ∷ vs) (w ∷ ws) (c ∷ clusters) benches others numbers worked fine own dealt =
      let number : w.number ≡ driver = ap (head_or w.number) numbers in
      let rest = λ (left : List B) (given : AreDealt left (map bench_of vs) others). benches_heard (driver + 1) n vs ws clusters left others (ap rest_of numbers) worked.1 (All-tail (λ (x : DriverWork N B). x.failed ≡ false) w ws fine) own.1 given in
      subst (λ (l : List B). AreHeard driver (map (λ (x : ClusterValue). x.entries) (c ∷ clusters)) (map seats benches) (map seats l)) (sym (append_assoc (lent w.means.bench) (back ws) others))
      (deal seats driver c clusters benches others v.means.bench w.means.bench (map bench_of vs) (back ws) worked.0.stays.bench (heard_one driver v w c number worked.0 (All-head (λ (x : DriverWork N B). x.failed ≡ false) w ws fine) own.0) dealt rest)
