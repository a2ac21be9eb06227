-- One entry more in the journal of the post, and one note more or less in its queues.
use Rattle.std.proofs.Common.{◌≡◌, ◌≢◌, ℕ, zero, suc, ◌+◌, ◌-◌, ◌<◌, ◌≤◌, ◌⊎◌, eqb, cond, Bool, true, false, List, [], ◌∷◌, ◌++◌, map, set, sym, refl, ap, ◌∙◌, subst, inl, inr, ⊎_elim, arith, eq-eqb, ne_eqb}
use Rattle.std.specs.Prelude.{Option, Some, None, All, replicate, IfSome, IfNone}
use Rattle.std.proofs.lemmas.List.{append-nil, append_assoc, map-append, length-set, get_or-set_same, get_or-set_other}
use Rattle.std.proofs.lemmas.List.Elements.{All-push, All-nil}
use Rattle.std.proofs.lemmas.Grind.{flat_map-append}
use Rattle.atomic_table.specs.Seated.{TableId}
use mathlib.Core.Logic.{dite}
use native.Mathlib.Decide.{ℕ_discrete}
use Rattle.pd_types.specs.declared.oracle.Seen.{Seen}
use Rattle.tso_model.proofs.Basics.{by_bool}
use Rattle.tso_board.specs.declared.note.Note.{Note}
use Rattle.tso_board.specs.Notes.{note_board, note_seen}
use Rattle.pd_turn.specs.Turns.{items_of}
use Rattle.tso_client.specs.declared.entry.PostEntry.{PostEntry}
use Rattle.tso_client.specs.declared.entry.PostWhat.{PostWhat}
use Rattle.tso_client.specs.declared.entry.PostWhat.TheVariants.{Told, Heard, Nothing}
use Rattle.tso_client.specs.Posts.{entries_of, told_by, heard_in, told_to, heard_by, Waits, Follows, IsPost}
use Rattle.tso_client.specs.Slips.{entry_of}
use Rattle.tso_client.specs.Logs.{AreWaiting, IsLog, queue_at, tale_of, what_of}

-- ENTRIES
abbrev rest_or : {A : Type 0} → List A → List A
rest_or [] = []
rest_or (x ∷ xs) = xs

abbrev head_or : {A : Type 0} → A → List A → A
head_or y [] = y
head_or y (x ∷ xs) = x

not_empty : {A : Type 0} (before : List A) (a : A) (after : List A) → ([] ≡ before ++ a ∷ after) → ⊥
not_empty [] a after e = absurd (cc e)
not_empty (b ∷ bs) a after e = absurd (cc e)

-- a place in a list with one entry more is its last, or a place in the list
split_last : {A : Type 0} (xs : List A) (e : A) (before : List A) (a : A) (after : List A) → xs ++ e ∷ [] ≡ before ++ a ∷ after → ((xs ≡ before) × (e ≡ a)) ⊎ ((rest : List A) × (xs ≡ before ++ a ∷ rest))
split_last [] e [] a after h = inl (refl, ap (head_or e) h)
split_last [] e (b ∷ bs) a after h = absurd (not_empty bs a after (ap rest_or h))
split_last (x ∷ xs) e [] a after h = inr (xs, let same : x ≡ a = ap (head_or x) h in λ i. same i ∷ xs)
split_last (x ∷ xs) e (b ∷ bs) a after h =
    let same : x ≡ b = ap (head_or x) h in
    ⊎_elim
    (λ (s : (xs ≡ bs) × (e ≡ a)). inl ((λ i. same i ∷ s.0 i), s.1))
    (λ (s : (rest : List _) × (xs ≡ bs ++ a ∷ rest)). inr (s.0, λ i. same i ∷ s.1 i))
    (split_last xs e bs a after (ap rest_or h))

post_more : (post : List PostEntry) (e : PostEntry) → IsPost post → Follows post e.client e.what → IsPost (post ++ e ∷ [])
post_more post e all one before a after is = ⊎_elim
    (λ (s : (post ≡ before) × (e ≡ a)). subst (λ (y : List PostEntry × PostEntry). Follows y.0 y.1.client y.1.what) (λ i. (s.0 i, s.1 i)) one)
    (λ (s : (rest : List PostEntry) × (post ≡ before ++ a ∷ rest)). all before a s.0 s.1)
    (split_last post e before a after is)

told_more : (c : ℕ) (journal : List PostEntry) (e : PostEntry) → told_to c (journal ++ e ∷ []) ≡ told_to c journal ++ told_by c e.what
told_more c journal e = flat_map-append (λ (x : PostEntry). told_by c x.what) journal (e ∷ []) ∙ ap (λ l. told_to c journal ++ l) (append-nil (told_by c e.what))

heard_more : (c : ℕ) (journal : List PostEntry) (e : PostEntry) → heard_by c (journal ++ e ∷ []) ≡ heard_by c journal ++ cond (eqb e.client c) (heard_in e.what) []
heard_more c journal e = flat_map-append (λ (x : PostEntry). cond (eqb x.client c) (heard_in x.what) []) journal (e ∷ []) ∙ ap (λ l. heard_by c journal ++ l) (append-nil (cond (eqb e.client c) (heard_in e.what) []))

abbrev no_pairs : List Seen
no_pairs = []

none_by : (b : Bool) → cond b [] [] ≡ no_pairs
none_by true = refl
none_by false = refl

-- WHAT WAITS
module _ (journal : List PostEntry) (client line : ℕ) where
  -- a note left for this client, or for another
  pub waits_told : (c : ℕ) (pairs : List Seen) (seen : Seen) → Waits c journal pairs → Waits c (journal ++ entry_of client line (Told c seen) ∷ []) (pairs ++ seen ∷ [])
  waits_told c pairs seen w =
      told_more c journal (entry_of client line (Told c seen)) ∙ ap (λ b. told_to c journal ++ cond b (seen ∷ []) []) (eq-eqb c c refl) ∙ ap (λ l. l ++ seen ∷ []) w ∙ append_assoc (heard_by c journal) pairs (seen ∷ [])
      ∙ ap (λ l. l ++ (pairs ++ seen ∷ [])) (sym (heard_more c journal (entry_of client line (Told c seen)) ∙ ap (λ l. heard_by c journal ++ l) (none_by (eqb client c)) ∙ append-nil (heard_by c journal)))

  pub waits_others : (c to : ℕ) (pairs : List Seen) (seen : Seen) → to ≢ c → Waits c journal pairs → Waits c (journal ++ entry_of client line (Told to seen) ∷ []) pairs
  waits_others c to pairs seen ne w =
      told_more c journal (entry_of client line (Told to seen)) ∙ ap (λ b. told_to c journal ++ cond b (seen ∷ []) []) (ne_eqb to c ne) ∙ append-nil (told_to c journal) ∙ w
      ∙ ap (λ l. l ++ pairs) (sym (heard_more c journal (entry_of client line (Told to seen)) ∙ ap (λ l. heard_by c journal ++ l) (none_by (eqb client c)) ∙ append-nil (heard_by c journal)))

  -- a note heard by this client, or by another
  pub waits_heard : (later : List Seen) (seen : Seen) → Waits client journal (seen ∷ later) → Waits client (journal ++ entry_of client line (Heard seen) ∷ []) later
  waits_heard later seen w =
      told_more client journal (entry_of client line (Heard seen)) ∙ append-nil (told_to client journal) ∙ w ∙ sym (append_assoc (heard_by client journal) (seen ∷ []) later)
      ∙ ap (λ l. l ++ later) (sym (heard_more client journal (entry_of client line (Heard seen)) ∙ ap (λ b. heard_by client journal ++ cond b (seen ∷ []) []) (eq-eqb client client refl)))

  pub waits_unheard : (c : ℕ) (pairs : List Seen) (what : PostWhat) → told_by c what ≡ [] → client ≢ c → Waits c journal pairs → Waits c (journal ++ entry_of client line what ∷ []) pairs
  waits_unheard c pairs what none ne w =
      told_more c journal (entry_of client line what) ∙ ap (λ l. told_to c journal ++ l) none ∙ append-nil (told_to c journal) ∙ w
      ∙ ap (λ l. l ++ pairs) (sym (heard_more c journal (entry_of client line what) ∙ ap (λ b. heard_by c journal ++ cond b (heard_in what) []) (ne_eqb client c ne) ∙ append-nil (heard_by c journal)))

  pub waits_nothing : (c : ℕ) (pairs : List Seen) → Waits c journal pairs → Waits c (journal ++ entry_of client line Nothing ∷ []) pairs
  waits_nothing c pairs w =
      told_more c journal (entry_of client line Nothing) ∙ append-nil (told_to c journal) ∙ w
      ∙ ap (λ l. l ++ pairs) (sym (heard_more c journal (entry_of client line Nothing) ∙ ap (λ l. heard_by c journal ++ l) (none_by (eqb client c)) ∙ append-nil (heard_by c journal)))

-- THE LOG
All_tail : (P : Note → Type 0) (x : Note) (xs : List Note) → All P (x ∷ xs) → P x × All P xs
All_tail P x xs h = (h 0 x (omega arith), λ k d lt. h (suc k) d (omega (arith, lt)))

module _ (board : TableId) (journal : List PostEntry) (queues : List (List Note)) (log : IsLog board journal queues) where
  pub tells : (client line to : ℕ) (note : Note) → 0 < to → to ≤ 64 → note_board note ≡ board
      → IsLog board (journal ++ entry_of client line (Told to (note_seen note)) ∷ []) (set queues (to - 1) (queue_at queues (to - 1) ++ note ∷ []))
  tells client line to note pos most from = record {
    post = post_more journal (entry_of client line (Told to (note_seen note))) log.post tt;
    wide = length-set queues (to - 1) (queue_at queues (to - 1) ++ note ∷ []) ∙ log.wide;
    waiting = λ i lt. dite (ℕ_discrete i (to - 1))
        (λ same. let is : i + 1 ≡ to = omega (arith, same, pos) in
        let w = log.waiting i lt in
        let there : queue_at (set queues (to - 1) (queue_at queues (to - 1) ++ note ∷ [])) i ≡ queue_at queues i ++ note ∷ [] =
        ap (queue_at (set queues (to - 1) (queue_at queues (to - 1) ++ note ∷ []))) same ∙ get_or-set_same queues (to - 1) (queue_at queues (to - 1) ++ note ∷ []) [] (omega (arith, lt, same, log.wide)) ∙ ap (λ k. queue_at queues k ++ note ∷ []) (sym same) in
        subst (AreWaiting board (i + 1) (journal ++ entry_of client line (Told to (note_seen note)) ∷ [])) (sym there) (record {
          waits = subst (λ t. Waits (i + 1) (journal ++ entry_of client line (Told t (note_seen note)) ∷ []) (map note_seen (queue_at queues i ++ note ∷ []))) is
              (subst (Waits (i + 1) (journal ++ entry_of client line (Told (i + 1) (note_seen note)) ∷ [])) (sym (map-append note_seen (queue_at queues i) (note ∷ []))) (waits_told journal client line (i + 1) (map note_seen (queue_at queues i)) (note_seen note) w.waits));
          from = All-push (λ (n : Note). note_board n ≡ board) (queue_at queues i) note w.from from;
        }))
        (λ ne. let w = log.waiting i lt in
        subst (AreWaiting board (i + 1) (journal ++ entry_of client line (Told to (note_seen note)) ∷ [])) (sym (get_or-set_other queues (to - 1) i (queue_at queues (to - 1) ++ note ∷ []) [] ne))
        (record { waits = waits_others journal client line (i + 1) to (map note_seen (queue_at queues i)) (note_seen note) (λ e. ne (omega (arith, e))) w.waits; from = w.from }));
  }

  -- the notes that wait for the client
  mine : (client : ℕ) → 0 < client → client ≤ 64 → AreWaiting board client journal (queue_at queues (client - 1))
  mine client pos most = subst (λ c. AreWaiting board c journal (queue_at queues (client - 1))) (omega (arith, pos)) (log.waiting (client - 1) (omega (arith, pos, most)))

  pub oldest_from : (client : ℕ) (note : Note) (later : List Note) → 0 < client → client ≤ 64 → queue_at queues (client - 1) ≡ note ∷ later → note_board note ≡ board
  oldest_from client note later pos most is = (All_tail (λ (n : Note). note_board n ≡ board) note later (subst (All (λ (n : Note). note_board n ≡ board)) is (mine client pos most).from)).0

  pub hears : (client line : ℕ) (note : Note) (later : List Note) → 0 < client → client ≤ 64 → queue_at queues (client - 1) ≡ note ∷ later
      → IsLog board (journal ++ entry_of client line (Heard (note_seen note)) ∷ []) (set queues (client - 1) later)
  hears client line note later pos most is =
      let m = mine client pos most in
      let w : Waits client journal (note_seen note ∷ map note_seen later) = subst (λ l. Waits client journal (map note_seen l)) is m.waits in
      let all = (All_tail (λ (n : Note). note_board n ≡ board) note later (subst (All (λ (n : Note). note_board n ≡ board)) is m.from)).1 in
      record {
        post = post_more journal (entry_of client line (Heard (note_seen note))) log.post (map note_seen later, w);
        wide = length-set queues (client - 1) later ∙ log.wide;
        waiting = λ i lt. dite (ℕ_discrete i (client - 1))
            (λ same. let is_mine : i + 1 ≡ client = omega (arith, same, pos) in
            let there : queue_at (set queues (client - 1) later) i ≡ later = ap (queue_at (set queues (client - 1) later)) same ∙ get_or-set_same queues (client - 1) later [] (omega (arith, lt, same, log.wide)) in
            subst (AreWaiting board (i + 1) (journal ++ entry_of client line (Heard (note_seen note)) ∷ [])) (sym there)
            (record { waits = subst (λ c. Waits c (journal ++ entry_of client line (Heard (note_seen note)) ∷ []) (map note_seen later)) (sym is_mine) (waits_heard journal client line (map note_seen later) (note_seen note) w); from = all }))
            (λ ne. let o = log.waiting i lt in
            subst (AreWaiting board (i + 1) (journal ++ entry_of client line (Heard (note_seen note)) ∷ [])) (sym (get_or-set_other queues (client - 1) i later [] ne))
            (record { waits = waits_unheard journal client line (i + 1) (map note_seen (queue_at queues i)) (Heard (note_seen note)) refl (λ e. ne (omega (arith, e))) o.waits; from = o.from }));
      }

  pub hears_none : (client line : ℕ) → 0 < client → client ≤ 64 → queue_at queues (client - 1) ≡ [] → IsLog board (journal ++ entry_of client line Nothing ∷ []) queues
  hears_none client line pos most is = record {
    post = post_more journal (entry_of client line Nothing) log.post (subst (λ l. Waits client journal (map note_seen l)) is (mine client pos most).waits);
    wide = log.wide;
    waiting = λ i lt. let o = log.waiting i lt in record { waits = waits_nothing journal client line (i + 1) (map note_seen (queue_at queues i)) o.waits; from = o.from };
  }

  -- a hearing, whether a note waited or none
  pub hears_any : (client line : ℕ) (heard : Option Note) (others : List (List Note)) → 0 < client → client ≤ 64
      → IfSome heard (λ note. (later : List Note) × (queue_at queues (client - 1) ≡ note ∷ later) × (others ≡ set queues (client - 1) later))
      → IfNone heard ((queue_at queues (client - 1) ≡ []) × (others ≡ queues))
      → IsLog board (journal ++ entry_of client line (what_of heard) ∷ []) others
  hears_any client line None others pos most s n = subst (IsLog board (journal ++ entry_of client line Nothing ∷ [])) (sym n.1) (hears_none client line pos most n.0)
  hears_any client line (Some note) others pos most s n = subst (IsLog board (journal ++ entry_of client line (Heard (note_seen note)) ∷ [])) (sym s.2) (hears client line note s.0 pos most s.1)

  pub heard_from : (client : ℕ) (heard : Option Note) (others : List (List Note)) → 0 < client → client ≤ 64
      → IfSome heard (λ note. (later : List Note) × (queue_at queues (client - 1) ≡ note ∷ later) × (others ≡ set queues (client - 1) later))
      → IfSome heard (λ note. note_board note ≡ board)
  heard_from client None others pos most s = s
  heard_from client (Some note) others pos most s = oldest_from client note s.0 pos most s.1

-- nothing was told yet
get_or-replicate : (n i : ℕ) → queue_at (replicate n []) i ≡ []
get_or-replicate zero i = refl
get_or-replicate (suc n) zero = refl
get_or-replicate (suc n) (suc i) = get_or-replicate n i

pub opens : (board : TableId) (journal : List PostEntry) (queues : List (List Note)) → journal ≡ [] → queues ≡ replicate 64 [] → IsLog board journal queues
opens board journal queues none empty = subst (λ (y : List PostEntry × List (List Note)). IsLog board y.0 y.1) (λ i. (sym none i, sym empty i)) (record {
  post = λ before e after is. absurd (not_empty before e after is);
  wide = refl;
  waiting = λ i lt. subst (AreWaiting board (i + 1) []) (sym (get_or-replicate 64 i)) (record { waits = refl; from = All-nil (λ (n : Note). note_board n ≡ board) });
})

-- A CLIENT'S ENTRIES
pub items_are : (c : ℕ) (journal : List PostEntry) → items_of c (tale_of journal) ≡ entries_of c journal
items_are c [] = refl
items_are c (e ∷ es) = by_bool (λ b. cond b (e ∷ items_of c (tale_of es)) (items_of c (tale_of es)) ≡ cond b (e ∷ entries_of c es) (entries_of c es)) (eqb e.client c) (λ _. ap (λ l. e ∷ l) (items_are c es)) (λ _. items_are c es)

pub tale_more : (journal : List PostEntry) (e : PostEntry) → tale_of (journal ++ e ∷ []) ≡ tale_of journal ++ (e.client, e) ∷ []
tale_more journal e = map-append (λ (x : PostEntry). (x.client, x)) journal (e ∷ [])
