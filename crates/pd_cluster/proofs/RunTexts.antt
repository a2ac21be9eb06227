-- The text of a run, piece by piece.
use Rattle.std.proofs.Common.{◌≡◌, ℕ, ◌+◌, ◌<◌, zero, suc, Bool, true, false, cond, List, [], ◌∷◌, ◌++◌, length, take, map, get_or, refl, sym, ap, ◌∙◌, arith, append_assoc, IsUtf8, Result, Ok, Err}
use Rattle.std.specs.Str.{is_utf8}
use Rattle.std.proofs.lemmas.List.{take_more, append-nil}
use Rattle.std.proofs.lemmas.List.Folds.{flat_map-map}
use Rattle.std.proofs.lemmas.Str.{IsUtf8-from_is_utf8, is_utf8-from_IsUtf8}
use Rattle.std.specs.Prelude.{OnOk, codes, flat_map, is_ok}
use Rattle.tso_board.specs.Crews.{ledger_windows}
use Rattle.tso_model.specs.Moves.{numbers_from}
use Rattle.tso_model.specs.declared.view.Setup.{Setup}
use Rattle.tso_outcome.specs.Runs.{ClientPart}
use Rattle.tso_run.specs.declared.end.ClientAnswers.{ClientAnswers}
use Rattle.tso_run.specs.Runs.{client_part}
use Rattle.pd_run.specs.declared.answer.DriverAnswers.{DriverAnswers}
use Rattle.pd_run.specs.declared.answer.StoreAnswers.{StoreAnswers}
use Rattle.pd_run.specs.declared.runner.Left.{Left}
use Rattle.pd_run.specs.Runs.{DriverPart, Journal, StorePart, driver_part, journal_of, run_of, store_part}
use Rattle.pd_cluster.specs.RunText.{client_section, driver_section, journal_section, key_text, meta_section, numbered, post_section, run_text, store_section, windows_text}

-- NUMBERED LINES
module _ {A : Type 0} (text : ℕ → A → List ℕ) where
  -- one more behind the others
  numbered_last : (n : ℕ) (xs : List A) (x : A) → numbered text n (xs ++ x ∷ []) ≡ numbered text n xs ++ text (n + length xs) x
  numbered_last n [] x = append-nil (text n x) ∙ ap (λ (m : ℕ). text m x) (let e : n ≡ n + 0 = omega arith in e)
  numbered_last n (y ∷ ys) x =
      ap (λ (bs : List ℕ). text n y ++ bs) (numbered_last (n + 1) ys x ∙ ap (λ (m : ℕ). numbered text (n + 1) ys ++ text m x) (let e : n + 1 + length ys ≡ n + suc (length ys) = omega arith in e))
      ∙ sym (append_assoc (text n y) (numbered text (n + 1) ys) (text (n + suc (length ys)) x))

  -- the next of those that are walked
  pub numbered_more : (xs : List A) (i : ℕ) (d : A) (start old new : List ℕ) → i < length xs → old ≡ start ++ numbered text 1 (take i xs) → new ≡ old ++ text (i + 1) (get_or xs i d) → new ≡ start ++ numbered text 1 (take (i + 1) xs)
  numbered_more xs i d start old new lt before more =
      let place : 1 + length (take i xs) ≡ i + 1 = omega (arith, length-take_low i xs lt) in
      more ∙ ap (λ (bs : List ℕ). bs ++ text (i + 1) (get_or xs i d)) before ∙ append_assoc start (numbered text 1 (take i xs)) (text (i + 1) (get_or xs i d))
      ∙ ap (λ (m : ℕ). start ++ (numbered text 1 (take i xs) ++ text m (get_or xs i d))) (sym place)
      ∙ ap (λ (bs : List ℕ). start ++ bs) (sym (numbered_last 1 (take i xs) (get_or xs i d)))
      ∙ ap (λ (ys : List A). start ++ numbered text 1 ys) (sym (take_more xs i d lt))
    where
      length-take_low : (i : ℕ) (xs : List A) → i < length xs → length (take i xs) ≡ i
      length-take_low zero xs lt = refl
      length-take_low (suc i) [] lt = absurd (omega (arith, lt))
      length-take_low (suc i) (x ∷ xs) lt = ap suc (length-take_low i xs (omega (arith, lt)))

  -- the same, of an element that was read
  pub numbered_read : (xs : List A) (i : ℕ) (x : A) (start old new : List ℕ) → i < length xs → x ≡ get_or xs i x → old ≡ start ++ numbered text 1 (take i xs) → new ≡ old ++ text (i + 1) x → new ≡ start ++ numbered text 1 (take (i + 1) xs)
  numbered_read xs i x start old new lt is before more = numbered_more xs i x start old new lt before (more ∙ ap (λ (y : A). old ++ text (i + 1) y) is)

-- the lines of images
pub numbered-map : {A B : Type 0} (text : ℕ → B → List ℕ) (f : A → B) (n : ℕ) (xs : List A) → numbered text n (map f xs) ≡ numbered (λ (m : ℕ) (x : A). text m (f x)) n xs
numbered-map text f n [] = refl
numbered-map text f n (x ∷ xs) = ap (λ (bs : List ℕ). text n (f x) ++ bs) (numbered-map text f (n + 1) xs)

-- KEYS
pub key_pushed : {T E : Type 0} (r : Result T E) (old new key text : List ℕ) → new ≡ cond (is_ok r) (old ++ key) old → key ≡ text → OnOk r (new ≡ old ++ text)
key_pushed (Ok x) old new key text bytes same = bytes ∙ ap (λ (k : List ℕ). old ++ k) same
key_pushed (Err e) old new key text bytes same = tt

pub text_key : (key : List ℕ) → IsUtf8 key → key ≡ key_text key
text_key key is = sym (ap (λ (b : Bool). cond b key []) (is_utf8-from_IsUtf8 key is))

no_text_if : (key : List ℕ) (b : Bool) → is_utf8 key ≡ b → (IsUtf8 key → ⊥) → [] ≡ cond b key []
no_text_if key true is none = absurd (none (IsUtf8-from_is_utf8 key is))
no_text_if key false is none = refl

pub no_text : (key : List ℕ) → (IsUtf8 key → ⊥) → [] ≡ key_text key
no_text key none = no_text_if key (is_utf8 key) refl none

-- THE SECTIONS, one behind the other
pub section_more : (old new start text : List ℕ) → old ≡ start → new ≡ old ++ text → new ≡ start ++ text
section_more old new start text before more = more ∙ ap (λ (bs : List ℕ). bs ++ text) before

-- a driver's, a client's and a store's part has the answers that it left
pub driver_sections : (left : Left) → flat_map (λ (d : DriverAnswers). driver_section d.number d.answers.items) left.drivers.items ≡ flat_map (λ (p : DriverPart). driver_section p.number p.answers) (map driver_part left.drivers.items)
driver_sections left = sym (flat_map-map (λ (p : DriverPart). driver_section p.number p.answers) driver_part left.drivers.items)

pub client_sections : (left : Left) → flat_map (λ (c : ClientAnswers). client_section c.number c.answers.items) left.clients.items ≡ flat_map (λ (p : ClientPart). client_section p.number p.answers) (map client_part left.clients.items)
client_sections left = sym (flat_map-map (λ (p : ClientPart). client_section p.number p.answers) client_part left.clients.items)

pub store_sections : (left : Left) → flat_map (λ (s : StoreAnswers). store_section s.store s.answers.items) left.stores.items ≡ flat_map (λ (p : StorePart). store_section p.store p.answers) (map store_part left.stores.items)
store_sections left = sym (flat_map-map (λ (p : StorePart). store_section p.store p.answers) store_part left.stores.items)

-- the text of what is left, whatever the setup was
pub run_sections : (left : Left) (t0 t1 t2 t3 t4 t5 t6 t7 : List ℕ) → t0 ≡ [] → t1 ≡ t0 ++ windows_text (ledger_windows left.ledger)
    → t2 ≡ t1 ++ flat_map (λ (d : DriverAnswers). driver_section d.number d.answers.items) left.drivers.items
    → t3 ≡ t2 ++ flat_map (λ (c : ClientAnswers). client_section c.number c.answers.items) left.clients.items
    → t4 ≡ t3 ++ flat_map (λ (s : StoreAnswers). store_section s.store s.answers.items) left.stores.items
    → t5 ≡ t4 ++ numbered journal_section 1 (map journal_of left.clusters.items)
    → t6 ≡ t5 ++ meta_section left.meta → t7 ≡ t6 ++ post_section left.post → (k : Setup) → t7 ≡ run_text (run_of k left)
run_sections left t0 t1 t2 t3 t4 t5 t6 t7 e0 e1 e2 e3 e4 e5 e6 e7 k =
    section_more t6 t7 _ (post_section left.post)
    (section_more t5 t6 _ (meta_section left.meta)
    (section_more t4 t5 _ (numbered journal_section 1 (map journal_of left.clusters.items))
    (section_more t3 t4 _ (flat_map (λ (p : StorePart). store_section p.store p.answers) (map store_part left.stores.items))
    (section_more t2 t3 _ (flat_map (λ (p : ClientPart). client_section p.number p.answers) (map client_part left.clients.items))
    (section_more t1 t2 _ (flat_map (λ (p : DriverPart). driver_section p.number p.answers) (map driver_part left.drivers.items))
    (e1 ∙ ap (λ (bs : List ℕ). bs ++ windows_text (ledger_windows left.ledger)) e0)
    (e2 ∙ ap (λ (bs : List ℕ). t1 ++ bs) (driver_sections left)))
    (e3 ∙ ap (λ (bs : List ℕ). t2 ++ bs) (client_sections left)))
    (e4 ∙ ap (λ (bs : List ℕ). t3 ++ bs) (store_sections left)))
    e5) e6) e7

-- the section of one answer, with nothing behind it
pub one_answer : (word number line : List ℕ) → word ++ number ++ codes "\n" ++ (line ++ []) ++ [] ≡ word ++ number ++ codes "\n" ++ line
one_answer word number line = λ i. append-nil (word ++ number ++ codes "\n" ++ append-nil line i) i

-- the journals of the drivers from one on
pub heads : (first : ℕ) (journals : List Journal) → map (λ (journal : Journal). journal.driver) journals ≡ numbers_from first (length journals)
    → numbered journal_section first journals ≡ flat_map (λ (journal : Journal). journal_section journal.driver journal) journals
heads first [] own = refl
heads first (j ∷ js) own =
    let head : j.driver ≡ first = cc in
    let rest : map (λ (journal : Journal). journal.driver) js ≡ numbers_from (first + 1) (length js) = cc in
    ap (λ (n : ℕ). journal_section n j ++ numbered journal_section (first + 1) js) (sym head) ∙ ap (λ (bs : List ℕ). journal_section j.driver j ++ bs) (heads (first + 1) js rest)

-- lines of the metadata, whose words stand in pieces
pub put_pieces : (n d t v key text : List ℕ) → key ≡ text → n ++ codes " driver " ++ d ++ codes " " ++ (codes "put " ++ t ++ codes " " ++ text) ++ codes " " ++ (codes "old-term " ++ v) ++ codes "\n"
    ≡ n ++ codes " driver " ++ d ++ codes " put " ++ t ++ codes " " ++ key ++ codes " old-term " ++ v ++ codes "\n"
put_pieces n d t v key text same = ap (λ (k : List ℕ). n ++ codes " driver " ++ d ++ codes " " ++ (codes "put " ++ t ++ codes " " ++ k) ++ codes " " ++ (codes "old-term " ++ v) ++ codes "\n") (sym same) ∙ simp append_assoc

pub delete_pieces : (n d t v key text : List ℕ) → key ≡ text → n ++ codes " driver " ++ d ++ codes " " ++ (codes "delete " ++ t ++ codes " " ++ text) ++ codes " " ++ (codes "conflict " ++ v) ++ codes "\n"
    ≡ n ++ codes " driver " ++ d ++ codes " delete " ++ t ++ codes " " ++ key ++ codes " conflict " ++ v ++ codes "\n"
delete_pieces n d t v key text same = ap (λ (k : List ℕ). n ++ codes " driver " ++ d ++ codes " " ++ (codes "delete " ++ t ++ codes " " ++ k) ++ codes " " ++ (codes "conflict " ++ v) ++ codes "\n") (sym same) ∙ simp append_assoc

pub limit_pieces : (n d t key text : List ℕ) → key ≡ text → n ++ codes " driver " ++ d ++ codes " " ++ (codes "delete " ++ t ++ codes " " ++ text) ++ codes " " ++ codes "meta-limit" ++ codes "\n"
    ≡ n ++ codes " driver " ++ d ++ codes " delete " ++ t ++ codes " " ++ key ++ codes " meta-limit\n"
limit_pieces n d t key text same = ap (λ (k : List ℕ). n ++ codes " driver " ++ d ++ codes " " ++ (codes "delete " ++ t ++ codes " " ++ k) ++ codes " " ++ codes "meta-limit" ++ codes "\n") (sym same) ∙ simp append_assoc
