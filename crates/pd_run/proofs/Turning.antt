-- One line more of a driver or of a store.
use Rattle.std.proofs.Common.{◌≡◌, ℕ, List, [], ◌∷◌, ◌++◌, map, refl, sym, ap, ◌∙◌, subst}
use Rattle.std.specs.Prelude.{flat_map}
use Rattle.std.proofs.lemmas.List.{append-nil, map-append}
use Rattle.std.proofs.lemmas.List.Elements.{All-nil, All-push}
use Rattle.std.proofs.lemmas.Grind.{flat_map-append}
use Rattle.tso_model.specs.declared.view.View.{View}
use Rattle.tso_outcome.specs.declared.said.DriverAnswer.{DriverAnswer as OracleAnswer}
use Rattle.tso_outcome.specs.Drives.{Drove}
use Rattle.sched_api.specs.Benches.{Seats}
use Rattle.pd_types.specs.declared.step.StepMsg.{StepMsg}
use Rattle.pd_state.specs.declared.entry.Entry.{Entry}
use Rattle.pd_run.specs.Answers.{by_oracle, oracle_answers}
use Rattle.pd_run.specs.Heard.{HeardAll}
use Rattle.pd_run.specs.Turns.{DriverAnswered, DriverDid, DriverTurn, IsDriverTurn, IsStoreTurn, StoreAnswered, StoreDid, StoreTurn, driver_answer, own_at, store_answer, taken_at}
use Rattle.pd_run.specs.declared.answer.DriverAnswer.{DriverAnswer}
use Rattle.pd_run.specs.declared.answer.DriverSays.{DriverSays}
use Rattle.pd_run.specs.declared.answer.StoreAnswer.{StoreAnswer}
use Rattle.pd_run.specs.declared.answer.StoreSays.{StoreSays}
use Rattle.pd_run.specs.declared.line.DriverLine.{DriverLine}
use Rattle.pd_run.specs.declared.line.StoreLine.{StoreLine}

-- what one more turn maps to stands behind the others
mapped : {A B : Type 0} (f : A → B) (xs : List A) (x : A) (ys : List B) → map f xs ≡ ys → map f (xs ++ x ∷ []) ≡ ys ++ f x ∷ []
mapped f xs x ys is = map-append f xs (x ∷ []) ∙ ap (λ l. l ++ f x ∷ []) is

flattened : {A B : Type 0} (f : A → List B) (xs : List A) (x : A) (ys : List B) → flat_map f xs ≡ ys → flat_map f (xs ++ x ∷ []) ≡ ys ++ f x
flattened f xs x ys is = flat_map-append f xs (x ∷ []) ∙ (λ i. is i ++ append-nil (f x) i)

-- DRIVERS
pub driver_none : DriverAnswered [] [] []
driver_none = record { turns = []; lines_are = refl; answers_are = refl; entries_are = refl; did = All-nil IsDriverTurn }

pub driver_more : (lines : List DriverLine) (answers : List DriverAnswer) (entries : List Entry) → DriverAnswered lines answers entries → (line : DriverLine) (says : DriverSays) (own : List Entry) → DriverDid line.number line.task says own
    → DriverAnswered (lines ++ line ∷ []) (answers ++ record { line = line.number; says = says } ∷ []) (entries ++ own)
driver_more lines answers entries h line says own did =
    let turn : DriverTurn = record { line = line; says = says; own = own } in record {
      turns = h.turns ++ turn ∷ [];
      lines_are = mapped (λ (t : DriverTurn). t.line) h.turns turn lines h.lines_are;
      answers_are = mapped driver_answer h.turns turn answers h.answers_are;
      entries_are = flattened (λ (t : DriverTurn). t.own) h.turns turn entries h.entries_are;
      did = All-push IsDriverTurn h.turns turn h.did did;
    }

pub heard_more : (es fs : List Entry) (one two three : Seats) → HeardAll es one two → HeardAll fs two three → HeardAll (es ++ fs) one three
heard_more [] fs one two three h more = subst (λ s. HeardAll fs s three) h more
heard_more (e ∷ es) fs one two three h more = (h.0, h.1, heard_more es fs h.0 two three h.2 more)

pub drove_more : (v u w : View) (xs ys : List OracleAnswer) → Drove v xs u → Drove u ys w → Drove v (xs ++ ys) w
drove_more v u w [] ys h more = subst (λ x. Drove x ys w) (sym h) more
drove_more v u w (x ∷ xs) ys h more = (h.0, h.1, drove_more h.0 u w xs ys h.2 more)

pub oracle_more : (answers : List DriverAnswer) (line : ℕ) (says : DriverSays) → oracle_answers (answers ++ record { line = line; says = says } ∷ []) ≡ oracle_answers answers ++ by_oracle line says
oracle_more answers line says = flattened (λ (a : DriverAnswer). by_oracle a.line a.says) answers (record { line = line; says = says }) (oracle_answers answers) refl

-- STORES
pub store_none : (entries : ℕ → List Entry) (popped : ℕ → List StepMsg) → ((d : ℕ) → entries d ≡ []) → ((d : ℕ) → popped d ≡ []) → StoreAnswered [] [] entries popped
store_none entries popped none nothing = record { turns = []; lines_are = refl; answers_are = refl; did = All-nil IsStoreTurn; entries_are = λ d. sym (none d); popped_are = λ d. sym (nothing d) }

pub store_more : (lines : List StoreLine) (answers : List StoreAnswer) (entries more : ℕ → List Entry) (popped taken : ℕ → List StepMsg) → StoreAnswered lines answers entries popped
    → (line : StoreLine) (says : StoreSays) (own : List Entry) → StoreDid line.number line.task says own
    → ((d : ℕ) → more d ≡ entries d ++ own_at d (record { line = line; says = says; own = own })) → ((d : ℕ) → taken d ≡ popped d ++ taken_at d (record { line = line; says = says; own = own }))
    → StoreAnswered (lines ++ line ∷ []) (answers ++ record { line = line.number; driver = line.driver; says = says } ∷ []) more taken
store_more lines answers entries more popped taken h line says own did made took =
    let turn : StoreTurn = record { line = line; says = says; own = own } in record {
      turns = h.turns ++ turn ∷ [];
      lines_are = mapped (λ (t : StoreTurn). t.line) h.turns turn lines h.lines_are;
      answers_are = mapped store_answer h.turns turn answers h.answers_are;
      did = All-push IsStoreTurn h.turns turn h.did did;
      entries_are = λ d. flattened (own_at d) h.turns turn (entries d) (h.entries_are d) ∙ sym (made d);
      popped_are = λ d. flattened (taken_at d) h.turns turn (popped d) (h.popped_are d) ∙ sym (took d);
    }
