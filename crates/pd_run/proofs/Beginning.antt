-- The workers of stores, from their lines to their ports.
use Rattle.std.proofs.Common.{◌≡◌, ℕ, List, [], ◌∷◌, suc, length, map, refl, sym, ap, arith, subst}
use Rattle.std.specs.Prelude.{All}
use Rattle.std.specs.List.{AllZip}
use Rattle.std.proofs.lemmas.List.Elements.{All-cons, All-head, All-nil, All-tail}
use Rattle.pd_run.proofs.Lists.{head_or, rest_of}
use Rattle.pd_shared.specs.Names.{StreamName}
use Rattle.pd_shared.specs.Shares.{SharedValue}
use Rattle.pd_run.specs.Crews.{AreNamed, IsLedStore}
use Rattle.pd_run.specs.Pipes.{BeginsStore}
use Rattle.pd_run.specs.Tasks.{GoesTo}
use Rattle.pd_run.specs.Works.{ArePorts, IsNewStore, made_at, popped_at, streams_at}
use Rattle.pd_run.specs.declared.line.StoreLine.{StoreLine}
use Rattle.pd_run.specs.declared.line.StoreLines.{StoreLines}
use Rattle.pd_run.specs.declared.storing.Port.{Port}
use Rattle.pd_run.specs.declared.storing.StoreWork.{StoreWork}

-- the lines of a worker, with its store
abbrev pub tasks_of : {N : Type 0} → StoreWork N → StoreLines
tasks_of w = record { store = w.store; lines = w.lines }

module _ {N : Type 0} where
  pub begun_same : {X : Type 0} (f : StoreLines → X) (h : StoreWork N → X) → ((s : StoreLines) (w : StoreWork N) → BeginsStore s w → h w ≡ f s) → (ss : List StoreLines) (ws : List (StoreWork N)) → AllZip BeginsStore ss ws → map h ws ≡ map f ss
  begun_same f h same [] [] begun = refl
  begun_same f h same [] (w ∷ ws) begun = absurd begun
  begun_same f h same (s ∷ ss) [] begun = absurd begun
  begun_same f h same (s ∷ ss) (w ∷ ws) begun = let one = same s w begun.0 in let rest = begun_same f h same ss ws begun.1 in λ i. one i ∷ rest i

  led_first : (names : List StreamName) (s : StoreLines) (w : StoreWork N) → BeginsStore s w → IsLedStore names [] w
  led_first names s w b = record {
    ports = subst (ArePorts w.store []) (sym b.ports) tt;
    none = record { made = λ d. ap (λ (ps : List (Port N)). made_at ps d) b.ports; popped = λ d. ap (λ (ps : List (Port N)). popped_at ps d) b.ports };
    named = subst (AreNamed names 1 w.store) (sym (ap streams_at b.ports)) tt;
    answers = b.answers;
    fine = b.fine;
  }

  pub all_led_first : (names : List StreamName) (ss : List StoreLines) (ws : List (StoreWork N)) → AllZip BeginsStore ss ws → All (IsLedStore names []) ws
  all_led_first names [] [] begun = All-nil (IsLedStore names [])
  all_led_first names [] (w ∷ ws) begun = absurd begun
  all_led_first names (s ∷ ss) [] begun = absurd begun
  all_led_first names (s ∷ ss) (w ∷ ws) begun = All-cons (IsLedStore names []) w ws (led_first names s w begun.0) (all_led_first names ss ws begun.1)

  -- stores whose lines are these
  pub new_stores : (names : List StreamName) (clusters : List SharedValue) (drivers : ℕ) (ss : List StoreLines) (ws : List (StoreWork N)) → drivers ≡ length clusters → map (λ (w : StoreWork N). w.lines) ws ≡ map (λ (s : StoreLines). s.lines) ss → All (λ (s : StoreLines). All (GoesTo drivers) s.lines.items) ss → All (IsLedStore names clusters) ws → All (IsNewStore clusters) ws
  new_stores names clusters drivers ss [] count same within led = All-nil (IsNewStore clusters)
  new_stores names clusters drivers [] (w ∷ ws) count same within led = absurd (let n : suc (length (map (λ (x : StoreWork N). x.lines) ws)) ≡ 0 = ap length same in omega (arith, n))
  new_stores names clusters drivers (s ∷ ss) (w ∷ ws) count same within led =
      let own = All-head (IsLedStore names clusters) w ws led in
      let lines : w.lines ≡ s.lines = ap (head_or w.lines) same in
      All-cons (IsNewStore clusters) w ws (record {
        ports = own.ports;
        none = own.none;
        lines = subst (λ (ls : List StoreLine). All (GoesTo (length clusters)) ls) (sym (ap (λ v. v.items) lines)) (subst (λ n. All (GoesTo n) s.lines.items) count (All-head (λ (x : StoreLines). All (GoesTo drivers) x.lines.items) s ss within));
        answers = own.answers;
        fine = own.fine;
      }) (new_stores names clusters drivers ss ws count (ap rest_of same) (All-tail (λ (x : StoreLines). All (GoesTo drivers) x.lines.items) s ss within) (All-tail (IsLedStore names clusters) w ws led))

  pub same_tasks : (ss : List StoreLines) (ws : List (StoreWork N)) → map (λ (w : StoreWork N). w.store) ws ≡ map (λ (s : StoreLines). s.store) ss → map (λ (w : StoreWork N). w.lines) ws ≡ map (λ (s : StoreLines). s.lines) ss
      → map tasks_of ws ≡ ss
  same_tasks [] [] ids lines = refl
  same_tasks [] (w ∷ ws) ids lines = absurd (let n : suc (length (map (λ (x : StoreWork N). x.lines) ws)) ≡ 0 = ap length lines in omega (arith, n))
  same_tasks (s ∷ ss) [] ids lines = absurd (let n : 0 ≡ suc (length (map (λ (x : StoreLines). x.lines) ss)) = ap length lines in omega (arith, n))
  same_tasks (s ∷ ss) (w ∷ ws) ids lines =
      let id : w.store ≡ s.store = ap (head_or w.store) ids in
      let own : w.lines ≡ s.lines = ap (head_or w.lines) lines in
      let rest = same_tasks ss ws (ap rest_of ids) (ap rest_of lines) in
      λ i. record { store = id i; lines = own i } ∷ rest i
