-- What the gathered ledger tells of each worker, and each worker of the ledger.
use Rattle.std.proofs.Common.{◌≡◌, ℕ, ◌+◌, ◌<◌, ◌≤◌, eqb, cond, List, [], ◌∷◌, sym, refl, ap, ◌∙◌, subst, ⊎_elim, arith}
use Rattle.std.specs.Prelude.{Contains, map, None}
use mathlib.Core.Logic.{dite}
use native.Mathlib.Decide.{dec_le}
use Rattle.tso_model.specs.declared.entries.Claim.{Claim}
use Rattle.tso_model.specs.declared.entries.Start.{Start}
use Rattle.tso_model.specs.declared.entries.Found.{Found}
use Rattle.tso_model.specs.declared.entries.Published.{Published}
use Rattle.tso_model.specs.declared.entries.Look.{Look}
use Rattle.tso_model.specs.declared.entries.Refusal.{Refusal}
use Rattle.tso_model.specs.declared.entries.Added.{Added}
use Rattle.tso_model.specs.declared.view.View.{View}
use Rattle.tso_model.specs.Lists.{total}
use Rattle.tso_model.specs.Words.{IsOpen, opening_claim, Follows, last_end}
use Rattle.tso_model.specs.History.{History, Stands, claims, added_at, added_else}
use Rattle.tso_model.specs.Ledger.{Rise, IsWindowList}
use Rattle.tso_model.proofs.Basics.{by_bool, by_eq, in_head, in_tail, in_cons, in_nil, weight_le, added_parts}
use Rattle.tso_outcome.specs.Drives.{raised}
use Rattle.tso_driver.specs.Driving.{start_at}
use Rattle.tso_outcome.specs.Clients.{asked_by}
use Rattle.tso_outcome.specs.Runs.{Run, ClientPart, asked_of_all, asked_of_others}
use Rattle.tso_outcome.proofs.Ended.{CameBack, AreDistinctBy}
use Rattle.tso_outcome.specs.Ends.{DriverEnd, ClientEnd}
use Rattle.tso_model.specs.Moves.{driver_view, client_view}
use Rattle.tso_model.proofs.Closing.{reverse_total}
use Rattle.tso_model.proofs.Codes.{hit, hit-is, stands, weighs, claim_code, claim_one}
use Rattle.tso_outcome.proofs.Codes.{located, brought, moved, start_code, start_one, found_code, found_one, published_code, published_one, look_code, look_one, refusal_code, refusal_one}
use Rattle.tso_outcome.proofs.Chains.{drew_asked, drew_own}
use Rattle.tso_outcome.proofs.Drives.{drove_starts, drove_back, drove_own, WasPublished, drove_published}
use Rattle.tso_outcome.proofs.Above.{in_map, to_map, lists_of}

-- one with a number
pub once : {A : Type 0} (number : A → ℕ) (xs : List A) → AreDistinctBy number xs → (x y : A) → Contains xs x → Contains xs y → number x ≡ number y → x ≡ y
once number [] d x y hx hy same = in_nil x hx
once number (z ∷ zs) d x y hx hy same = ⊎_elim
    (λ (e : z ≡ x). ⊎_elim (λ (f : z ≡ y). sym e ∙ f) (λ (hy' : Contains zs y). absurd (d.0 y hy' (ap number e ∙ same))) (in_cons z zs y hy))
    (λ (hx' : Contains zs x). ⊎_elim (λ (f : z ≡ y). absurd (d.0 x hx' (ap number f ∙ sym same))) (λ (hy' : Contains zs y). once number zs d.1 x y hx' hy' same) (in_cons z zs y hy))
    (in_cons z zs x hx)

-- WINDOW LISTS
pub rise_driver : (x : Claim) (rest : List Claim) → Rise x rest → (c : Claim) → Contains rest c → 0 < c.window.driver
rise_driver x [] r c h = in_nil c h
rise_driver x (y ∷ ys) r c h = ⊎_elim (λ (e : y ≡ c). omega (arith, r.0.driver, ap (λ (z : Claim). z.window.driver) e)) (λ (z : Contains ys c). rise_driver y ys r.1 c z) (in_cons y ys c h)

-- the window before one
pub rise_before : (x : Claim) (rest : List Claim) → Rise x rest → (c : Claim) → Contains rest c → (p : Claim) × Contains (x ∷ rest) p × Follows p c
rise_before x [] r c h = in_nil c h
rise_before x (y ∷ ys) r c h = ⊎_elim
    (λ (e : y ≡ c). (x, in_head x (y ∷ ys), subst (Follows x) e r.0))
    (λ (z : Contains ys c). let p = rise_before y ys r.1 c z in (p.0, in_tail x (y ∷ ys) p.0 p.1, p.2))
    (in_cons y ys c h)

-- each term up to that of a window has one
pub rise_has : (x : Claim) (rest : List Claim) → Rise x rest → (e : Claim) → Contains (x ∷ rest) e → (t : ℕ) → x.window.term ≤ t → t ≤ e.window.term → (c : Claim) × Contains (x ∷ rest) c × (c.window.term ≡ t)
rise_has x [] r e h t low high = ⊎_elim (λ (s : x ≡ e). (x, in_head x [], omega (arith, low, high, ap (λ (z : Claim). z.window.term) s))) (λ (z : Contains [] e). in_nil e z) (in_cons x [] e h)
rise_has x (y ∷ ys) r e h t low high = dite (dec_le t x.window.term)
    (λ le. (x, in_head x (y ∷ ys), omega (arith, low, le)))
    (λ gt. ⊎_elim
    (λ (s : x ≡ e). absurd (omega (arith, gt, high, ap (λ (z : Claim). z.window.term) s)))
    (λ (z : Contains (y ∷ ys) e). let c = rise_has y ys r.1 e z t (omega (arith, gt, r.0.term)) high in (c.0, in_tail x (y ∷ ys) c.0 c.1, c.2))
    (in_cons x (y ∷ ys) e h))

-- no window ends behind the last
pub rise_last : (x : Claim) (rest : List Claim) → Rise x rest → (e : Claim) → Contains (x ∷ rest) e → e.window.hi ≤ last_end (map (λ (c : Claim). c.window) (x ∷ rest))
rise_last x [] r e h = ⊎_elim (λ (s : x ≡ e). omega (arith, ap (λ (z : Claim). z.window.hi) s)) (λ (z : Contains [] e). in_nil e z) (in_cons x [] e h)
rise_last x (y ∷ ys) r e h = ⊎_elim
    (λ (s : x ≡ e). omega (arith, rise_last y ys r.1 y (in_head y ys), ap (λ (z : Claim). z.window.hi) s, r.0.begins, r.0.ends))
    (λ (z : Contains (y ∷ ys) e). rise_last y ys r.1 e z)
    (in_cons x (y ∷ ys) e h)

module _ (run : Run) (b : CameBack run) where
  pub window_list : IsWindowList (opening_claim run.setup.cell) b.claims
  window_list = (lists_of run b).0

  in_all : (c : Claim) → Contains b.claims c → Contains (opening_claim run.setup.cell ∷ window_list.rest) c
  in_all c h = subst (λ l. Contains l c) window_list.all h

  from_all : (c : Claim) → Contains (opening_claim run.setup.cell ∷ window_list.rest) c → Contains b.claims c
  from_all c h = subst (λ l. Contains l c) (sym window_list.all) h

  in_rest : (c : Claim) → Contains b.claims c → ¬ (opening_claim run.setup.cell ≡ c) → Contains window_list.rest c
  in_rest c h other = ⊎_elim (λ (e : opening_claim run.setup.cell ≡ c). absurd (other e)) (λ (z : Contains window_list.rest c). z) (in_cons (opening_claim run.setup.cell) window_list.rest c (in_all c h))

  -- an open window is a driver's, and so is one of a later term than the opening one
  pub open_made : (c : Claim) → Contains b.claims c → IsOpen c.window → 0 < c.window.driver
  open_made c h open_is = rise_driver (opening_claim run.setup.cell) window_list.rest window_list.rises c (in_rest c h (λ e. omega (arith, open_is, ap (λ (z : Claim). z.window.lo) e, ap (λ (z : Claim). z.window.hi) e)))

  pub later_made : (c : Claim) → Contains b.claims c → run.setup.cell.term < c.window.term → 0 < c.window.driver
  later_made c h later = rise_driver (opening_claim run.setup.cell) window_list.rest window_list.rises c (in_rest c h (λ e. omega (arith, later, ap (λ (z : Claim). z.window.term) e)))

  pub before_it : (c : Claim) → Contains b.claims c → run.setup.cell.term < c.window.term → (p : Claim) × Contains b.claims p × Follows p c
  before_it c h later = let p = rise_before (opening_claim run.setup.cell) window_list.rest window_list.rises c (in_rest c h (λ e. omega (arith, later, ap (λ (z : Claim). z.window.term) e))) in (p.0, from_all p.0 p.1, p.2)

  -- a term up to the newest one has a window
  pub has_term : (t : ℕ) → run.setup.cell.term ≤ t → t ≤ b.gathered.history.newest.window.term → (c : Claim) × Contains b.claims c × (c.window.term ≡ t)
  has_term t low high = let c = rise_has (opening_claim run.setup.cell) window_list.rest window_list.rises b.gathered.history.newest
      (in_all b.gathered.history.newest (moved claim_code claim_one (b.gathered.history.newest ∷ b.gathered.history.past) b.claims (λ f. omega (arith, b.claims_weigh f, b.gathered.a.claims f, reverse_total f (b.gathered.history.newest ∷ b.gathered.history.past))) b.gathered.history.newest (in_head b.gathered.history.newest b.gathered.history.past))) t low high in (c.0, from_all c.0 c.1, c.2)

  pub newest_ends : b.gathered.history.newest.window.hi ≤ last_end run.windows
  newest_ends = subst (λ l. b.gathered.history.newest.window.hi ≤ last_end l) (ap (map (λ (c : Claim). c.window)) (sym window_list.all) ∙ sym b.windows_are) (rise_last (opening_claim run.setup.cell) window_list.rest window_list.rises b.gathered.history.newest
      (in_all b.gathered.history.newest (moved claim_code claim_one (b.gathered.history.newest ∷ b.gathered.history.past) b.claims (λ f. omega (arith, b.claims_weigh f, b.gathered.a.claims f, reverse_total f (b.gathered.history.newest ∷ b.gathered.history.past))) b.gathered.history.newest (in_head b.gathered.history.newest b.gathered.history.past))))

module _ (run : Run) (b : CameBack run) where
  abbrev pub the_history : History
  the_history = b.gathered.history

  abbrev driver_views : List View
  driver_views = map (λ (e : DriverEnd). e.view) b.drivers

  abbrev client_views : List View
  client_views = map (λ (e : ClientEnd). e.last.view) b.clients

  driver_of : (w : View) → Contains driver_views w → (e : DriverEnd) × Contains b.drivers e × (e.view ≡ w)
  driver_of w h = in_map (λ (e : DriverEnd). e.view) b.drivers w h

  -- WINDOWS
  pub claims_stand : (c : Claim) → Stands the_history c → Contains b.claims c
  claims_stand c h = moved claim_code claim_one (the_history.newest ∷ the_history.past) b.claims
      (λ f. omega (arith, b.claims_weigh f, b.gathered.a.claims f, reverse_total f (the_history.newest ∷ the_history.past))) c h

  pub stand_claims : (c : Claim) → Contains b.claims c → Stands the_history c
  stand_claims c h = moved claim_code claim_one b.claims (the_history.newest ∷ the_history.past)
      (λ f. omega (arith, b.claims_weigh f, b.gathered.a.claims f, reverse_total f (the_history.newest ∷ the_history.past))) c h

  pub claim_in : (e : DriverEnd) → Contains b.drivers e → (c : Claim) → Contains (claims e.view) c → Contains b.claims c
  claim_in e h c there = stands claim_code claim_one c b.claims (omega (
    arith,
    b.claims_weigh (hit claim_code claim_one c),
    b.unites.claims (hit claim_code claim_one c),
    weight_le (λ (w : View). total (hit claim_code claim_one c) (claims w)) driver_views e.view (to_map (λ (x : DriverEnd). x.view) b.drivers e h),
    weighs claim_code claim_one c (claims e.view) there,
  ))

  pub driver_of_claim : (c : Claim) → Contains b.claims c → 0 < c.window.driver → (e : DriverEnd) × Contains b.drivers e × Contains (claims e.view) c
  driver_of_claim c h pos =
      let not_first : hit claim_code claim_one c (opening_claim run.setup.cell) ≤ 0 = dite (dec_le (hit claim_code claim_one c (opening_claim run.setup.cell)) 0)
      (λ z. z) (λ nz. absurd (let same = hit-is claim_code claim_one c (opening_claim run.setup.cell) (omega (arith, nz)) in omega (arith, pos, ap (λ (x : Claim). x.window.driver) same))) in
      let some : 0 < total (hit claim_code claim_one c) (claims b.view) = omega (arith, b.claims_weigh (hit claim_code claim_one c), weighs claim_code claim_one c b.claims h, not_first) in
      let r = located claim_code claim_one claims driver_views (claims b.view) b.unites.claims c (stands claim_code claim_one c (claims b.view) some) in
      let e = driver_of r.0 r.1 in
      (e.0, e.1, subst (λ (w : View). Contains (claims w) c) (sym e.2) r.2)

  -- a driver's claim has its number, and a term above the opening one
  pub claim_is : (e : DriverEnd) → Contains b.drivers e → (c : Claim) → Contains (claims e.view) c → (c.window.driver ≡ e.part.number) × (run.setup.cell.term < c.window.term) × (c.window.term < 262144)
  claim_is e h c there =
      let drove = (b.drove e h).1 in
      let r = drove_back (driver_view run.setup e.part.number) e.part.answers e.view drove c there in
      let in_range : (run.setup.cell.term < c.window.term) × (c.window.term < 262144) = ⊎_elim
      (λ (z : (x : Claim) × Contains (claims (driver_view run.setup e.part.number)) x × (x.window.term ≡ c.window.term)). in_nil z.0 z.1)
      (λ (z : (run.setup.cell.term < c.window.term) × (c.window.term < 262144)). z) r in
      (drove_own (driver_view run.setup e.part.number) e.part.answers e.view drove (λ x z. in_nil x z) c there, in_range.0, in_range.1)

  -- the window of a claim is printed where it is open
  pub window_in : (c : Claim) → Contains b.claims c → Contains run.windows c.window
  window_in c h = subst (λ l. Contains l c.window) (sym b.windows_are) (to_map (λ (x : Claim). x.window) b.claims c h)

  -- PUBLISHED WORDS AND STARTS
  pub driver_of_word : (p : Published) → Contains the_history.published p → (e : DriverEnd) × Contains b.drivers e × (p.driver ≡ e.part.number) × WasPublished e.part.number None e.part.answers p.word
  driver_of_word p h =
      let r = located published_code published_one (λ (w : View). w.published) driver_views the_history.published (λ f. sym (b.gathered.a.published f) ∙ b.unites.published f) p h in
      let e = driver_of r.0 r.1 in
      let w = drove_published (driver_view run.setup e.0.part.number) e.0.part.answers e.0.view (b.drove e.0 e.1).1 p (subst (λ (w : View). Contains w.published p) (sym e.2) r.2) in
      ⊎_elim
      (λ (z : Contains (driver_view run.setup e.0.part.number).published p). in_nil p z)
      (λ (z : (p.driver ≡ e.0.part.number) × WasPublished e.0.part.number None e.0.part.answers p.word). (e.0, e.1, z.0, z.1)) w

  pub driver_of_start : (d at : ℕ) → Contains the_history.starts (record { driver = d; at = at }) → (e : DriverEnd) × Contains b.drivers e × (e.part.number ≡ d) × Contains (raised e.part.answers) at
  driver_of_start d at h =
      let s : Start = record { driver = d; at = at } in
      let r = located start_code start_one (λ (w : View). w.starts) driver_views the_history.starts (λ f. sym (b.gathered.a.starts f) ∙ b.unites.starts f) s h in
      let e = driver_of r.0 r.1 in
      let in_end : Contains e.0.view.starts s = subst (λ (w : View). Contains w.starts s) (sym e.2) r.2 in
      let m = in_map (start_at e.0.part.number) (raised e.0.part.answers) s (subst (λ l. Contains l s) (drove_starts (driver_view run.setup e.0.part.number) e.0.part.answers e.0.view (b.drove e.0 e.1).1) in_end) in
      (e.0, e.1, ap (λ (x : Start). x.driver) m.2, subst (λ n. Contains (raised e.0.part.answers) n) (ap (λ (x : Start). x.at) m.2) m.1)

  -- FOUND CURSORS, LOOKS AND REFUSALS
  pub found_in : (e : DriverEnd) → Contains b.drivers e → (f : Found) → Contains e.view.founds f → Contains the_history.founds f
  found_in e h f there = brought found_code found_one (λ (w : View). w.founds) driver_views the_history.founds (λ g. sym (b.gathered.a.founds g) ∙ b.unites.founds g) e.view (to_map (λ (x : DriverEnd). x.view) b.drivers e h) f there

  pub look_in : (e : ClientEnd) → Contains b.clients e → (l : Look) → Contains e.last.view.looks l → Contains the_history.looks l
  look_in e h l there = brought look_code look_one (λ (w : View). w.looks) client_views the_history.looks (λ g. sym (b.gathered.a.looks g) ∙ b.unites.looks g) e.last.view (to_map (λ (x : ClientEnd). x.last.view) b.clients e h) l there

  pub refusal_in : (e : ClientEnd) → Contains b.clients e → (r : Refusal) → Contains e.last.view.refusals r → Contains the_history.refusals r
  refusal_in e h r there = brought refusal_code refusal_one (λ (w : View). w.refusals) client_views the_history.refusals (λ g. sym (b.gathered.a.refusals g) ∙ b.unites.refusals g) e.last.view (to_map (λ (x : ClientEnd). x.last.view) b.clients e h) r there

  -- COUNTS
  asked_one : (d : ℕ) (e : ClientEnd) → Contains b.clients e → added_at d e.last.view.added ≤ asked_by d e.part.answers
  asked_one d e h = omega (arith, drew_asked d (record { view = client_view run.setup e.part.number; slip = [] }) e.part.answers e.last (b.drew e h).1)

  none_else : (c d : ℕ) (xs : List Added) → ((x : Added) → Contains xs x → x.client ≡ c) → (let n : ℕ = added_else c d xs in n) ≡ 0
  none_else c d [] own = refl
  none_else c d (x ∷ xs) own = by_bool (λ t. (let n : ℕ = cond t (cond (eqb x.client c) 0 x.count) 0 + added_else c d xs in n) ≡ 0) (eqb x.driver d)
      (λ _. by_eq (λ t. (let n : ℕ = cond t 0 x.count + added_else c d xs in n) ≡ 0) x.client c (λ _. omega (arith, none_else c d xs (λ y h. own y (in_tail x xs y h)))) (λ ne. absurd (ne (own x (in_head x xs)))))
      (λ _. omega (arith, none_else c d xs (λ y h. own y (in_tail x xs y h))))

  else_one : (c d : ℕ) (e : ClientEnd) → Contains b.clients e → added_else c d e.last.view.added ≤ cond (eqb e.part.number c) 0 (asked_by d e.part.answers)
  else_one c d e h = by_eq (λ t. added_else c d e.last.view.added ≤ cond t 0 (asked_by d e.part.answers)) e.part.number c
      (λ same. omega (arith, none_else c d e.last.view.added (λ x z. drew_own (record { view = client_view run.setup e.part.number; slip = [] }) e.part.answers e.last (b.drew e h).1 (λ y w. in_nil y w) x z ∙ same)))
      (λ _. omega (arith, asked_one d e h, added_parts c d e.last.view.added))

  sum_le : (f : View → ℕ) (g : ClientPart → ℕ) (es : List ClientEnd) → ((e : ClientEnd) → Contains es e → f e.last.view ≤ g e.part) → total f (map (λ (e : ClientEnd). e.last.view) es) ≤ total g (map (λ (e : ClientEnd). e.part) es)
  sum_le f g [] each = omega arith
  sum_le f g (e ∷ es) each = omega (arith, each e (in_head e es), sum_le f g es (λ x h. each x (in_tail e es x h)))

  -- all that was added at a driver is at most what was asked for there
  pub all_added : (d : ℕ) → added_at d the_history.added ≤ asked_of_all d run.clients
  all_added d = omega (
    arith,
    b.gathered.a.added (λ (a : Added). cond (eqb a.driver d) a.count 0),
    b.unites.added (λ (a : Added). cond (eqb a.driver d) a.count 0),
    sum_le (λ (w : View). added_at d w.added) (λ (p : ClientPart). asked_by d p.answers) b.clients (λ e h. asked_one d e h),
    ap (λ l. total (λ (p : ClientPart). asked_by d p.answers) l) b.clients_are,
  )

  pub others_added : (c d : ℕ) → added_else c d the_history.added ≤ asked_of_others c d run.clients
  others_added c d = omega (
    arith,
    b.gathered.a.added (λ (a : Added). cond (eqb a.driver d) (cond (eqb a.client c) 0 a.count) 0),
    b.unites.added (λ (a : Added). cond (eqb a.driver d) (cond (eqb a.client c) 0 a.count) 0),
    sum_le (λ (w : View). added_else c d w.added) (λ (p : ClientPart). cond (eqb p.number c) 0 (asked_by d p.answers)) b.clients (λ e h. else_one c d e h),
    ap (λ l. total (λ (p : ClientPart). cond (eqb p.number c) 0 (asked_by d p.answers)) l) b.clients_are,
  )
