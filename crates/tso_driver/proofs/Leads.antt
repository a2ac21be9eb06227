-- The steps of a lead, of a tick and of a resignation are a driver's call.
use Rattle.std.proofs.Common.{◌≡◌, ℕ, ◌+◌, ◌-◌, ◌*◌, ◌/◌, ◌%◌, ◌<◌, ◌≤◌, ◌⊎◌, eqb, cond, true, false, List, [], ◌∷◌, ◌++◌, sym, refl, ap, ◌∙◌, subst, inl, inr, ⊎_elim, arith, max, ne_eqb}
use Rattle.std.specs.Prelude.{Contains, map, Option, Some, None, option_to_list, nat_lt, nat_le}
use Rattle.std.proofs.lemmas.Bool.{leb-true}
use Rattle.std.proofs.lemmas.List.{append-nil}
use Rattle.std.proofs.lemmas.List.Elements.{Contains-append_left, Contains-push, Contains-push_cases}
use Rattle.pd_types.specs.declared.oracle.CellWord.{CellWord}
use Rattle.pd_types.specs.declared.oracle.Window.{Window}
use Rattle.tso_model.specs.declared.entries.Claim.{Claim}
use Rattle.tso_model.specs.declared.entries.Found.{Found}
use Rattle.tso_model.specs.declared.entries.Published.{Published}
use Rattle.tso_model.specs.declared.view.View.{View}
use Rattle.tso_model.specs.Words.{packed, window, claim, IsOpen}
use Rattle.tso_model.specs.History.{claims, Extends, greatest}
use Rattle.tso_model.specs.Steps.{held, held_or, knows, claimed, new_claim, saves, saved_claim, raised, publishes}
use Rattle.tso_model.specs.Plan.{end_of, past_clock, lead_next, tick_next, saves_for}
use Rattle.tso_model.proofs.Basics.{by_bool, by_eq, by_lt}
use Rattle.tso_driver.specs.declared.said.DriverSaid.{DriverSaid}
use Rattle.tso_driver.specs.declared.said.DriverSaid.TheVariants.{Led, Ticked, Resigned}
use Rattle.tso_driver.specs.declared.reply.LeadReply.TheVariants.{Won, Beaten, Lost as LeadLost, TermsSpent, ClockRange as LeadPast}
use Rattle.tso_driver.specs.declared.reply.TickReply.TheVariants.{Moved, Idle, Lost as TickLost, ClockRange as TickPast, NotLeading}
use Rattle.tso_board.specs.Told.{IsHigher, Rises, given_up, holding}
use Rattle.tso_driver.specs.Driving.{DriverDid, ClaimsGrow, ClaimsTerm, TermsGrow, terms, moved_to}

-- an option has one value
pub some-inj : {A : Type 0} (x y : A) → Some x ≡ Some y → x ≡ y
some-inj {A} x y e = ap or_x e
  where
    or_x : Option A → A
    or_x None = x
    or_x (Some z) = z

-- WINDOWS
grow_same : (old new : View) → claims new ≡ claims old → ClaimsGrow old new
grow_same old new e = record {
  kept = λ c h. (c, subst (λ l. Contains l c) (sym e) h, record { term = refl; driver = refl; lo = λ _. refl; hi = omega arith }, refl);
  back = λ c h. inl (c, subst (λ l. Contains l c) e h, refl);
  own = λ own c h. own c (subst (λ l. Contains l c) e h);
}

grow_more : (old new : View) (x : Claim) → claims new ≡ claims old ++ x ∷ [] → x.window.driver ≡ old.driver → old.cell.term < x.window.term → x.window.term < 262144 → ClaimsGrow old new
grow_more old new x e d low most = record {
  kept = λ c h. (c, subst (λ l. Contains l c) (sym e) (Contains-append_left (claims old) (x ∷ []) c h), record { term = refl; driver = refl; lo = λ _. refl; hi = omega arith }, refl);
  back = λ c h. ⊎_elim
      (λ (z : Contains (claims old) c). inl (c, z, refl))
      (λ (s : x ≡ c). inr (omega (arith, low, ap (λ (y : Claim). y.window.term) s), omega (arith, most, ap (λ (y : Claim). y.window.term) s)))
      (Contains-push_cases (claims old) x c (subst (λ l. Contains l c) e h));
  own = λ own c h. ⊎_elim
      (λ (z : Contains (claims old) c). own c z)
      (λ (s : x ≡ c). sym (ap (λ (y : Claim). y.window.driver) s) ∙ d)
      (Contains-push_cases (claims old) x c (subst (λ l. Contains l c) e h));
}

grow_longer : (old new : View) (more : List Claim) (x y : Claim) → claims old ≡ more ++ x ∷ [] → claims new ≡ more ++ y ∷ [] → Extends x y → y.at ≡ x.at → ClaimsGrow old new
grow_longer old new more x y was now e at = record {
  kept = λ c h. ⊎_elim
      (λ (z : Contains more c). (c, subst (λ l. Contains l c) (sym now) (Contains-append_left more (y ∷ []) c z), record { term = refl; driver = refl; lo = λ _. refl; hi = omega arith }, refl))
      (λ (s : x ≡ c). (y, subst (λ l. Contains l y) (sym now) (Contains-push more y), subst (λ w. Extends w y) s e, at ∙ ap (λ (w : Claim). w.at) s))
      (Contains-push_cases more x c (subst (λ l. Contains l c) was h));
  back = λ c h. ⊎_elim
      (λ (z : Contains more c). inl (c, subst (λ l. Contains l c) (sym was) (Contains-append_left more (x ∷ []) c z), refl))
      (λ (s : y ≡ c). inl (x, subst (λ l. Contains l x) (sym was) (Contains-push more x), sym e.term ∙ ap (λ (w : Claim). w.window.term) s))
      (Contains-push_cases more y c (subst (λ l. Contains l c) now h));
  own = λ own c h. ⊎_elim
      (λ (z : Contains more c). own c (subst (λ l. Contains l c) (sym was) (Contains-append_left more (x ∷ []) c z)))
      (λ (s : y ≡ c). sym (ap (λ (w : Claim). w.window.driver) s) ∙ e.driver ∙ own x (subst (λ l. Contains l x) (sym was) (Contains-push more x)))
      (Contains-push_cases more y c (subst (λ l. Contains l c) now h));
}

-- TERMS
terms_append : (xs ys : List Claim) → map (λ (c : Claim). c.window.term) (xs ++ ys) ≡ map (λ (c : Claim). c.window.term) xs ++ map (λ (c : Claim). c.window.term) ys
terms_append [] ys = refl
terms_append (x ∷ xs) ys = λ i. x.window.term ∷ terms_append xs ys i

-- no term was claimed
none_claimed : (said : DriverSaid) (old new : View) → ClaimsTerm said None → claims new ≡ claims old → TermsGrow said old new
none_claimed said old new told e = record { claimed = None; told = told; grown = ap (map (λ (c : Claim). c.window.term)) e ∙ sym (append-nil (terms old)); later = λ t z. absurd (cc z) }

-- this term was claimed
one_claimed : (said : DriverSaid) (old new : View) (x : Claim) → ClaimsTerm said (Some x.window.term) → claims new ≡ claims old ++ x ∷ [] → old.cell.term < x.window.term → x.window.term ≤ new.cell.term → TermsGrow said old new
one_claimed said old new x told e low high = record {
  claimed = Some x.window.term;
  told = told;
  grown = ap (map (λ (c : Claim). c.window.term)) e ∙ terms_append (claims old) (x ∷ []);
  later = λ t z. let same = some-inj x.window.term t z in (omega (arith, low, same), omega (arith, high, same));
}

-- the last window was made longer
longer_claimed : (said : DriverSaid) (old new : View) (more : List Claim) (x y : Claim) → ClaimsTerm said None → claims old ≡ more ++ x ∷ [] → claims new ≡ more ++ y ∷ [] → y.window.term ≡ x.window.term → TermsGrow said old new
longer_claimed said old new more x y told was now e = record {
  claimed = None;
  told = told;
  grown = ap (map (λ (c : Claim). c.window.term)) now ∙ terms_append more (y ∷ []) ∙ (λ i. map (λ (c : Claim). c.window.term) more ++ e i ∷ []) ∙ sym (terms_append more (x ∷ [])) ∙ ap (map (λ (c : Claim). c.window.term)) (sym was) ∙ sym (append-nil (terms old));
  later = λ t z. absurd (cc z);
}

published_more : (v : View) (d word : ℕ) (P : ℕ → Type 0) → P word → v.driver ≡ d → (p : Published) → Contains (v.published ++ record { driver = v.driver; word = word } ∷ []) p → Contains v.published p ⊎ ((p.driver ≡ d) × P p.word)
published_more v d word P is same p h = ⊎_elim
    (λ (z : Contains v.published p). inl z)
    (λ (s : record { driver = v.driver; word = word } ≡ p). inr (sym (ap (λ (x : Published). x.driver) s) ∙ same, subst P (ap (λ (x : Published). x.word) s) is))
    (Contains-push_cases v.published (record { driver = v.driver; word = word }) p h)

-- A LEAD
module _ (now : ℕ) (v : View) (cell : CellWord) (rises : Rises v.cell cell) where
  -- all terms are spent
  pub led_spent : cell.term ≡ 262143 → DriverDid (Led now TermsSpent) v (knows cell v)
  led_spent e = record {
    driver = refl;
    opening = refl;
    term = rises.term;
    saved = rises.saved;
    windows = grow_same v (knows cell v) refl;
    claimed = none_claimed (Led now TermsSpent) v (knows cell v) refl refl;
    starts = sym (append-nil v.starts);
    founds = λ x h. h;
    published = λ p h. inl h;
    holds = refl;
    told = omega (arith, e);
  }

  -- the moment is past the clock
  pub led_past : past_clock (lead_next cell.saved now) ≡ true → DriverDid (Led now LeadPast) v (knows cell v)
  led_past e = record {
    driver = refl;
    opening = refl;
    term = rises.term;
    saved = rises.saved;
    windows = grow_same v (knows cell v) refl;
    claimed = none_claimed (Led now LeadPast) v (knows cell v) refl refl;
    starts = sym (append-nil v.starts);
    founds = λ x h. h;
    published = λ p h. inl h;
    holds = refl;
    told = e;
  }

  -- the campaign found another cell
  pub led_beaten : (found : CellWord) → Rises cell found → IsHigher (knows cell v) found.term → DriverDid (Led now (Beaten found)) v (knows found v)
  led_beaten found more above = record {
    driver = refl;
    opening = refl;
    term = omega (arith, rises.term, more.term);
    saved = omega (arith, rises.saved, more.saved);
    windows = grow_same v (knows found v) refl;
    claimed = none_claimed (Led now (Beaten found)) v (knows found v) refl refl;
    starts = sym (append-nil v.starts);
    founds = λ x h. h;
    published = λ p h. inl h;
    holds = refl;
    told = record { higher = above; known = omega arith };
  }

  abbrev has_claimed : View
  has_claimed = claimed (knows cell v)

  -- the save found another cell
  pub led_lost : (found : CellWord) → cell.term < 262143 → Rises (record { saved = cell.saved; term = cell.term + 1 }) found → IsHigher has_claimed found.term → DriverDid (Led now (LeadLost found)) v (given_up (knows found has_claimed))
  led_lost found low more above = record {
    driver = refl;
    opening = refl;
    term = omega (arith, rises.term, more.term);
    saved = omega (arith, rises.saved, more.saved);
    windows = grow_more v (given_up (knows found has_claimed)) (new_claim (knows cell v)) refl refl (omega (arith, rises.term)) (omega (arith, low));
    claimed = one_claimed (Led now (LeadLost found)) v (given_up (knows found has_claimed)) (new_claim (knows cell v)) (cell.term + 1, refl) refl (omega (arith, rises.term)) (omega (arith, more.term));
    starts = sym (append-nil v.starts);
    founds = λ x h. h;
    published = published_more v v.driver 0 (λ w. w ≡ 0) refl refl;
    holds = refl;
    told = record { higher = above; known = omega arith };
  }

  -- the start and the end that a lead saves
  abbrev next : ℕ
  next = lead_next cell.saved now

  abbrev won_claim : Claim
  won_claim = saved_claim (end_of next) (new_claim (knows cell v))

  pub won_lo : cond (eqb cell.saved cell.saved) (max (next + 3000 - 3000) cell.saved) cell.saved ≡ next
  won_lo = by_eq (λ b. cond b (max (next + 3000 - 3000) cell.saved) cell.saved ≡ next) cell.saved cell.saved (λ _. omega arith) (λ ne. absurd (ne refl))

  won_is : won_claim ≡ claim (window (cell.term + 1) v.driver next (end_of next)) cell.saved
  won_is = λ i. claim (window (cell.term + 1) v.driver (won_lo i) (end_of next)) cell.saved

  abbrev has_saved : View
  has_saved = saves (end_of next) has_claimed has_claimed.latest

  abbrev has_raised : ℕ → View
  has_raised cursor = raised (next * 262144) cursor has_saved

  -- the term was won
  pub led_won : (cursor : ℕ) → cell.term < 262143 → DriverDid (Led now (Won (cell.term + 1) next (end_of next))) v (publishes (packed (held (has_raised cursor)).hi (held (has_raised cursor)).term) (has_raised cursor))
  led_won cursor low = record {
    driver = refl;
    opening = refl;
    term = omega (arith, rises.term);
    saved = omega (arith, rises.saved);
    windows = grow_more v (publishes (packed (end_of next) (cell.term + 1)) (has_raised cursor)) won_claim refl refl (omega (arith, rises.term)) (omega (arith, low));
    claimed = one_claimed (Led now (Won (cell.term + 1) next (end_of next))) v (publishes (packed (end_of next) (cell.term + 1)) (has_raised cursor)) won_claim refl refl (omega (arith, rises.term)) (omega arith);
    starts = by_eq (λ b. cond b v.starts (v.starts ++ record { driver = v.driver; at = next * 262144 } ∷ []) ≡ v.starts ++ record { driver = v.driver; at = next * 262144 } ∷ []) (next * 262144) 0 (λ e. absurd (omega (arith, e))) (λ _. refl);
    founds = λ x h. Contains-append_left v.founds (record { driver = v.driver; cursor = cursor; start = greatest v.driver v.starts } ∷ []) x h;
    published = published_more v v.driver (packed (end_of next) (cell.term + 1)) (λ w. w ≡ packed (end_of next) (cell.term + 1)) refl refl;
    holds = ap (λ (c : Claim). Some c.window) won_is;
    told = record { saved = cell.saved; stands = subst (Contains (claims v ++ won_claim ∷ [])) won_is (Contains-push (claims v) won_claim); plan = (refl, refl) };
  }

-- A TICK
next_some : (cursor hi now next : ℕ) → tick_next cursor hi now ≡ Some next → 0 < next
next_some cursor hi now next = by_lt (λ a. cond a (Some now) (cond (nat_lt 131072 (cursor % 262144)) (Some (cursor / 262144 + 1)) (cond (nat_le hi (cursor / 262144)) (Some (cursor / 262144 + 1)) None)) ≡ Some next → 0 < next) 1 (now - cursor / 262144)
    (λ lt e. omega (arith, lt, some-inj now next e))
    (λ _. by_bool (λ a. cond a (Some (cursor / 262144 + 1)) (cond (nat_le hi (cursor / 262144)) (Some (cursor / 262144 + 1)) None) ≡ Some next → 0 < next) (nat_lt 131072 (cursor % 262144))
    (λ _ e. omega (arith, some-inj (cursor / 262144 + 1) next e))
    (λ _. by_bool (λ a. cond a (Some (cursor / 262144 + 1)) None ≡ Some next → 0 < next) (nat_le hi (cursor / 262144))
    (λ _ e. omega (arith, some-inj (cursor / 262144 + 1) next e))
    (λ _ e. absurd (cc e))))

module _ (now : ℕ) (v : View) where
  -- the cursor was read
  abbrev probed : ℕ → View
  probed cursor = raised 0 cursor v

  abbrev the_found : ℕ → Found
  the_found cursor = record { driver = v.driver; cursor = cursor; start = greatest v.driver v.starts }

  holding_is : v.holds ≡ true → holding v ≡ Some (held v)
  holding_is e = ap (λ b. cond b (Some (held v)) None) e

  -- no term is held
  pub not_leading : v.holds ≡ false → DriverDid (Ticked now NotLeading) v v
  not_leading e = record {
    driver = refl;
    opening = refl;
    term = omega arith;
    saved = omega arith;
    windows = grow_same v v refl;
    claimed = none_claimed (Ticked now NotLeading) v v refl refl;
    starts = sym (append-nil v.starts);
    founds = λ x h. h;
    published = λ p h. inl h;
    holds = refl;
    told = ap (λ b. cond b (Some (held v)) None) e;
  }

  pub not_resigned : v.holds ≡ false → DriverDid (Resigned false) v v
  not_resigned e = record {
    driver = refl;
    opening = refl;
    term = omega arith;
    saved = omega arith;
    windows = grow_same v v refl;
    claimed = none_claimed (Resigned false) v v refl refl;
    starts = sym (append-nil v.starts);
    founds = λ x h. h;
    published = λ p h. inl h;
    holds = refl;
    told = ap (λ b. cond b (Some (held v)) None) e;
  }

  pub resigned : v.holds ≡ true → DriverDid (Resigned true) v (given_up v)
  resigned e = record {
    driver = refl;
    opening = refl;
    term = omega arith;
    saved = omega arith;
    windows = grow_same v (given_up v) refl;
    claimed = none_claimed (Resigned true) v (given_up v) refl refl;
    starts = sym (append-nil v.starts);
    founds = λ x h. h;
    published = published_more v v.driver 0 (λ w. w ≡ 0) refl refl;
    holds = refl;
    told = (held v, holding_is e);
  }

  module _ (leads : v.holds ≡ true) (cursor : ℕ) where
    -- there is nothing to do
    pub ticked_idle : tick_next cursor (held v).hi now ≡ None → DriverDid (Ticked now Idle) v (probed cursor)
    ticked_idle e = record {
      driver = refl;
      opening = refl;
      term = omega arith;
      saved = omega arith;
      windows = grow_same v (probed cursor) refl;
      claimed = none_claimed (Ticked now Idle) v (probed cursor) refl refl;
      starts = sym (append-nil v.starts);
      founds = λ x h. Contains-append_left v.founds (the_found cursor ∷ []) x h;
      published = λ p h. inl h;
      holds = refl;
      told = record { window = held v; held_is = holding_is leads; cursor = cursor; found = Contains-push v.founds (the_found cursor); plan = e };
    }

    -- the new end is past the clock
    pub ticked_past : (next : ℕ) → tick_next cursor (held v).hi now ≡ Some next → saves_for next (held v).hi ≡ true → past_clock next ≡ true → DriverDid (Ticked now TickPast) v (probed cursor)
    ticked_past next e s p = record {
      driver = refl;
      opening = refl;
      term = omega arith;
      saved = omega arith;
      windows = grow_same v (probed cursor) refl;
      claimed = none_claimed (Ticked now TickPast) v (probed cursor) refl refl;
      starts = sym (append-nil v.starts);
      founds = λ x h. Contains-append_left v.founds (the_found cursor ∷ []) x h;
      published = λ p h. inl h;
      holds = refl;
      told = record { window = held v; held_is = holding_is leads; cursor = cursor; found = Contains-push v.founds (the_found cursor); plan = (next, e, s, p) };
    }

    -- the cursor was raised, and no end was saved
    pub ticked_moved : (next again : ℕ) → tick_next cursor (held v).hi now ≡ Some next → saves_for next (held v).hi ≡ false → DriverDid (Ticked now (Moved next (held v).hi)) v (raised (next * 262144) again (probed cursor))
    ticked_moved next again e s = record {
      driver = refl;
      opening = refl;
      term = omega arith;
      saved = omega arith;
      windows = grow_same v (raised (next * 262144) again (probed cursor)) refl;
      claimed = none_claimed (Ticked now (Moved next (held v).hi)) v (raised (next * 262144) again (probed cursor)) refl refl;
      starts = by_eq (λ b. cond b v.starts (v.starts ++ record { driver = v.driver; at = next * 262144 } ∷ []) ≡ v.starts ++ record { driver = v.driver; at = next * 262144 } ∷ []) (next * 262144) 0 (λ z. absurd (omega (arith, z, next_some cursor (held v).hi now next e))) (λ _. refl);
      founds = λ x h. Contains-append_left (v.founds ++ the_found cursor ∷ []) (the_found again ∷ []) x (Contains-append_left v.founds (the_found cursor ∷ []) x h);
      published = λ p h. inl h;
      holds = ap (λ b. cond b (Some (held v)) None) leads ∙ sym (ap (moved_to (held v).hi) (holding_is leads));
      told = record {
        window = held v;
        held_is = holding_is leads;
        cursor = cursor;
        found = Contains-append_left (v.founds ++ the_found cursor ∷ []) (the_found again ∷ []) (the_found cursor) (Contains-push v.founds (the_found cursor));
        plan = (e, sym (ap (λ b. cond b (end_of next) (held v).hi) s), λ t. absurd (cc (s, t)));
      };
    }

    -- the save found another cell
    pub ticked_lost : (next : ℕ) (found : CellWord) → tick_next cursor (held v).hi now ≡ Some next → saves_for next (held v).hi ≡ true → past_clock next ≡ false → Rises v.cell found → IsHigher (probed cursor) found.term
        → DriverDid (Ticked now (TickLost found)) v (given_up (knows found (probed cursor)))
    ticked_lost next found e s p more above = record {
      driver = refl;
      opening = refl;
      term = more.term;
      saved = more.saved;
      windows = grow_same v (given_up (knows found (probed cursor))) refl;
      claimed = none_claimed (Ticked now (TickLost found)) v (given_up (knows found (probed cursor))) refl refl;
      starts = sym (append-nil v.starts);
      founds = λ x h. Contains-append_left v.founds (the_found cursor ∷ []) x h;
      published = published_more v v.driver 0 (λ w. w ≡ 0) refl refl;
      holds = refl;
      told = (
        record { window = held v; held_is = holding_is leads; cursor = cursor; found = Contains-push v.founds (the_found cursor); plan = (next, e, s, p) },
        record { higher = above; known = omega arith },
      );
    }

    -- the end was saved, the cursor raised, and the limit published
    module _ (c : Claim) (own : v.latest ≡ Some c) (open_is : IsOpen c.window) where
      held_is : held v ≡ c.window
      held_is = ap held_or own

      abbrev longer : ℕ → Claim
      longer next = saved_claim (end_of next) c

      abbrev saved_to : ℕ → View
      saved_to next = saves (end_of next) (probed cursor) (Some c)

      lo_stays : (next : ℕ) → (longer next).window.lo ≡ c.window.lo
      lo_stays next = ap (λ b. cond b (max (end_of next - 3000) c.window.hi) c.window.lo) (ne_eqb c.window.lo c.window.hi (λ e. omega (arith, e, open_is)))

      pub ticked_saved : (next again : ℕ) → tick_next cursor (held v).hi now ≡ Some next → saves_for next (held v).hi ≡ true → past_clock next ≡ false → Rises v.cell (record { saved = c.window.hi; term = c.window.term })
          → DriverDid (Ticked now (Moved next (end_of next))) v (publishes (packed (end_of next) c.window.term) (raised (next * 262144) again (saved_to next)))
      ticked_saved next again e s p more =
          let ends = leb-true ((held v).hi - next) 1 s in
          let hi_is : (held v).hi ≡ c.window.hi = ap (λ (w : Window). w.hi) held_is in
          let last : View = publishes (packed (end_of next) c.window.term) (raised (next * 262144) again (saved_to next)) in
          let mine : holding v ≡ Some c.window = holding_is leads ∙ ap (λ w. Some w) held_is in
          record {
            driver = refl;
            opening = refl;
            term = more.term;
            saved = omega (arith, more.saved, ends, hi_is);
            windows = grow_longer v last v.older c (longer next) (ap (λ o. v.older ++ option_to_list o) own) refl (record { term = refl; driver = refl; lo = λ _. lo_stays next; hi = omega (arith, ends, hi_is) }) refl;
            claimed = longer_claimed (Ticked now (Moved next (end_of next))) v last v.older c (longer next) refl (ap (λ o. v.older ++ option_to_list o) own) refl refl;
            starts = by_eq (λ b. cond b v.starts (v.starts ++ record { driver = v.driver; at = next * 262144 } ∷ []) ≡ v.starts ++ record { driver = v.driver; at = next * 262144 } ∷ []) (next * 262144) 0 (λ z. absurd (omega (arith, z, next_some cursor (held v).hi now next e))) (λ _. refl);
            founds = λ x h. Contains-append_left (v.founds ++ the_found cursor ∷ []) (the_found again ∷ []) x (Contains-append_left v.founds (the_found cursor ∷ []) x h);
            published = published_more v v.driver (packed (end_of next) c.window.term) (λ w. (x : Window) × (holding v ≡ Some x) × (w ≡ packed (end_of next) x.term)) (c.window, mine, refl) refl;
            holds = ap (λ b. cond b (Some (longer next).window) None) leads ∙ (λ i. Some (window c.window.term c.window.driver (lo_stays next i) (end_of next))) ∙ sym (ap (moved_to (end_of next)) mine);
            told = record {
              window = held v;
              held_is = holding_is leads;
              cursor = cursor;
              found = Contains-append_left (v.founds ++ the_found cursor ∷ []) (the_found again ∷ []) (the_found cursor) (Contains-push v.founds (the_found cursor));
              plan = (e, sym (ap (λ b. cond b (end_of next) (held v).hi) s), λ _. p);
            };
          }
