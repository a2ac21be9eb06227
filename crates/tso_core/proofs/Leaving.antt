-- A state after a note was left or heard, put together from its parts.
use Rattle.std.proofs.Common.{◌≡◌, ℕ, ◌+◌, max, cond, List, [], ◌∷◌, ◌++◌, refl, sym, ap, ◌∙◌, arith}
use Rattle.std.proofs.lemmas.List.{append-nil}
use Rattle.std.specs.Prelude.{length, slice_set, Result, Ok, Err, OnErr}
use Rattle.pd_types.specs.declared.oracle.CellWord.{CellWord}
use Rattle.tso_model.specs.declared.view.View.{View}
use Rattle.tso_model.specs.Moves.{blank, spent_view, new_note, joined, joined_cell, upper}
use Rattle.tso_model.proofs.Basics.{by_eq}
use Rattle.tso_core.specs.Ready.{heard}
use Rattle.tso_core.specs.Whole.{Whole, place_of_client, view_at, post_at}
use Rattle.tso_core.specs.Notes.{note_left, note_met}

-- a fact that holds anyhow, where want of memory is told
pub always_err : {T E P : Type 0} (r : Result T E) → P → OnErr r P
always_err (Ok x) p = tt
always_err (Err e) p = p

pub left_is : (w : Whole) (from to n : ℕ) (views : List View) (posts : List (List ℕ)) (v : View) (post : List ℕ)
    → views ≡ w.views ++ v ∷ [] → v ≡ new_note (view_at w (place_of_client w from)) → posts ≡ slice_set w.posts to (post ++ n ∷ []) → post ≡ post_at w to → n ≡ length w.views
    → (let x : Whole = record w { views = views; posts = posts } in x) ≡ note_left w from to
left_is w from to n views posts v post views_are view_is posts_are post_is last =
    let vs : views ≡ w.views ++ new_note (view_at w (place_of_client w from)) ∷ [] = views_are ∙ ap (λ (u : View). w.views ++ u ∷ []) view_is in
    let ps : posts ≡ slice_set w.posts to (post_at w to ++ length w.views ∷ []) = posts_are ∙ ap (λ (p : List ℕ). slice_set w.posts to (p ++ n ∷ [])) post_is ∙ ap (λ (m : ℕ). slice_set w.posts to (post_at w to ++ m ∷ [])) last in
    λ i. record w { views = vs i; posts = ps i }

same_upper : (x : CellWord) → upper x x ≡ x
same_upper x = λ i. record { saved = same_max x.saved i; term = same_max x.term i }
  where
    same_max : (n : ℕ) → max n n ≡ n
    same_max n = omega arith

-- a note joined into a view that knows the opening cell alone adds its pair
pub heard_is : (v u : View) (cell : CellWord) → v.driver ≡ 0 → v.cell ≡ cell → u ≡ record (blank cell) { seen = u.seen } → joined v u ≡ heard u.seen v
heard_is v u cell none knows note = ap (λ (x : View). joined v x) note ∙ (λ i. record (heard u.seen v) {
  cell = cell_is i;
  give_drivers = append-nil v.give_drivers i;
  give_clients = append-nil v.give_clients i;
  founds = append-nil v.founds i;
  starts = append-nil v.starts i;
  published = append-nil v.published i;
  quota = quota_is i;
  grants = append-nil v.grants i;
  looks = append-nil v.looks i;
  refusals = append-nil v.refusals i;
  added = append-nil v.added i;
})
  where
    quota_is : v.quota + 0 ≡ v.quota
    quota_is = omega arith

    cell_is : joined_cell v (record (blank cell) { seen = u.seen }) ≡ v.cell
    cell_is = by_eq (λ b. cond b (upper v.cell cell) v.cell ≡ v.cell) v.driver 0
        (λ _. ap (λ (x : CellWord). upper x cell) knows ∙ same_upper cell ∙ sym knows) (λ apart. refl)

pub met_is : (w : Whole) (c note : ℕ) (rest : List ℕ) (views : List View) (posts : List (List ℕ)) (v : View)
    → views ≡ slice_set (slice_set w.views (place_of_client w c) v) note spent_view → v ≡ joined (view_at w (place_of_client w c)) (view_at w note) → posts ≡ slice_set w.posts c rest
    → (let x : Whole = record w { views = views; posts = posts } in x) ≡ note_met w c note rest
met_is w c note rest views posts v views_are view_is posts_are =
    let vs : views ≡ slice_set (slice_set w.views (place_of_client w c) (joined (view_at w (place_of_client w c)) (view_at w note))) note spent_view = views_are ∙ ap (λ (u : View). slice_set (slice_set w.views (place_of_client w c) u) note spent_view) view_is in
    λ i. record w { views = vs i; posts = posts_are i }
