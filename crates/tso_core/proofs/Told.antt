-- Leaving and hearing a note keep the invariant.
use Rattle.std.proofs.Common.{◌≡◌, ◌≢◌, ℕ, ◌+◌, ◌<◌, ◌≤◌, max, cond, eqb, List, [], ◌∷◌, ◌++◌, length, get_or, set, refl, sym, ap, subst, ◌∙◌, arith, length-append}
use Rattle.std.proofs.lemmas.List.{get_or-set_same, get_or-set_other, set-get_or}
use Rattle.std.proofs.Math.ListN.{length-set, get_or-append}
use Rattle.std.proofs.Math.Seq.{get_or-append_seam}
use mathlib.Core.Logic.{dite}
use native.Mathlib.Decide.{ℕ_discrete, dec_le}
use Rattle.pd_types.specs.declared.oracle.CellWord.{CellWord}
use Rattle.tso_model.specs.declared.view.View.{View}
use Rattle.tso_model.specs.Lists.{times}
use Rattle.tso_model.specs.Ledger.{Recorded}
use Rattle.tso_model.specs.Moves.{blank, spent_view, new_note, joined, joined_cell, upper}
use Rattle.tso_model.proofs.Basics.{by_eq}
use Rattle.tso_model.proofs.ListAt.{set_else}
use Rattle.tso_model.proofs.Moves.{splits_note}
use Rattle.tso_model.proofs.Joins.{joins}
use Rattle.tso_model.proofs.Sums.{total-append, total-set}
use Rattle.tso_core.specs.declared.reply.Due.TheVariants.{Rest}
use Rattle.tso_core.specs.Whole.{Whole, place_of_client, view_at, turn_at, post_at}
use Rattle.tso_core.specs.Steps.{due_at}
use Rattle.tso_core.specs.Notes.{note_left, note_met}
use Rattle.tso_core.specs.Sound.{DriverFits, IsClient, IsNote, IsSound, waiting}
use Rattle.tso_core.proofs.Drawn.{own, inside, fits_a, resting}
use Rattle.tso_core.proofs.Places.{at_get}

-- a post that is replaced, counted
post_set : (id c : ℕ) (posts : List (List ℕ)) (post : List ℕ) → c < length posts → waiting id (set posts c post) + times id (get_or posts c []) ≡ waiting id posts + times id post
post_set id c posts post within = total-set (λ (p : List ℕ). times id p) posts c (get_or posts c []) post (at_get posts c [] within)

one_time : (id n : ℕ) → id ≡ n → times id (n ∷ []) ≡ 1
one_time id n same = by_eq (λ b. cond b 1 0 + 0 ≡ 1) n id (λ _. omega arith) (λ apart. absurd (apart (sym same)))

no_time : (id n : ℕ) → id ≢ n → times id (n ∷ []) ≡ 0
no_time id n apart = by_eq (λ b. cond b 1 0 + 0 ≡ 0) n id (λ same. absurd (apart (sym same))) (λ _. omega arith)

times_more : (id n : ℕ) (post : List ℕ) → times id (post ++ n ∷ []) ≡ times id post + times id (n ∷ [])
times_more id n post = total-append (λ x. cond (eqb x id) 1 0) post (n ∷ [])

module _ (w : Whole) (s : IsSound w) (c : ℕ) (pos : 0 < c) (low : c ≤ w.setup.clients) where
  place : ℕ
  place = place_of_client w c

  module _ (to : ℕ) (to_low : to ≤ w.setup.clients) where
    left_post : (id : ℕ) → waiting id (note_left w c to).posts ≡ waiting id w.posts + times id (length w.views ∷ [])
    left_post id = omega (arith, post_set id to w.posts (post_at w to ++ length w.views ∷ []) (omega (arith, s.posts, to_low)), times_more id (length w.views) (post_at w to))

    pub old_view : (id : ℕ) → id < length w.views → get_or (w.views ++ new_note (view_at w (place_of_client w c)) ∷ []) id spent_view ≡ view_at w id
    old_view id within = get_or-append w.views (new_note (view_at w (place_of_client w c)) ∷ []) spent_view id within

    pub new_view : (id : ℕ) → id ≡ length w.views → get_or (w.views ++ new_note (view_at w (place_of_client w c)) ∷ []) id spent_view ≡ new_note (view_at w (place_of_client w c))
    new_view id same = ap (λ (m : ℕ). get_or (w.views ++ new_note (view_at w (place_of_client w c)) ∷ []) m spent_view) same ∙ get_or-append_seam w.views (new_note (view_at w (place_of_client w c))) [] spent_view

    longer : length (w.views ++ new_note (view_at w (place_of_client w c)) ∷ []) ≡ length w.views + 1
    longer = omega (arith, length-append w.views (new_note (view_at w (place_of_client w c)) ∷ []))

    none_yet : waiting (length w.views) w.posts ≡ 0
    none_yet = dite (dec_le (waiting (length w.views) w.posts) 0) (λ few. omega arith) (λ many. absurd (let note = s.notes (length w.views) (omega arith) in omega (arith, note.inside)))

    left_note : (id : ℕ) → 0 < waiting id (note_left w c to).posts → IsNote w.setup (note_left w c to).views id
    left_note id waits = dite (ℕ_discrete id (length w.views))
        (λ same.
        let is = new_view id same in record {
          behind = omega (arith, s.wide, same);
          inside = omega (arith, longer, same);
          copy = is ∙ ap (λ (x : CellWord). record (blank x) { seen = (view_at w (place_of_client w c)).seen }) (fits_a w s c pos low).opening
              ∙ sym (ap (λ (v : View). record (blank w.setup.cell) { seen = v.seen }) is);
        })
        (λ apart.
        let note = s.notes id (omega (arith, left_post id, no_time id (length w.views) apart, waits)) in record {
          behind = note.behind;
          inside = omega (arith, longer, note.inside);
          copy = subst (λ (v : View). v ≡ record (blank w.setup.cell) { seen = v.seen }) (sym (old_view id note.inside)) note.copy;
        })

    pub told_sound : IsSound (note_left w c to)
    told_sound = record {
      recorded = subst (λ (l : List View). Recorded w.setup w.words (l ++ new_note (view_at w (place_of_client w c)) ∷ []) w.windows w.batches) (set-get_or w.views (place_of_client w c) spent_view)
          (splits_note w.setup w.words w.views (place_of_client w c) (view_at w (place_of_client w c)) w.windows w.batches s.recorded (at_get w.views (place_of_client w c) spent_view (inside w s c pos low)) (own w s c pos low).live);
      wide = omega (arith, s.wide, longer);
      turns = s.turns;
      posts = length-set w.posts to (post_at w to ++ length w.views ∷ []) ∙ s.posts;
      drivers = λ e e_pos e_low. subst (λ (v : View). DriverFits e (turn_at w e) v) (sym (old_view e (omega (arith, s.wide, e_low)))) (s.drivers e e_pos e_low);
      clients = λ e e_pos e_low. subst (λ (v : View). IsClient w.setup e v) (sym (old_view (w.setup.drivers + e) (omega (arith, s.wide, e_low)))) (s.clients e e_pos e_low);
      notes = left_note;
      once = λ id. dite (ℕ_discrete id (length w.views))
          (λ same. omega (arith, left_post id, one_time id (length w.views) same, ap (λ (m : ℕ). waiting m w.posts) same, none_yet))
          (λ apart. omega (arith, left_post id, no_time id (length w.views) apart, s.once id));
    }

  -- the cell of a client stays the opening one
  same_upper : (x : CellWord) → upper x x ≡ x
  same_upper x = λ i. record { saved = same_max x.saved i; term = same_max x.term i }
    where
      same_max : (n : ℕ) → max n n ≡ n
      same_max n = omega arith

  met_cell : (v m : View) → v.driver ≡ 0 → v.cell ≡ w.setup.cell → m.cell ≡ w.setup.cell → joined_cell v m ≡ w.setup.cell
  met_cell v m none mine theirs = by_eq (λ b. cond b (upper v.cell m.cell) v.cell ≡ w.setup.cell) v.driver 0
      (λ _. ap (λ (x : CellWord). upper x m.cell) mine ∙ ap (λ (x : CellWord). upper w.setup.cell x) theirs ∙ same_upper w.setup.cell) (λ apart. absurd (apart none))

  module _ (note : ℕ) (rest : List ℕ) (waits : post_at w c ≡ note ∷ rest) (due : due_at w c ≡ Rest) where
    mine : View
    mine = view_at w (place_of_client w c)

    theirs : View
    theirs = view_at w note

    in_posts : c < length w.posts
    in_posts = omega (arith, s.posts, low)

    head_counts : (id : ℕ) → waiting id (set w.posts c rest) + times id (note ∷ []) ≡ waiting id w.posts
    head_counts id = omega (arith, post_set id c w.posts rest in_posts, ap (λ (p : List ℕ). times id p) waits)

    pub is_note : IsNote w.setup w.views note
    is_note = s.notes note (omega (arith, head_counts note, one_time note note refl))

    met : View
    met = joined (view_at w (place_of_client w c)) (view_at w note)

    pub apart_place : note ≢ place_of_client w c
    apart_place same = omega (arith, is_note.behind, same, low)

    met_views : List View
    met_views = set (set w.views (place_of_client w c) (joined (view_at w (place_of_client w c)) (view_at w note))) note spent_view

    pub else_view : (id : ℕ) → id ≢ note → id ≢ place_of_client w c → get_or (note_met w c note rest).views id spent_view ≡ view_at w id
    else_view id n_note n_place = get_or-set_other (set w.views (place_of_client w c) (joined (view_at w (place_of_client w c)) (view_at w note))) note id spent_view spent_view n_note
        ∙ get_or-set_other w.views (place_of_client w c) id (joined (view_at w (place_of_client w c)) (view_at w note)) spent_view n_place

    pub own_view : get_or (note_met w c note rest).views (place_of_client w c) spent_view ≡ joined (view_at w (place_of_client w c)) (view_at w note)
    own_view = get_or-set_other (set w.views (place_of_client w c) (joined (view_at w (place_of_client w c)) (view_at w note))) note (place_of_client w c) spent_view spent_view (λ same. apart_place (sym same))
        ∙ get_or-set_same w.views (place_of_client w c) (joined (view_at w (place_of_client w c)) (view_at w note)) spent_view (inside w s c pos low)

    still_client : IsClient w.setup c (joined (view_at w (place_of_client w c)) (view_at w note))
    still_client =
        let self = own w s c pos low in record {
          live = self.live;
          client = self.client;
          driver = self.driver;
          cell = met_cell (view_at w (place_of_client w c)) (view_at w note) self.driver self.cell (ap (λ (v : View). v.cell) is_note.copy);
          quota = omega (arith, self.quota, ap (λ (v : View). v.quota) is_note.copy);
        }

    pub not_note : (id : ℕ) → 0 < waiting id (set w.posts c rest) → id ≢ note
    not_note id more same = omega (arith, head_counts id, one_time id note same, s.once id, more)

    pub heard_sound : IsSound (note_met w c note rest)
    heard_sound = record {
      recorded = joins w.setup w.words w.views (place_of_client w c) note (view_at w (place_of_client w c)) (view_at w note) w.windows w.batches s.recorded (own w s c pos low).live (ap (λ (v : View). v.spent) is_note.copy) (resting w s c pos low due)
          (at_get w.views (place_of_client w c) spent_view (inside w s c pos low)) apart_place (set_else w.views (place_of_client w c) note (joined (view_at w (place_of_client w c)) (view_at w note)) apart_place ∙ at_get w.views note spent_view is_note.inside);
      wide = omega (arith, s.wide, length-set (set w.views (place_of_client w c) (joined (view_at w (place_of_client w c)) (view_at w note))) note spent_view, length-set w.views (place_of_client w c) (joined (view_at w (place_of_client w c)) (view_at w note)));
      turns = s.turns;
      posts = length-set w.posts c rest ∙ s.posts;
      drivers = λ e e_pos e_low. subst (λ (v : View). DriverFits e (turn_at w e) v) (sym (else_view e (λ same. omega (arith, is_note.behind, same, e_low)) (λ same. omega (arith, same, e_low, pos)))) (s.drivers e e_pos e_low);
      clients = λ e e_pos e_low. dite (ℕ_discrete e c)
          (λ same. subst (λ (x : ℕ). IsClient w.setup x (get_or (note_met w c note rest).views (w.setup.drivers + x) spent_view)) (sym same) (subst (λ (v : View). IsClient w.setup c v) (sym own_view) still_client))
          (λ apart. subst (λ (v : View). IsClient w.setup e v) (sym (else_view (w.setup.drivers + e) (λ same. omega (arith, is_note.behind, same, e_low)) (λ same. apart (omega (arith, same))))) (s.clients e e_pos e_low));
      notes = λ id more.
          let old = s.notes id (omega (arith, head_counts id, more)) in
          let same = else_view id (not_note id more) (λ same. omega (arith, old.behind, same, low)) in record {
            behind = old.behind;
            inside = omega (arith, old.inside, length-set (set w.views (place_of_client w c) (joined (view_at w (place_of_client w c)) (view_at w note))) note spent_view, length-set w.views (place_of_client w c) (joined (view_at w (place_of_client w c)) (view_at w note)));
            copy = subst (λ (v : View). v ≡ record (blank w.setup.cell) { seen = v.seen }) (sym same) old.copy;
          };
      once = λ id. omega (arith, head_counts id, s.once id);
    }
