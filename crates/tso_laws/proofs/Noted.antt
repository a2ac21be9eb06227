-- Notes are heard in the order in which they were told, each once.
use Rattle.std.proofs.Common.{◌≡◌, ◌≢◌, ℕ, ◌<◌, ◌≤◌, Bool, true, cond, List, [], ◌∷◌, ◌++◌, map, length, get_or, set, refl, sym, ap, subst, ◌∙◌, arith, eq-eqb}
use Rattle.std.proofs.lemmas.List.{get_or-set_same, get_or-set_other, map-append}
use Rattle.std.proofs.Math.ListN.{length-set}
use Rattle.pd_types.specs.declared.oracle.Seen.{Seen}
use Rattle.tso_model.specs.declared.view.View.{View}
use Rattle.tso_model.specs.Lists.{times}
use Rattle.tso_model.proofs.Sums.{term_le}
use Rattle.tso_core.specs.declared.reply.Due.TheVariants.{Rest}
use Rattle.tso_core.specs.declared.reply.Reply.TheVariants.{Told, Heard, Nothing}
use Rattle.tso_core.specs.Whole.{Whole, place_of_client, view_at, post_at}
use Rattle.tso_core.specs.Steps.{Stepped, out_of_turn, due_at}
use Rattle.tso_core.specs.Due.{same_due}
use Rattle.tso_core.specs.Notes.{tell_of, hear_of, heard_from, note_left, note_met}
use Rattle.tso_core.specs.Sound.{IsSound, HasClient, waiting}
use Rattle.tso_laws.specs.WholeCalls.{waits_for, LeavesRun, TellTells, Hears, HearTells}
use Rattle.tso_core.proofs.Dues.{is_same}
use Rattle.tso_core.proofs.Places.{at_get}
use Rattle.tso_core.proofs.Told.{old_view, new_view, else_view, not_note}

-- a list read in two ways that agree on its elements
map_same : (f g : ℕ → Seen) (xs : List ℕ) → ((id : ℕ) → 0 < times id xs → f id ≡ g id) → map f xs ≡ map g xs
map_same f g [] same = refl
map_same f g (x ∷ xs) same =
    let here : 0 < times x (x ∷ xs) = omega (arith, ap (λ (b : Bool). let n : ℕ = cond b 1 0 in n) (eq-eqb x x refl)) in
    let rest = map_same f g xs (λ id more. same id (omega (arith, more))) in
    λ i. same x here i ∷ rest i

-- what waits for one client waits
waits_in : (id c : ℕ) (posts : List (List ℕ)) → c < length posts → times id (get_or posts c []) ≤ waiting id posts
waits_in id c posts within = term_le (λ (post : List ℕ). times id post) posts c (get_or posts c []) (at_get posts c [] within)

hear_rest : (w : Whole) (c : ℕ) (post : List ℕ) → same_due (due_at w c) Rest ≡ true → post_at w c ≡ post → hear_of w c ≡ heard_from w c post
hear_rest w c post due waits = ap (λ (b : Bool). cond b (heard_from w c (post_at w c)) (out_of_turn w (due_at w c))) due ∙ ap (λ (p : List ℕ). heard_from w c p) waits

-- the first of a list, and the rest
abbrev head_or : Seen → List Seen → Seen
head_or other [] = other
head_or other (x ∷ xs) = x

abbrev rest_of : List Seen → List Seen
rest_of [] = []
rest_of (x ∷ xs) = xs

no_pair : (x : Seen) (xs : List Seen) → [] ≡ x ∷ xs → ⊥
no_pair x xs is = let e : 0 ≡ length (x ∷ xs) = ap (λ (l : List Seen). length l) is in omega (arith, e)

module _ (w : Whole) (s : IsSound w) (c : ℕ) (has : HasClient w.setup c) (rest : due_at w c ≡ Rest) where
  -- a note is left
  module _ (to : ℕ) (other : HasClient w.setup to) where
    tell_is : tell_of w c to ≡ record { reply = Told; after = note_left w c to }
    tell_is = ap (λ (b : Bool). cond b (record { reply = Told; after = note_left w c to }) (out_of_turn w (due_at w c))) (is_same (due_at w c) Rest rest)

    old_pairs : (e : ℕ) → HasClient w.setup e → map (λ (note : ℕ). (view_at (note_left w c to) note).seen) (post_at w e) ≡ waits_for w e
    old_pairs e client = map_same (λ (note : ℕ). (view_at (note_left w c to) note).seen) (λ (note : ℕ). (view_at w note).seen) (post_at w e)
        (λ id more. ap (λ (v : View). v.seen) (old_view w s c has.pos has.low to other.low id (s.notes id (omega (arith, more, waits_in id e w.posts (omega (arith, s.posts, client.low))))).inside))

    told_pairs : waits_for (note_left w c to) to ≡ waits_for w to ++ (view_at w (place_of_client w c)).seen ∷ []
    told_pairs =
        let f = λ (note : ℕ). (view_at (note_left w c to) note).seen in
        ap (map f) (get_or-set_same w.posts to (post_at w to ++ length w.views ∷ []) [] (omega (arith, s.posts, other.low)))
        ∙ map-append f (post_at w to) (length w.views ∷ []) ∙ ap (λ (l : List Seen). l ++ f (length w.views) ∷ []) (old_pairs to other)
        ∙ ap (λ (v : View). waits_for w to ++ v.seen ∷ []) (new_view w s c has.pos has.low to other.low (length w.views) refl)

    else_pairs : (e : ℕ) → HasClient w.setup e → e ≢ to → waits_for (note_left w c to) e ≡ waits_for w e
    else_pairs e client apart = ap (map (λ (note : ℕ). (view_at (note_left w c to) note).seen)) (get_or-set_other w.posts to e (post_at w to ++ length w.views ∷ []) [] apart) ∙ old_pairs e client

    pub tell_tells : TellTells w c to
    tell_tells = record {
      told = ap (λ (r : Stepped). r.reply) tell_is;
      waits = ap (λ (r : Stepped). waits_for r.after to) tell_is ∙ told_pairs;
      others = λ e client apart. ap (λ (r : Stepped). waits_for r.after e) tell_is ∙ else_pairs e client apart;
      run = subst (λ (r : Stepped). LeavesRun w r.after) (sym tell_is) (record { setup = refl; words = refl; turns = refl; windows = refl; batches = refl });
    }

  -- a note is heard
  module _ (note : ℕ) (more : List ℕ) (waits : post_at w c ≡ note ∷ more) where
    hear_is : hear_of w c ≡ record { reply = Heard (view_at w note).seen; after = note_met w c note more }
    hear_is = hear_rest w c (note ∷ more) (is_same (due_at w c) Rest rest) waits

    left_pairs : (xs : List ℕ) → ((id : ℕ) → 0 < times id xs → 0 < waiting id (note_met w c note more).posts) → ((id : ℕ) → 0 < times id xs → 0 < waiting id w.posts) → map (λ (one : ℕ). (view_at (note_met w c note more) one).seen) xs ≡ map (λ (one : ℕ). (view_at w one).seen) xs
    left_pairs xs later before = map_same (λ (one : ℕ). (view_at (note_met w c note more) one).seen) (λ (one : ℕ). (view_at w one).seen) xs
        (λ id stands. ap (λ (v : View). v.seen) (else_view w s c has.pos has.low note more waits rest id (not_note w s c has.pos has.low note more waits rest id (later id stands)) (λ same. omega (arith, (s.notes id (before id stands)).behind, same, has.low))))

    in_posts : c < length w.posts
    in_posts = omega (arith, s.posts, has.low)

    longer_posts : length (set w.posts c more) ≡ length w.posts
    longer_posts = length-set w.posts c more

    own_pairs : waits_for (note_met w c note more) c ≡ map (λ (one : ℕ). (view_at w one).seen) more
    own_pairs =
        let same = get_or-set_same w.posts c more [] in_posts in
        ap (map (λ (one : ℕ). (view_at (note_met w c note more) one).seen)) same
        ∙ left_pairs more
        (λ id stands. omega (arith, stands, waits_in id c (set w.posts c more) (omega (arith, in_posts, longer_posts)), ap (λ (l : List ℕ). times id l) same))
        (λ id stands. omega (arith, stands, waits_in id c w.posts in_posts, ap (λ (l : List ℕ). times id l) waits))

    other_pairs : (e : ℕ) → HasClient w.setup e → e ≢ c → waits_for (note_met w c note more) e ≡ waits_for w e
    other_pairs e client apart =
        let same = get_or-set_other w.posts c e more [] apart in
        ap (map (λ (one : ℕ). (view_at (note_met w c note more) one).seen)) same
        ∙ left_pairs (post_at w e)
        (λ id stands. omega (arith, stands, waits_in id e (set w.posts c more) (omega (arith, s.posts, client.low, longer_posts)), ap (λ (l : List ℕ). times id l) same))
        (λ id stands. omega (arith, stands, waits_in id e w.posts (omega (arith, s.posts, client.low))))

    hears : Hears w c (view_at w note).seen (map (λ (one : ℕ). (view_at w one).seen) more) (hear_of w c)
    hears = subst (λ (r : Stepped). Hears w c (view_at w note).seen (map (λ (one : ℕ). (view_at w one).seen) more) r) (sym hear_is) record {
      reply_is = refl;
      waits = own_pairs;
      others = other_pairs;
      run = record { setup = refl; words = refl; turns = refl; windows = refl; batches = refl };
    }

  heard_with : (post : List ℕ) → post_at w c ≡ post → (pair : Seen) (pairs : List Seen) → map (λ (one : ℕ). (view_at w one).seen) post ≡ pair ∷ pairs → Hears w c pair pairs (hear_of w c)
  heard_with [] waits pair pairs is = absurd (no_pair pair pairs is)
  heard_with (note ∷ more) waits pair pairs is =
      subst (λ (l : List Seen). Hears w c pair l (hear_of w c)) (ap rest_of is) (subst (λ (x : Seen). Hears w c x (map (λ (one : ℕ). (view_at w one).seen) more) (hear_of w c)) (ap (head_or pair) is) (hears note more waits))

  nothing_with : (post : List ℕ) → post_at w c ≡ post → map (λ (one : ℕ). (view_at w one).seen) post ≡ [] → hear_of w c ≡ record { reply = Nothing; after = w }
  nothing_with [] waits is = hear_rest w c [] (is_same (due_at w c) Rest rest) waits
  nothing_with (note ∷ more) waits is = absurd (no_pair (view_at w note).seen (map (λ (one : ℕ). (view_at w one).seen) more) (sym is))

  pub hear_tells : HearTells w c
  hear_tells = record { nothing = λ none. nothing_with (post_at w c) refl none; heard = λ pair pairs is. heard_with (post_at w c) refl pair pairs is }
