-- A client at rest, and the notes that wait for it.
use Rattle.std.proofs.Common.{◌≡◌, ◌≢◌, ℕ, ◌<◌, List, [], ◌∷◌, length, get_or, set, map, sym, ◌∙◌, arith}
use Rattle.std.proofs.lemmas.List.{length-map}
use Rattle.tso_core.specs.declared.machine.Machine.{Machine}
use Rattle.tso_core.specs.declared.notes.Post.{Post}
use Rattle.tso_core.specs.declared.reply.Due.TheVariants.{Rest}
use Rattle.tso_core.specs.Machine.{whole_of, waits_in, ClientAt}
use Rattle.tso_core.specs.Seated.{view_of}
use Rattle.tso_core.specs.Sound.{IsNote}
use Rattle.tso_core.specs.Whole.{place_of_client, post_at}
use Rattle.tso_core.proofs.Drawn.{inside}
use Rattle.tso_core.proofs.Places.{get_mapped, map_kept}
use Rattle.tso_core.proofs.Told.{is_note, apart_place}

-- the note n waits for the client before these
pub record Meets (m : Machine) (c n : ℕ) (rest : List ℕ) : Type 0 where
  pub waits : post_at (whole_of m) c ≡ n ∷ rest
  pub note : IsNote m.setup (whole_of m).views n
  pub apart : n ≢ place_of_client (whole_of m) c
  pub place : place_of_client (whole_of m) c < length m.seats.items
  pub inside : n < length m.seats.items

module _ (m : Machine) (c : ℕ) (at : ClientAt Rest c m) (p : Post) (is : p ≡ get_or m.posts.items c p) where
  here : waits_in p ≡ post_at (whole_of m) c
  here = get_mapped waits_in m.posts.items c p [] (omega (arith, length-map m.posts.items waits_in, at.sound.posts, at.client.low)) is

  pub meets : (n : ℕ) (rest : List ℕ) → p.notes.items ≡ n ∷ rest → Meets m c n rest
  meets n rest first =
      let w = whole_of m in
      let waits : post_at w c ≡ n ∷ rest = sym here ∙ first in
      let note : IsNote w.setup w.views n = is_note w at.sound c at.client.pos at.client.low n rest waits at.due in record {
        waits = waits;
        note = note;
        apart = apart_place w at.sound c at.client.pos at.client.low n rest waits at.due;
        place = omega (arith, length-map m.seats.items view_of, inside w at.sound c at.client.pos at.client.low);
        inside = omega (arith, length-map m.seats.items view_of, note.inside);
      }

  pub none_waits : p.notes.items ≡ [] → post_at (whole_of m) c ≡ []
  none_waits none = sym here ∙ none

  pub same_posts : (q : Post) → p.notes.items ≡ [] → q.notes.items ≡ [] → map waits_in (set m.posts.items c q) ≡ map waits_in m.posts.items
  same_posts q none still = map_kept waits_in m.posts.items c q [] (still ∙ sym (none_waits none))
