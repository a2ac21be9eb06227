-- The journal of the post: what clients told and heard, in the order in which it was done (own choice).
use Rattle.std.specs.Prelude.{◌≡◌, ℕ, List, [], ◌∷◌, ◌++◌, cond, ◌==◌, filter}
use Rattle.std.specs.List.{flat_map}
use Rattle.pd_types.specs.declared.oracle.Seen.{Seen}
use Rattle.tso_client.specs.declared.entry.PostEntry.{PostEntry}
use Rattle.tso_client.specs.declared.entry.PostWhat.{PostWhat}
use Rattle.tso_client.specs.declared.entry.PostWhat.TheVariants.{Told, Heard, Nothing}

-- the entries of the client c, in their order
abbrev pub entries_of : ℕ → List PostEntry → List PostEntry
entries_of c journal = filter (λ (e : PostEntry). e.client == c) journal

-- the pair that an entry leaves for the client c, if any
abbrev pub told_by : ℕ → PostWhat → List Seen
told_by c (Told to seen) = cond (to == c) (seen ∷ []) []
told_by c (Heard seen) = []
told_by c Nothing = []

-- the pair that an entry hears
abbrev pub heard_in : PostWhat → List Seen
heard_in (Told to seen) = []
heard_in (Heard seen) = seen ∷ []
heard_in Nothing = []

-- the pairs that were left for the client c, in their order
abbrev pub told_to : ℕ → List PostEntry → List Seen
told_to c journal = flat_map (λ (e : PostEntry). told_by c e.what) journal

-- the pairs that the client c heard, in their order
abbrev pub heard_by : ℕ → List PostEntry → List Seen
heard_by c journal = flat_map (λ (e : PostEntry). cond (e.client == c) (heard_in e.what) []) journal

-- the pairs that wait for the client c: those left for it are those that it heard, and then these
abbrev pub Waits : ℕ → List PostEntry → List Seen → Type 0
Waits c journal pairs = told_to c journal ≡ heard_by c journal ++ pairs

-- what an entry of the client c says behind these entries: it hears the oldest pair that waits for it, and nothing exactly where none waits
abbrev pub Follows : List PostEntry → ℕ → PostWhat → Type 0
Follows before c (Told to seen) = Unit {0}
Follows before c (Heard seen) = (later : List Seen) × Waits c before (seen ∷ later)
Follows before c Nothing = Waits c before []

-- each entry of the journal follows those before it
abbrev pub IsPost : List PostEntry → Type 0
IsPost journal = (before : List PostEntry) (e : PostEntry) (after : List PostEntry) → journal ≡ before ++ e ∷ after → Follows before e.client e.what
