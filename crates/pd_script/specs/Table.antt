-- The lines of a script: the first word, what stands behind it, and where the line may stand. A line's actor is the driver,
-- the client or the store that it names first (own choice).
use Rattle.std.specs.Prelude.{ℕ, List, codes, Option, Bool, true, false}
use Rattle.std.specs.List.{find}
use Rattle.std.specs.Str.{bytes_eq}
use Rattle.pd_script.specs.declared.place.Place.TheVariants.{Driver, Client, Moment, Count, Saved, Term, Id}
use Rattle.pd_script.specs.declared.script.Mode.{Mode}
use Rattle.pd_script.specs.declared.script.Mode.TheVariants.{Replay, Run}
use Rattle.pd_script.specs.declared.verb.Places.{Places}
use Rattle.pd_script.specs.declared.verb.Places.TheVariants.{One, Two, Three}
use Rattle.pd_script.specs.declared.verb.Where.{Where}
use Rattle.pd_script.specs.declared.verb.Where.TheVariants.{Anywhere, Opening, SingleStep}
use Rattle.pd_script.specs.declared.verb.TheConstants.{VERBS}
use Rattle.pd_script.specs.declared.verb.Verb.{Verb}
use Rattle.pd_script.specs.declared.verb.Verb.TheVariants.{Cell, Lead, Tick, Resign, Take, Tell, Hear, Read, Campaign, Save, Raise, Publish, Probe, Look, Arm, Draw, Pop}

-- what is said of a line by its first word
pub record Row : Type 0 where
  pub name : List ℕ
  pub places : Places
  pub standing : Where

-- the table, a row for each first word
abbrev pub row : Verb → Row
row Cell = record { name = codes "cell"; places = Two Saved Term; standing = Opening }
row Lead = record { name = codes "lead"; places = Two Driver Moment; standing = Anywhere }
row Tick = record { name = codes "tick"; places = Two Driver Moment; standing = Anywhere }
row Resign = record { name = codes "resign"; places = One Driver; standing = Anywhere }
row Take = record { name = codes "take"; places = Three Client Driver Count; standing = Anywhere }
row Tell = record { name = codes "tell"; places = Two Client Client; standing = Anywhere }
row Hear = record { name = codes "hear"; places = One Client; standing = Anywhere }
row Read = record { name = codes "read"; places = Two Driver Moment; standing = SingleStep }
row Campaign = record { name = codes "campaign"; places = One Driver; standing = SingleStep }
row Save = record { name = codes "save"; places = One Driver; standing = SingleStep }
row Raise = record { name = codes "raise"; places = One Driver; standing = SingleStep }
row Publish = record { name = codes "publish"; places = One Driver; standing = SingleStep }
row Probe = record { name = codes "probe"; places = Two Driver Moment; standing = SingleStep }
row Look = record { name = codes "look"; places = Two Client Driver; standing = SingleStep }
row Arm = record { name = codes "arm"; places = Two Client Count; standing = SingleStep }
row Draw = record { name = codes "draw"; places = One Client; standing = SingleStep }
row Pop = record { name = codes "pop"; places = Two Id Driver; standing = Anywhere }

-- the one of all first words that a word names
abbrev pub verb_of : List ℕ → Option Verb
verb_of word = find (λ verb. bytes_eq word (row verb).name) VERBS

-- the line may not stand here: a `cell` line behind another event; in `run` a single step
abbrev pub is_misplaced : Mode → Bool → Where → Bool
is_misplaced mode first Anywhere = false
is_misplaced mode true Opening = false
is_misplaced mode false Opening = true
is_misplaced Replay first SingleStep = false
is_misplaced Run first SingleStep = true
