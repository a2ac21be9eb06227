-- A line that is no request says what its row and its numbers do.
use Rattle.std.proofs.Common.{◌≡◌, ℕ, List, [], ◌∷◌, refl}
use Rattle.pd_script.specs.Says.{Says, no_request, says}
use Rattle.pd_script.specs.Scripts.{act_by, actor_by}
use Rattle.pd_script.specs.Table.{Row, row}
use Rattle.pd_script.specs.declared.place.Place.{Place}
use Rattle.pd_script.specs.declared.numbers.Numbers.{Numbers}
use Rattle.pd_script.specs.declared.verb.Places.{Places}
use Rattle.pd_script.specs.declared.verb.Places.TheVariants.{One, Two, Three}
use Rattle.pd_script.specs.declared.verb.Verb.{Verb}
use Rattle.pd_script.specs.declared.verb.Verb.TheVariants.{Cell}

-- the numbers in their places
abbrev pub placed_numbers : Places → Numbers → List (Place × ℕ)
placed_numbers (One p) n = (p, n.first) ∷ []
placed_numbers (Two p q) n = (p, n.first) ∷ (q, n.second) ∷ []
placed_numbers (Three p q r) n = (p, n.first) ∷ (q, n.second) ∷ (r, n.third) ∷ []

abbrev pub said_by : Row → Numbers → Says
said_by one n = no_request one.standing (actor_by one.places n) (placed_numbers one.places n)

pub same_says : (verb : Verb) (n : Numbers) → says (act_by verb n) ≡ said_by (row verb) n
same_says Cell n = refl
same_says _ n = refl
