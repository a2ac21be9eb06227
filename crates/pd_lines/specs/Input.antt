-- What a call took of a source, and why it may refuse.
use Rattle.std.specs.Prelude.{ℕ, ◌+◌, ◌<◌, ◌≤◌, List, length, Result, Option, IsErrOf}
use Rattle.std.specs.Io.KnownBytes.{Consumes, IsAtEnd}
use Rattle.pd_io.specs.Faults.{Rose}
use Rattle.pd_lines.specs.declared.input.TheConstants.{PIECE}
use Rattle.pd_lines.specs.declared.input.ReadRefusal.{ReadRefusal}
use Rattle.pd_lines.specs.declared.input.ReadRefusal.TheVariants.{ReadFault}

-- all that the source had left was taken, and it is this text, which is no longer than the limit
pub record ReadsWhole (old new : Option (List ℕ)) (limit : ℕ) (text : List ℕ) : Type 0 where
  pub taken : Consumes old new text
  pub at_end : IsAtEnd new
  pub short : length text ≤ limit

-- more than the limit was taken, and not asked again after that: no more than one piece beyond it
pub record TakesMore (old new : Option (List ℕ)) (limit : ℕ) : Type 0 where
  pub front : List ℕ
  pub taken : Consumes old new front
  pub long : limit < length front
  pub soon : length front ≤ limit + PIECE

-- no more than the limit was taken
pub record TakesFew (old new : Option (List ℕ)) (limit : ℕ) : Type 0 where
  pub front : List ℕ
  pub taken : Consumes old new front
  pub few : length front ≤ limit

-- the count of faults never falls, and the read failed only where it rose
pub record HasRefusalCause {T : Type 0} (before now : ℕ) (result : Result T ReadRefusal) : Type 0 where
  pub later : before ≤ now
  pub failed : IsErrOf result ReadFault → Rose before now
