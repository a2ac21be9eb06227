-- How a word is refused. Private contracts alone cite this.
use Rattle.std.specs.Prelude.{◌≡◌, Option, None}
use Rattle.pd_lines.specs.declared.plain.WordFault.{WordFault}
use Rattle.pd_lines.specs.declared.plain.WordFault.TheVariants.{Form, NoMemory}

-- nothing was read, but for want of memory
abbrev pub IsWordFault : {A : Type 0} → Option A → WordFault → Type 0
IsWordFault read Form = read ≡ None
IsWordFault read NoMemory = Unit {0}
