-- What is true of every script that is read: the words of its lines are in the ranges and forms of the grammar, its lines are
-- numbered, have their actors and stand where they may, its drivers and clients are the greatest named, and its limits hold.
use Rattle.std.specs.Prelude.{◌≡◌, ◌⊎◌, ℕ, ◌<◌, ◌≤◌, List, [], ◌∷◌, length, Bool, true, false, Option, IfSome, All, AllPairs, Contains, flat_map, option_to_list}
use Rattle.std.specs.List.{AllByRecursion, count_by}
use Rattle.pd_types.specs.Numbers.{IsOneOf}
use Rattle.pd_types.specs.declared.oracle.Actor.{Actor}
use Rattle.pd_script.specs.Formed.{IsAsked}
use Rattle.pd_script.specs.Places.{least, most}
use Rattle.pd_script.specs.Says.{named_client, named_driver, says}
use Rattle.pd_script.specs.Scripts.{is_lead, is_report, store_in}
use Rattle.pd_script.specs.Table.{is_misplaced}
use Rattle.pd_script.specs.declared.act.Act.{Act}
use Rattle.pd_script.specs.declared.act.Line.{Line}
use Rattle.pd_types.specs.declared.oracle.TheConstants.{MAX_CLIENTS, MAX_DRIVERS}
use Rattle.pd_script.specs.declared.limits.TheConstants.{MAX_EVENTS, MAX_LEADS, MAX_REPORTS, MAX_STORES}
use Rattle.pd_script.specs.declared.place.Place.{Place}
use Rattle.pd_script.specs.declared.place.Place.TheVariants.{Driver, Client}
use Rattle.pd_script.specs.declared.script.Mode.{Mode}
use Rattle.pd_script.specs.declared.script.Script.{Script}
use Rattle.pd_script.specs.declared.verb.Where.{Where}

-- the greatest number of a place, where so many drivers and clients run
abbrev pub most_of : ℕ → ℕ → Place → ℕ
most_of drivers clients Driver = drivers
most_of drivers clients Client = clients
most_of drivers clients place = most place

-- a number is in the range of its place
pub record IsInRange (drivers clients : ℕ) (said : Place × ℕ) : Type 0 where
  pub low : least said.0 ≤ said.1
  pub high : said.1 ≤ most_of drivers clients said.0

-- the numbers of an act are in range
abbrev pub IsLawful : ℕ → ℕ → Act → Type 0
IsLawful drivers clients act = AllByRecursion (IsInRange drivers clients) (says act).numbers

-- where a line of this act may stand
abbrev pub standing_of : Act → Where
standing_of act = (says act).standing

-- each line is lawful; whether the next one is the first event
abbrev pub AreLawful : Mode → ℕ → ℕ → Bool → List Line → Type 0
AreLawful mode drivers clients first [] = Unit {0}
AreLawful mode drivers clients first (line ∷ lines) = (is_misplaced mode first (standing_of line.act) ≡ false) × IsLawful drivers clients line.act × AreLawful mode drivers clients false lines

-- what is asked of a cluster has its form
abbrev pub IsFormed : Act → Type 0
IsFormed act = IfSome (says act).asked IsAsked

-- who acts
abbrev pub actor_in : Act → Option Actor
actor_in act = (says act).actor

-- the store that speaks in an act, where one does
abbrev pub speaking : Act → List ℕ
speaking act = flat_map store_in (option_to_list (actor_in act))

-- the drivers that an act names
abbrev pub drivers_named : Act → List ℕ
drivers_named act = flat_map named_driver (says act).numbers

-- the clients that an act names
abbrev pub clients_named : Act → List ℕ
clients_named act = flat_map named_client (says act).numbers

-- the greatest of these numbers, at least 1: none is above it, and it is 1 or one of them
pub record IsGreatest (numbers : List ℕ) (n : ℕ) : Type 0 where
  pub above : All (λ m. m ≤ n) numbers
  pub named : (n ≡ 1) ⊎ Contains numbers n

-- so many different numbers at most: a list no longer than that has them all
pub record AreAtMost (most : ℕ) (numbers : List ℕ) : Type 0 where
  pub kept : List ℕ
  pub few : length kept ≤ most
  pub all : All (Contains kept) numbers

-- 1 to 7 drivers and 1 to 64 clients, the greatest that are named, and lawful lines for them; line numbers that rise from 1
-- or more, each line's actor the one of its act, and what is asked of a cluster in its form; at most
-- 65,536 lines, 256 stores that speak and 1,024 lines `lead` and `publish`
pub record IsLawfulScript (mode : Mode) (script : Script) : Type 0 where
  pub drivers : IsOneOf MAX_DRIVERS script.drivers
  pub clients : IsOneOf MAX_CLIENTS script.clients
  pub lines : AreLawful mode script.drivers script.clients true script.lines
  pub numbered : All (λ line. 0 < line.number) script.lines
  pub rise : AllPairs (λ one later. one.number < later.number) script.lines
  pub actors : All (λ line. line.actor ≡ actor_in line.act) script.lines
  pub formed : All (λ line. IsFormed line.act) script.lines
  pub most_drivers : IsGreatest (flat_map (λ line. drivers_named line.act) script.lines) script.drivers
  pub most_clients : IsGreatest (flat_map (λ line. clients_named line.act) script.lines) script.clients
  pub events : length script.lines ≤ MAX_EVENTS
  pub speakers : AreAtMost MAX_STORES (flat_map (λ line. speaking line.act) script.lines)
  pub reports : count_by (λ line. is_report line.act) script.lines ≤ MAX_REPORTS
  pub leads : count_by (λ line. is_lead line.act) script.lines ≤ MAX_LEADS
