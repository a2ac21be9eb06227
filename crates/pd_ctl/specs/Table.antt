-- The table of pd-ctl's commands: the words that each begins with, and what stands behind them (pd-ctl's help; the words of
-- `store limit` and `region key` are our own choice).
use Rattle.std.specs.Prelude.{◌≡◌, ℕ, nat_lt, if◌then◌else◌, Bool, true, false, ◌&&◌, List, [], ◌∷◌, length, drop, codes, Option, Some, None}
use Rattle.std.specs.List.{find}
use Rattle.std.specs.Str.{bytes_eq}
use Rattle.pd_ctl.specs.declared.fault.CtlFault.{CtlFault}
use Rattle.pd_ctl.specs.declared.fault.CtlFault.TheVariants.{MissingWord, ExtraWord}
use Rattle.pd_ctl.specs.declared.verb.Verb.{Verb}
use Rattle.pd_ctl.specs.declared.verb.Verb.TheVariants.{Store, StoreDelete, StoreLimit, Region, RegionKey, OperatorShow, AddPeer, RemovePeer, TransferLeader, TransferPeer, OperatorRemove, OperatorCheck, SchedulerShow, SchedulerRemove, LeaderShow, LeaderResign, Tso}

-- what a word behind the fixed ones stands for: a number, a rate of a store's limit, which limit, a key, a name
pub data Place : Type 0 where
  Number : Place
  Rate : Place
  Kind : Place
  Key : Place
  Name : Place

-- a command's fixed first words, and the places behind them, which may be left out where that is said
pub record Row : Type 0 where
  pub fixed : List (List ℕ)
  pub places : List Place
  pub optional : Bool

-- the table
abbrev pub row : Verb → Row
row Store = record { fixed = codes "store" ∷ []; places = Number ∷ []; optional = true }
row StoreDelete = record { fixed = codes "store" ∷ codes "delete" ∷ []; places = Number ∷ []; optional = false }
row StoreLimit = record { fixed = codes "store" ∷ codes "limit" ∷ []; places = Number ∷ Rate ∷ Kind ∷ []; optional = false }
row Region = record { fixed = codes "region" ∷ []; places = Number ∷ []; optional = false }
row RegionKey = record { fixed = codes "region" ∷ codes "key" ∷ []; places = Key ∷ []; optional = false }
row OperatorShow = record { fixed = codes "operator" ∷ codes "show" ∷ []; places = []; optional = false }
row AddPeer = record { fixed = codes "operator" ∷ codes "add" ∷ codes "add-peer" ∷ []; places = Number ∷ Number ∷ []; optional = false }
row RemovePeer = record { fixed = codes "operator" ∷ codes "add" ∷ codes "remove-peer" ∷ []; places = Number ∷ Number ∷ []; optional = false }
row TransferLeader = record { fixed = codes "operator" ∷ codes "add" ∷ codes "transfer-leader" ∷ []; places = Number ∷ Number ∷ []; optional = false }
row TransferPeer = record { fixed = codes "operator" ∷ codes "add" ∷ codes "transfer-peer" ∷ []; places = Number ∷ Number ∷ Number ∷ []; optional = false }
row OperatorRemove = record { fixed = codes "operator" ∷ codes "remove" ∷ []; places = Number ∷ []; optional = false }
row OperatorCheck = record { fixed = codes "operator" ∷ codes "check" ∷ []; places = Number ∷ []; optional = false }
row SchedulerShow = record { fixed = codes "scheduler" ∷ codes "show" ∷ []; places = []; optional = false }
row SchedulerRemove = record { fixed = codes "scheduler" ∷ codes "remove" ∷ []; places = Name ∷ []; optional = false }
row LeaderShow = record { fixed = codes "member" ∷ codes "leader" ∷ codes "show" ∷ []; places = []; optional = false }
row LeaderResign = record { fixed = codes "member" ∷ codes "leader" ∷ codes "resign" ∷ []; places = []; optional = false }
row Tso = record { fixed = codes "tso" ∷ []; places = Number ∷ []; optional = false }

-- the least number of words behind the fixed ones
abbrev pub least : Verb → ℕ
least verb = if (row verb).optional then 0 else length (row verb).places

-- the greatest
abbrev pub most : Verb → ℕ
most verb = length (row verb).places

-- all commands, those with more fixed words before those with fewer
abbrev pub verbs : List Verb
verbs =
    AddPeer ∷ RemovePeer ∷ TransferLeader ∷ TransferPeer ∷ LeaderShow ∷ LeaderResign
    ∷ StoreDelete ∷ StoreLimit ∷ RegionKey ∷ OperatorShow ∷ OperatorRemove ∷ OperatorCheck ∷ SchedulerShow ∷ SchedulerRemove
    ∷ Store ∷ Region ∷ Tso ∷ []

-- the words begin with these
abbrev pub begin_with : List (List ℕ) → List (List ℕ) → Bool
begin_with [] words = true
begin_with (one ∷ more) [] = false
begin_with (one ∷ more) (word ∷ words) = bytes_eq word one && begin_with more words

-- all of a command's fixed words agree
abbrev pub agrees : List (List ℕ) → Verb → Bool
agrees words verb = begin_with (row verb).fixed words

-- the command whose fixed words agree, with the most of them
abbrev pub verb_of : List (List ℕ) → Option Verb
verb_of words = find (agrees words) verbs

-- the words behind a command's fixed ones
abbrev pub behind : Verb → List (List ℕ) → List (List ℕ)
behind verb words = drop (length (row verb).fixed) words

-- the words name this command, and these stand behind its fixed ones
pub record IsVerb (words : List (List ℕ)) (verb : Verb) (rest : List (List ℕ)) : Type 0 where
  pub named : verb_of words ≡ Some verb
  pub left : behind verb words ≡ rest

-- too few words, or too many
abbrev pub miscount : ℕ → ℕ → List (List ℕ) → Option CtlFault
miscount least most words = if nat_lt (length words) least then Some MissingWord else if nat_lt most (length words) then Some ExtraWord else None
