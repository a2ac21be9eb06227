-- The command that words are (pd-ctl).
use Rattle.std.specs.Prelude.{◌≡◌, ◌⊎◌, ℕ, List, [], ◌∷◌, Option, Some, None, Result, Ok, Err}
use Rattle.pd_lines.specs.Words.{and_then}
use Rattle.op_step.specs.declared.wishes.Wish.{Wish}
use Rattle.op_step.specs.declared.wishes.Wish.TheVariants as wishes
use Rattle.pd_ctl.specs.Places.{number, rate, kind, key, name}
use Rattle.pd_ctl.specs.Table.{verb_of, behind, least, most, miscount}
use Rattle.pd_ctl.specs.Words.{words}
use Rattle.pd_ctl.specs.declared.command.Command.{Command}
use Rattle.pd_ctl.specs.declared.command.Command.TheVariants as commands
use Rattle.pd_ctl.specs.declared.fault.CtlFault.{CtlFault}
use Rattle.pd_ctl.specs.declared.fault.CtlFault.TheVariants.{Unknown, MissingWord, NoMemory}
use Rattle.pd_ctl.specs.declared.verb.Verb.{Verb}
use Rattle.pd_ctl.specs.declared.verb.Verb.TheVariants.{Store, StoreDelete, StoreLimit, Region, RegionKey, OperatorShow, AddPeer, RemovePeer, TransferLeader, TransferPeer, OperatorRemove, OperatorCheck, SchedulerShow, SchedulerRemove, LeaderShow, LeaderResign, Tso}

-- what is made of a single word
abbrev pub of_one : (List ℕ → Result Command CtlFault) → List (List ℕ) → Result Command CtlFault
of_one make (word ∷ []) = make word
of_one make _ = Err MissingWord

-- what is made of two words
abbrev pub of_two : (List ℕ → List ℕ → Result Command CtlFault) → List (List ℕ) → Result Command CtlFault
of_two make (first ∷ second ∷ []) = make first second
of_two make _ = Err MissingWord

-- what is made of three words
abbrev pub of_three : (List ℕ → List ℕ → List ℕ → Result Command CtlFault) → List (List ℕ) → Result Command CtlFault
of_three make (first ∷ second ∷ third ∷ []) = make first second third
of_three make _ = Err MissingWord

-- a command with one number
abbrev pub numbered : (ℕ → Command) → List (List ℕ) → Result Command CtlFault
numbered make words = of_one (λ word. and_then (number word) (λ n. Ok (make n))) words

-- a wish for a region with one store
abbrev pub wished : (ℕ → Wish) → List (List ℕ) → Result Command CtlFault
wished make words = of_two (λ region store. and_then (number region) (λ r. and_then (number store) (λ s. Ok (commands.OperatorAdd r (make s))))) words

-- `store` alone, or with an id
abbrev pub store_said : List (List ℕ) → Result Command CtlFault
store_said [] = Ok commands.Stores
store_said (word ∷ words) = numbered commands.Store (word ∷ words)

-- what each command makes of the words behind its fixed ones, whose number is right
abbrev pub asked : Verb → List (List ℕ) → Result Command CtlFault
asked Store words = store_said words
asked StoreDelete words = numbered commands.StoreDelete words
asked StoreLimit words = of_three (λ id r k. and_then (number id) (λ n. and_then (rate r) (λ per. and_then (kind k) (λ of. Ok (commands.StoreLimit n per of))))) words
asked Region words = numbered commands.Region words
asked RegionKey words = of_one (λ word. and_then (key word) (λ k. Ok (commands.RegionKey k))) words
asked OperatorShow words = Ok commands.OperatorShow
asked AddPeer words = wished wishes.AddPeer words
asked RemovePeer words = wished wishes.RemovePeer words
asked TransferLeader words = wished wishes.TransferLeader words
asked TransferPeer words =
    of_three (λ region from to. and_then (number region) (λ r. and_then (number from) (λ f. and_then (number to) (λ t. Ok (commands.OperatorAdd r (wishes.MovePeer f t)))))) words
asked OperatorRemove words = numbered commands.OperatorRemove words
asked OperatorCheck words = numbered commands.OperatorCheck words
asked SchedulerShow words = Ok commands.SchedulerShow
asked SchedulerRemove words = of_one (λ word. and_then (name word) (λ n. Ok (commands.SchedulerRemove n))) words
asked LeaderShow words = Ok commands.LeaderShow
asked LeaderResign words = Ok commands.LeaderResign
asked Tso words = numbered commands.Tso words

-- a wrong number of words comes before a wrong word
abbrev pub unless_miscounted : Option CtlFault → Result Command CtlFault → Result Command CtlFault
unless_miscounted (Some fault) asked = Err fault
unless_miscounted None asked = asked

-- the command, or the first fault, of the words behind the fixed ones
abbrev pub said : Verb → List (List ℕ) → Result Command CtlFault
said verb words = unless_miscounted (miscount (least verb) (most verb) words) (asked verb words)

-- the same, by the command that the first words name
abbrev pub said_by : Option Verb → List (List ℕ) → Result Command CtlFault
said_by None words = Err Unknown
said_by (Some verb) words = said verb (behind verb words)

-- the command that these words are, or the first fault
abbrev pub command_by : List (List ℕ) → Result Command CtlFault
command_by words = said_by (verb_of words) words

-- the same, of the words of a line
abbrev pub command_of : List ℕ → Result Command CtlFault
command_of line = command_by (words line)

-- memory is wanting, or it is the fault of what was read
abbrev pub IsRefusal : {A : Type 0} → Result A CtlFault → CtlFault → Type 0
IsRefusal read fault = (fault ≡ NoMemory) ⊎ (read ≡ Err fault)
