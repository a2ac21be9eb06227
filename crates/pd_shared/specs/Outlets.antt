-- What a cluster sends to its stores, and what of it is pushed (own choice: 64 steps wait for a store at most; one for which there is no room is sent again at a
-- later heartbeat).
use Rattle.std.specs.Prelude.{◌≡◌, ◌≤◌, ◌+◌, ◌⊎◌, ◌++◌, ◌==◌, ℕ, List, [], ◌∷◌, filter, length, map}
use Rattle.std.specs.List.{flat_map}
use Rattle.std.specs.List.Sorted.{IsPermutation}
use Rattle.atomic_table.specs.Seated.{TableId}
use Rattle.pd_turn.specs.Turns.{AreApart}
use Rattle.pd_types.specs.declared.step.StepMsg.{StepMsg}
use Rattle.pd_state.specs.declared.entry.Entry.{Entry}
use Rattle.step_stream.specs.declared.stream.TheConstants.{PLACES}
use Rattle.pd_shared.specs.Names.{StreamName, stream_name, streams_of}

-- an outlet: its store, the stream to that store, and the steps that were pushed into it, in their order
pub record OutletValue : Type 0 where
  pub store : ℕ
  pub stream : TableId
  pub pushed : List StepMsg

-- the outlet with these parts
abbrev pub outlet_of : ℕ → TableId → List StepMsg → OutletValue
outlet_of store stream pushed = record { store = store; stream = stream; pushed = pushed }

-- the name of an outlet's stream, where the outlet is of this driver's cluster
abbrev pub named : ℕ → OutletValue → StreamName
named driver outlet = stream_name driver outlet.store outlet.stream

-- the outlets of a driver's cluster: one for each stream that is listed for this driver, of that stream and with that store, and no two with one store
pub record AreOutletsOf (streams : List StreamName) (driver : ℕ) (outlets : List OutletValue) : Type 0 where
  pub listed : IsPermutation (map (named driver) outlets) (streams_of driver streams)
  pub apart : AreApart (map (λ (outlet : OutletValue). outlet.store) outlets)

-- those of the steps that go to the store, in their order
abbrev pub to_store : ℕ → List StepMsg → List StepMsg
to_store store sends = filter (λ (msg : StepMsg). msg.to == store) sends

-- what the entries sent to the store, in its order
abbrev pub sends_to : ℕ → List Entry → List StepMsg
sends_to store entries = to_store store (flat_map (λ (entry : Entry). entry.sends) entries)

-- Of the sends, in their order, these were pushed, each once; a send is left out only where 64 or more were pushed before it. So many were pushed before the
-- first of the sends
abbrev pub ArePushed : ℕ → List StepMsg → List StepMsg → Type 0
ArePushed before [] [] = Unit {0}
ArePushed before [] (p ∷ pushed) = ⊥
ArePushed before (s ∷ sends) [] = (PLACES ≤ before) × ArePushed before sends []
ArePushed before (s ∷ sends) (p ∷ pushed) = ((s ≡ p) × ArePushed (before + 1) sends pushed) ⊎ ((PLACES ≤ before) × ArePushed before sends (p ∷ pushed))

-- what was pushed into an outlet is what the entries sent to its store, but for what was left out
abbrev pub IsServed : List Entry → OutletValue → Type 0
IsServed entries outlet = ArePushed 0 (sends_to outlet.store entries) outlet.pushed

-- the outlet took up the steps: behind what was pushed before stand those that go to its store, but for what was left out
pub record TookUp (sends : List StepMsg) (old new : OutletValue) : Type 0 where
  pub store_is : new.store ≡ old.store
  pub stream_is : new.stream ≡ old.stream
  pub added : List StepMsg
  pub pushed_is : new.pushed ≡ old.pushed ++ added
  pub are_pushed : ArePushed (length old.pushed) (to_store old.store sends) added
