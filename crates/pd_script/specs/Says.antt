-- What each line says, by its act: where it may stand, who acts in it, its numbers in their places, and what it asks of a
-- cluster (own choice).
use Rattle.std.specs.Prelude.{ℕ, List, [], ◌∷◌, Option, Some, None}
use Rattle.pd_types.specs.declared.oracle.Actor.{Actor}
use Rattle.pd_types.specs.declared.oracle.Actor.TheVariants.{Driver as ByDriver, Client as ByClient, Store as ByStore}
use Rattle.pd_types.specs.declared.request.Request.{Request}
use Rattle.pd_script.specs.Scripts.{asker}
use Rattle.pd_script.specs.declared.act.Act.{Act}
use Rattle.pd_script.specs.declared.act.Act.TheVariants.{Cell, Lead, Tick, Resign, Take, Tell, Hear, Read, Campaign, Save, Raise, Publish, Probe, Look, Arm, Draw, Ask, Pop}
use Rattle.pd_script.specs.declared.place.Place.{Place}
use Rattle.pd_script.specs.declared.place.Place.TheVariants.{Driver, Client, Moment, Count, Saved, Term, Id}
use Rattle.pd_script.specs.declared.verb.Where.{Where}
use Rattle.pd_script.specs.declared.verb.Where.TheVariants.{Anywhere, Opening, SingleStep}

-- what one line says: where it may stand, who acts, the numbers in their places, and the request that a cluster is asked
pub record Says : Type 0 where
  pub standing : Where
  pub actor : Option Actor
  pub numbers : List (Place × ℕ)
  pub asked : Option Request

-- a line that is no request: it asks nothing of a cluster
abbrev pub no_request : Where → Option Actor → List (Place × ℕ) → Says
no_request standing actor numbers = record { standing = standing; actor = actor; numbers = numbers; asked = None }

-- the table: no one opens the cell, a driver takes its steps, a client draws and tells, a request has its asker, and a store takes what was sent to it
abbrev pub says : Act → Says
says (Cell saved term) = no_request Opening None ((Saved, saved) ∷ (Term, term) ∷ [])
says (Lead driver now) = no_request Anywhere (Some (ByDriver driver)) ((Driver, driver) ∷ (Moment, now) ∷ [])
says (Tick driver now) = no_request Anywhere (Some (ByDriver driver)) ((Driver, driver) ∷ (Moment, now) ∷ [])
says (Resign driver) = no_request Anywhere (Some (ByDriver driver)) ((Driver, driver) ∷ [])
says (Take client driver n) = no_request Anywhere (Some (ByClient client)) ((Client, client) ∷ (Driver, driver) ∷ (Count, n) ∷ [])
says (Tell client to) = no_request Anywhere (Some (ByClient client)) ((Client, client) ∷ (Client, to) ∷ [])
says (Hear client) = no_request Anywhere (Some (ByClient client)) ((Client, client) ∷ [])
says (Read driver now) = no_request SingleStep (Some (ByDriver driver)) ((Driver, driver) ∷ (Moment, now) ∷ [])
says (Campaign driver) = no_request SingleStep (Some (ByDriver driver)) ((Driver, driver) ∷ [])
says (Save driver) = no_request SingleStep (Some (ByDriver driver)) ((Driver, driver) ∷ [])
says (Raise driver) = no_request SingleStep (Some (ByDriver driver)) ((Driver, driver) ∷ [])
says (Publish driver) = no_request SingleStep (Some (ByDriver driver)) ((Driver, driver) ∷ [])
says (Probe driver now) = no_request SingleStep (Some (ByDriver driver)) ((Driver, driver) ∷ (Moment, now) ∷ [])
says (Look client driver) = no_request SingleStep (Some (ByClient client)) ((Client, client) ∷ (Driver, driver) ∷ [])
says (Arm client n) = no_request SingleStep (Some (ByClient client)) ((Client, client) ∷ (Count, n) ∷ [])
says (Draw client) = no_request SingleStep (Some (ByClient client)) ((Client, client) ∷ [])
says (Ask driver request) = record { standing = Anywhere; actor = Some (asker driver request); numbers = (Driver, driver) ∷ []; asked = Some request }
says (Pop store driver) = no_request Anywhere (Some (ByStore store)) ((Id, store) ∷ (Driver, driver) ∷ [])

-- a driver's number, or none in another place
abbrev pub named_driver : Place × ℕ → List ℕ
named_driver (Driver, n) = n ∷ []
named_driver (_, n) = []

-- a client's number, or none in another place
abbrev pub named_client : Place × ℕ → List ℕ
named_client (Client, n) = n ∷ []
named_client (_, n) = []
