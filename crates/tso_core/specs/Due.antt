-- Which step is an actor's next (own choice: the steps of a lead are a read, a campaign, a save, a raise and a publish; those of a tick a probe, at times a save, a raise and at times a publish; those of a draw a look, an arm and a draw).
use Rattle.std.specs.Prelude.{ℕ, Bool, false, nat_eq}
use Rattle.tso_core.specs.declared.reply.Due.{Due}
use Rattle.tso_core.specs.declared.reply.Due.TheVariants.{Rest, Campaign, Save, Raise, Publish, Arm, Draw}
use Rattle.tso_core.specs.declared.reply.Kind.{Kind}
use Rattle.tso_core.specs.declared.reply.Kind.TheVariants.{Campaign as ToCampaign, Save as ToSave, Raise as ToRaise, Publish as ToPublish, Arm as ToArm, Draw as ToDraw}
use Rattle.tso_core.specs.declared.turn.Turn.{Turn}

-- the place of a due among all
abbrev pub place_of : Due → ℕ
place_of Rest = 0
place_of Campaign = 1
place_of Save = 2
place_of Raise = 3
place_of Publish = 4
place_of Arm = 5
place_of Draw = 6

-- both are the same due
abbrev pub same_due : Due → Due → Bool
same_due a b = nat_eq (place_of a) (place_of b)

-- the due at which a step comes
abbrev pub due_for : Kind → Due
due_for ToCampaign = Campaign
due_for ToSave = Save
due_for ToRaise = Raise
due_for ToPublish = Publish
due_for (ToArm n) = Arm
due_for ToDraw = Draw
due_for kind = Rest

-- a driver between two calls
abbrev pub at_rest : Turn
at_rest = record { due = Rest; next = 0; publishes = false }
