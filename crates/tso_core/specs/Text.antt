-- The text of each answer (own choice).
use Rattle.std.specs.Prelude.{ℕ, List, ◌++◌, codes, nat_eq, if◌then◌else◌}
use Rattle.std.specs.Fmt.{decimal}
use Rattle.pd_types.specs.Batch.{first_of}
use Rattle.tso_core.specs.declared.reply.Due.{Due}
use Rattle.tso_core.specs.declared.reply.Due.TheVariants.{Rest, Campaign, Save, Raise, Publish, Arm, Draw}
use Rattle.tso_core.specs.declared.reply.Reply.{Reply}
use Rattle.tso_core.specs.declared.reply.Reply.TheVariants.{Won, Beaten, Lost, TermsSpent, ClockRange, Moved, Idle, NotLeading, Resigned, Got, Again, NotLeader, Stale, Told, Heard, Nothing, OutOfTurn, CellRead, Claimed, Saved, Raised, Probed, Published, Looked, Armed}

-- the word for a due
abbrev pub due_text : Due → List ℕ
due_text Rest = codes "rest"
due_text Campaign = codes "campaign"
due_text Save = codes "save"
due_text Raise = codes "raise"
due_text Publish = codes "publish"
due_text Arm = codes "arm"
due_text Draw = codes "draw"

-- the text of an answer, with its numbers in decimal
abbrev pub reply_text : Reply → List ℕ
reply_text (Won term lo hi) = codes "won term " ++ decimal term ++ codes " lo " ++ decimal lo ++ codes " hi " ++ decimal hi
reply_text (Beaten found) = codes "beaten saved " ++ decimal found.saved ++ codes " term " ++ decimal found.term
reply_text (Lost found) = codes "lost saved " ++ decimal found.saved ++ codes " term " ++ decimal found.term
reply_text TermsSpent = codes "terms-spent"
reply_text ClockRange = codes "clock-range"
reply_text (Moved next hi) = codes "moved next " ++ decimal next ++ codes " hi " ++ decimal hi
reply_text Idle = codes "idle"
reply_text NotLeading = codes "not-leading"
reply_text Resigned = codes "resigned"
reply_text (Got batch) = codes "got term " ++ decimal batch.term ++ codes " driver " ++ decimal batch.driver ++ codes " first " ++ decimal (first_of batch) ++ codes " last " ++ decimal batch.last
reply_text (Again at hi n) = codes "again at " ++ decimal at ++ codes " hi " ++ decimal hi ++ codes " count " ++ decimal n
reply_text NotLeader = codes "not-leader"
reply_text (Stale seen_term) = codes "stale seen " ++ decimal seen_term
reply_text Told = codes "told"
reply_text (Heard seen) = codes "heard term " ++ decimal seen.term ++ codes " last " ++ decimal seen.last
reply_text Nothing = codes "nothing"
reply_text (OutOfTurn expected) = codes "out-of-turn expected " ++ due_text expected
reply_text (CellRead cell) = codes "cell saved " ++ decimal cell.saved ++ codes " term " ++ decimal cell.term
reply_text (Claimed term) = codes "claimed term " ++ decimal term
reply_text (Saved hi) = codes "saved hi " ++ decimal hi
reply_text (Raised cursor) = codes "raised cursor " ++ decimal cursor
reply_text (Probed cursor) = codes "probed cursor " ++ decimal cursor
reply_text (Published hi) = if nat_eq hi 0 then codes "published 0" else codes "published hi " ++ decimal hi
reply_text (Looked term hi) = codes "looked term " ++ decimal term ++ codes " hi " ++ decimal hi
reply_text (Armed at) = codes "armed at " ++ decimal at
