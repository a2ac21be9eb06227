-- Which entries of a journal the present rests on (own choice: a term's cluster is made anew). Each list of entries is the past, the latest first.
use Rattle.std.specs.Prelude.{List, [], ◌∷◌, if◌then◌else◌, Option, Some, None, option_map}
use Rattle.pd_types.specs.declared.request.Request.{Request}
use Rattle.pd_types.specs.declared.request.Request.TheVariants as ask
use Rattle.pd_state.specs.Ctl.{resigns}
use Rattle.pd_state.specs.declared.entry.Entry.{Entry}
use Rattle.pd_state.specs.declared.reply.Reply.{Reply}
use Rattle.pd_state.specs.declared.reply.Reply.TheVariants as replies

-- a Term that was accepted begins a term part
abbrev pub begun : Reply → Entry → Option (List Entry)
begun (replies.Term term stores rules) entry = Some (entry ∷ [])
begun _ entry = None

-- the term part with one entry more; pd-ctl's command to resign gives the term up like a Retire
abbrev pub since_by : Request → Entry → Option (List Entry) → Option (List Entry)
since_by (ask.Term term moment) entry part = begun entry.reply entry
since_by ask.Retire entry part = None
since_by (ask.Ctl moment words) entry part = if resigns words then None else option_map (λ entries. entry ∷ entries) part
since_by _ entry part = option_map (λ entries. entry ∷ entries) part

-- the term part: the entries from the last Term on, where that one was accepted and the term wasn't given up later
abbrev pub since : List Entry → Option (List Entry)
since [] = None
since (entry ∷ past) = since_by entry.request entry (since past)
