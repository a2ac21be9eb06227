-- The lines that ask a driver's cluster (own choice): those by which stores speak, of StoreLines and BeatLines, and the driver's
-- own of RuleLines, CheckLines and CtlLines.
use Rattle.std.specs.Prelude.{ℕ, List, codes, Option, Result}
use Rattle.std.specs.List.{find}
use Rattle.std.specs.Str.{bytes_eq}
use Rattle.pd_script.specs.BeatLines.{beat_of}
use Rattle.pd_script.specs.CheckLines.{check_of, patrol_of}
use Rattle.pd_script.specs.CtlLines.{ctl_of, schedule_of}
use Rattle.pd_script.specs.RuleLines.{rule_of, unrule_of}
use Rattle.pd_script.specs.StoreLines.{alive_of, hello_of}
use Rattle.pd_script.specs.Words.{words}
use Rattle.pd_script.specs.declared.ask.Asked.{Asked}
use Rattle.pd_script.specs.declared.request_verb.RequestVerb.{RequestVerb}
use Rattle.pd_script.specs.declared.request_verb.RequestVerb.TheVariants.{Hello as ToHello, Alive as ToAlive, Beat as ToBeat, Rule as ToRule, Unrule as ToUnrule, Check as ToCheck, Patrol as ToPatrol, Schedule as ToSchedule, Ctl as ToCtl}
use Rattle.pd_script.specs.declared.request_verb.TheConstants.{REQUEST_VERBS}
use Rattle.pd_script.specs.declared.refusal.Reason.{Reason}

-- the first word of such a line
abbrev pub request_word : RequestVerb → List ℕ
request_word ToHello = codes "hello"
request_word ToAlive = codes "alive"
request_word ToBeat = codes "beat"
request_word ToRule = codes "rule"
request_word ToUnrule = codes "unrule"
request_word ToCheck = codes "check"
request_word ToPatrol = codes "patrol"
request_word ToSchedule = codes "schedule"
request_word ToCtl = codes "ctl"

-- the one of all these that a word names
abbrev pub request_verb_of : List ℕ → Option RequestVerb
request_verb_of word = find (λ verb. bytes_eq word (request_word verb)) REQUEST_VERBS

-- what stands behind the first word, by its words or as it is
abbrev pub asked_of : RequestVerb → List ℕ → Result Asked Reason
asked_of ToHello rest = hello_of (words rest)
asked_of ToAlive rest = alive_of (words rest)
asked_of ToBeat rest = beat_of (words rest)
asked_of ToRule rest = rule_of rest
asked_of ToUnrule rest = unrule_of (words rest)
asked_of ToCheck rest = check_of (words rest)
asked_of ToPatrol rest = patrol_of (words rest)
asked_of ToSchedule rest = schedule_of (words rest)
asked_of ToCtl rest = ctl_of rest
