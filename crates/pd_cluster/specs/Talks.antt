-- What the benches of schedulers say in a run: all that is known of them (own choice). Nothing is believed of what they say.
use Rattle.std.specs.Prelude.{◌≡◌, ℕ, ◌+◌, nat_eq, List, [], ◌∷◌, ◌++◌, drop, flat_map, get_or, if◌then◌else◌, length, replicate, Option, Some, None}
use Rattle.sched_api.specs.Benches.{Seats, names_of}
use Rattle.sched_api.specs.declared.scheduler.Said.{Said as Heeded}
use Rattle.pd_state.specs.BenchHeard.{names_left}
use Rattle.pd_state.specs.declared.reply.Reply.{Reply}
use Rattle.pd_state.specs.declared.reply.Reply.TheVariants as replies
use Rattle.pd_cluster.specs.Answers.{Answer, driver_in}
use Rattle.pd_cluster.specs.declared.said.Said.{Said}
use Rattle.pd_cluster.specs.declared.said.Said.TheVariants.{ByOracle, ByCluster, Popped}

-- the names of a bench's schedulers as they are, and what it goes on to say
pub record Talk : Type 0 where
  pub names : List (List ℕ)
  pub said : List Heeded

-- the benches of schedulers before a run and after it: the first driver's, the second one's, and so on
pub record Benches : Type 0 where
  pub old : List Seats
  pub new : List Seats

-- no scheduler, which says nothing
abbrev pub silence : Talk
silence = record { names = []; said = [] }

-- the bench of a driver, by its number; the first place is nobody's
abbrev pub talk_at : List Talk → ℕ → Talk
talk_at talks driver = get_or talks driver silence

-- once it said this, and the first scheduler of this name went
abbrev pub talk_left : Talk → List Heeded → Option (List ℕ) → Talk
talk_left talk said gone = record { names = names_left gone talk.names; said = drop (length said) talk.said }

-- the benches as they are, where in the end they said these
abbrev pub talks_from : List Seats → List Seats → List Talk
talks_from [] new = []
talks_from (one ∷ old) [] = record { names = names_of one; said = [] } ∷ talks_from old []
talks_from (one ∷ old) (other ∷ new) = record { names = names_of one; said = drop (length one.said) other.said } ∷ talks_from old new

-- the same by the driver's number, behind a place that is nobody's; at least so many more places have silence
abbrev pub talks_of : ℕ → List Seats → List Seats → List Talk
talks_of places old new = silence ∷ (talks_from old new ++ replicate places silence)

-- the benches only say more: each keeps what it said and may go on
abbrev pub GoOn : List Seats → List Seats → Type 0
GoOn [] [] = Unit {0}
GoOn (one ∷ old) (other ∷ new) = (other.said ≡ one.said ++ drop (length one.said) other.said) × GoOn old new
GoOn [] (other ∷ new) = ⊥
GoOn (one ∷ old) [] = ⊥

-- what an answer tells that a scheduler said
abbrev pub heeded : Reply → List Heeded
heeded (replies.Silent name) = record { name = name; proposal = None } ∷ []
heeded (replies.Proposed name proposal came) = record { name = name; proposal = Some proposal } ∷ []
heeded _ = []

-- the same of what is printed for a line: the oracle and a store that takes a message tell of none
abbrev pub heeded_by : Said → List Heeded
heeded_by (ByOracle reply) = []
heeded_by (ByCluster reply) = heeded reply
heeded_by (Popped message) = []

-- what the answers to this driver's own lines tell that its schedulers said, in order
abbrev pub heeded_of : ℕ → List Answer → List Heeded
heeded_of driver answers = flat_map (λ (answer : Answer). if nat_eq (driver_in answer.line.actor) driver then heeded_by answer.said else []) answers

-- what the benches said, from that of this driver on, grew by just what these answers tell
abbrev pub AreHeeded : List Answer → ℕ → List Seats → List Seats → Type 0
AreHeeded answers driver [] [] = Unit {0}
AreHeeded answers driver (one ∷ old) (other ∷ new) = (other.said ≡ one.said ++ heeded_of driver answers) × AreHeeded answers (driver + 1) old new
AreHeeded answers driver [] (other ∷ new) = ⊥
AreHeeded answers driver (one ∷ old) [] = ⊥
