-- The command that words are: a rate that it sets is at most the greatest one, since the words are read so.
use Rattle.std.proofs.Common.{refl, ◌≡◌, ◌≢◌, inl, inr, ℕ, ◌≤◌, Bool, true, false, cond, nat_le, List, [], ◌∷◌, ap, sym, ◌∙◌, subst, Option, Some, None, arith}
use Rattle.std.proofs.lemmas.Bool.Decides.{nat_tests}
use Rattle.std.specs.Option.{option_and_then}
use Rattle.std.specs.Prelude.{Result, Ok, Err}
use Rattle.op_step.specs.declared.wishes.Wish.{Wish}
use Rattle.op_step.specs.declared.wishes.Wish.TheVariants as wishes
use Rattle.pd_lines.specs.Numeral.{number_of}
use Rattle.store_limit.specs.declared.bucket.TheConstants.{MAX_RATE}
use Rattle.store_limit.specs.declared.limits.LimitKind.{LimitKind}
use Rattle.pd_ctl.specs.Commands.{IsRefusal, asked, command_of, numbered, said_by, unless_miscounted, wished}
use Rattle.pd_lines.specs.Words.{and_then}
use Rattle.pd_ctl.specs.Places.{key, kind, name, number, or_bad, rate}
use Rattle.pd_ctl.specs.Table.{behind, least, miscount, most, verb_of}
use Rattle.pd_ctl.specs.Words.{words}
use Rattle.pd_ctl.specs.declared.command.Command.{Command}
use Rattle.pd_ctl.specs.declared.command.Command.TheVariants as commands
use Rattle.pd_ctl.specs.declared.fault.CtlFault.{CtlFault}
use Rattle.pd_ctl.specs.declared.fault.CtlFault.TheVariants as faults
use Rattle.pd_ctl.specs.declared.verb.Verb.{Verb}
use Rattle.pd_ctl.specs.declared.verb.Verb.TheVariants as verbs
use Rattle.pd_state.specs.Ctl.{HasRate, HaveRate}
use Rattle.pd_state.specs.Reports.{command_told}

abbrev kept_rate : Option ℕ → Result ℕ CtlFault
kept_rate o = or_bad (option_and_then (λ n. cond (nat_le n MAX_RATE) (Some n) None) o)

low_rate : (o : Option ℕ) (per : ℕ) → kept_rate o ≡ Ok per → per ≤ MAX_RATE
low_rate None per is = absurd cc
low_rate (Some n) per is = by (nat_le n MAX_RATE) refl is
  where
    by : (t : Bool) → nat_le n MAX_RATE ≡ t → or_bad (cond t (Some n) None) ≡ Ok per → per ≤ MAX_RATE
    by true low h = let same : n ≡ per = cc in subst (λ (m : ℕ). m ≤ MAX_RATE) same (grind (arith, nat_tests))
    by false low h = absurd cc

limit_rate : (n : ℕ) (word kinds : List ℕ) (r : Result ℕ CtlFault) (k : Result LimitKind CtlFault) → rate word ≡ r → HaveRate (and_then r (λ per. and_then k (λ of. Ok (commands.StoreLimit n per of))))
limit_rate n word kinds (Ok per) (Ok of) is = low_rate (number_of word) per is
limit_rate n word kinds (Ok per) (Err fault) is = tt
limit_rate n word kinds (Err fault) k is = tt

limit_rates : (id : Result ℕ CtlFault) (word kinds : List ℕ) → HaveRate (and_then id (λ n. and_then (rate word) (λ per. and_then (kind kinds) (λ of. Ok (commands.StoreLimit n per of)))))
limit_rates (Ok n) word kinds = limit_rate n word kinds (rate word) (kind kinds) refl
limit_rates (Err fault) word kinds = tt

one_rate : {A : Type 0} (r : Result A CtlFault) (make : A → Command) → ((a : A) → HasRate (make a)) → HaveRate (and_then r (λ a. Ok (make a)))
one_rate (Ok a) make h = h a
one_rate (Err fault) make h = tt

numbered_rates : (make : ℕ → Command) → ((n : ℕ) → HasRate (make n)) → (ws : List (List ℕ)) → HaveRate (numbered make ws)
numbered_rates make h [] = tt
numbered_rates make h (word ∷ []) = one_rate (number word) make h
numbered_rates make h (word ∷ other ∷ ws) = tt

pair_rate : (r s : Result ℕ CtlFault) (make : ℕ → ℕ → Command) → ((a b : ℕ) → HasRate (make a b)) → HaveRate (and_then r (λ a. and_then s (λ b. Ok (make a b))))
pair_rate (Ok a) s make h = one_rate s (make a) (h a)
pair_rate (Err fault) s make h = tt

wished_rates : (make : ℕ → Wish) (ws : List (List ℕ)) → HaveRate (wished make ws)
wished_rates make [] = tt
wished_rates make (one ∷ []) = tt
wished_rates make (one ∷ two ∷ []) = pair_rate (number one) (number two) (λ r s. commands.OperatorAdd r (make s)) (λ r s. tt)
wished_rates make (one ∷ two ∷ three ∷ ws) = tt

asked_rates : (verb : Verb) (ws : List (List ℕ)) → HaveRate (asked verb ws)
asked_rates verbs.Store [] = tt
asked_rates verbs.Store (word ∷ ws) = numbered_rates commands.Store (λ n. tt) (word ∷ ws)
asked_rates verbs.StoreDelete ws = numbered_rates commands.StoreDelete (λ n. tt) ws
asked_rates verbs.StoreLimit [] = tt
asked_rates verbs.StoreLimit (one ∷ []) = tt
asked_rates verbs.StoreLimit (one ∷ two ∷ []) = tt
asked_rates verbs.StoreLimit (one ∷ two ∷ three ∷ []) = limit_rates (number one) two three
asked_rates verbs.StoreLimit (one ∷ two ∷ three ∷ four ∷ ws) = tt
asked_rates verbs.Region ws = numbered_rates commands.Region (λ n. tt) ws
asked_rates verbs.RegionKey [] = tt
asked_rates verbs.RegionKey (word ∷ []) = one_rate (key word) commands.RegionKey (λ k. tt)
asked_rates verbs.RegionKey (word ∷ other ∷ ws) = tt
asked_rates verbs.OperatorShow ws = tt
asked_rates verbs.AddPeer ws = wished_rates _ ws
asked_rates verbs.RemovePeer ws = wished_rates _ ws
asked_rates verbs.TransferLeader ws = wished_rates _ ws
asked_rates verbs.TransferPeer [] = tt
asked_rates verbs.TransferPeer (one ∷ []) = tt
asked_rates verbs.TransferPeer (one ∷ two ∷ []) = tt
asked_rates verbs.TransferPeer (one ∷ two ∷ three ∷ []) = moved (number one)
  where
    moved : (r : Result ℕ CtlFault) → HaveRate (and_then r (λ region. and_then (number two) (λ f. and_then (number three) (λ t. Ok (commands.OperatorAdd region (wishes.MovePeer f t))))))
    moved (Ok region) = pair_rate (number two) (number three) (λ f t. commands.OperatorAdd region (wishes.MovePeer f t)) (λ f t. tt)
    moved (Err fault) = tt
asked_rates verbs.TransferPeer (one ∷ two ∷ three ∷ four ∷ ws) = tt
asked_rates verbs.OperatorRemove ws = numbered_rates commands.OperatorRemove (λ n. tt) ws
asked_rates verbs.OperatorCheck ws = numbered_rates commands.OperatorCheck (λ n. tt) ws
asked_rates verbs.SchedulerShow ws = tt
asked_rates verbs.SchedulerRemove [] = tt
asked_rates verbs.SchedulerRemove (word ∷ []) = one_rate (name word) commands.SchedulerRemove (λ n. tt)
asked_rates verbs.SchedulerRemove (word ∷ other ∷ ws) = tt
asked_rates verbs.LeaderShow ws = tt
asked_rates verbs.LeaderResign ws = tt
asked_rates verbs.Tso ws = numbered_rates commands.Tso (λ n. tt) ws

counted_rates : (fault : Option CtlFault) (read : Result Command CtlFault) → HaveRate read → HaveRate (unless_miscounted fault read)
counted_rates None read h = h
counted_rates (Some fault) read h = tt

verb_rates : (o : Option Verb) (ws : List (List ℕ)) → HaveRate (said_by o ws)
verb_rates None ws = tt
verb_rates (Some verb) ws = counted_rates (miscount (least verb) (most verb) (behind verb ws)) (asked verb (behind verb ws)) (asked_rates verb (behind verb ws))

pub rates : (line : List ℕ) → HaveRate (command_told line)
unfolding command_told
rates line = verb_rates (verb_of (words line)) (words line)

-- the same, of what was read
pub read_rates : (told : Result Command CtlFault) (line : List ℕ) → told ≡ command_told line → HaveRate told
read_rates told line is = subst HaveRate (sym is) (rates line)

-- a command or a fault that was read is what the words are
pub told_ok : (line : List ℕ) (command : Command) → command_of line ≡ Ok command → Ok command ≡ command_told line
unfolding command_told
told_ok line command is = sym is

pub told_err : (line : List ℕ) (fault why : CtlFault) → IsRefusal (command_of line) fault → fault ≢ faults.NoMemory → why ≡ fault → Err why ≡ command_told line
unfolding command_told
told_err line fault why (inl is) other same = absurd (other is)
told_err line fault why (inr is) other same = ap (λ (f : CtlFault). Err f) same ∙ sym is
