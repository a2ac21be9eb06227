-- A report tells that a step was sent only where it is that of an operator that was added and whose step was sent.
use Rattle.std.proofs.Common.{◌≡◌, ◌≢◌, ℕ, zero, suc, ◌+◌, ◌/◌, ◌%◌, Bool, true, false, cond, nat_eq, nat_lt, List, [], ◌∷◌, ◌++◌, get_or, Option, Some, None, refl, sym, ap, ◌∙◌, arith}
use Rattle.std.specs.Fmt.{decimal, digit_glyph, digits, digits_onto}
use Rattle.std.specs.List.{AllByRecursion}
use Rattle.std.specs.Prelude.{◌==◌, Result, Ok, Err, codes, find}
use Rattle.std.proofs.lemmas.Bool.Decides.{nat_tests}
use Rattle.json.specs.Print.{escape_byte, quoted}
use Rattle.serde_json.specs.Data.{Data}
use Rattle.serde_json.specs.Written.{compact_text}
use Rattle.pd_types.specs.declared.region.RegionBeat.{RegionBeat}
use Rattle.pd_types.specs.declared.step.Step.{Step}
use Rattle.region_tree.specs.Ranges.{holds}
use Rattle.store_table.specs.Entries.{entry_at}
use Rattle.store_table.specs.declared.entry.StoreEntry.{StoreEntry}
use Rattle.op_control.specs.Table.{state_of}
use Rattle.op_control.specs.declared.operator.OpState.{OpState}
use Rattle.op_control.specs.declared.turn.Dispatch.{Dispatch}
use Rattle.op_control.specs.declared.turn.Dispatch.TheVariants as dispatch
use Rattle.rule_fit.specs.Suits.{is_among}
use Rattle.pd_ctl.specs.Reports.{check_report, leader_report, operators_report, region_report, report_of, schedulers_report, store_report, stores_report, tso_report}
use Rattle.pd_ctl.specs.Trees.{fault_tree}
use Rattle.pd_ctl.specs.declared.command.Command.{Command}
use Rattle.pd_ctl.specs.declared.command.Command.TheVariants as commands
use Rattle.pd_ctl.specs.declared.fault.CtlFault.{CtlFault}
use Rattle.pd_ctl.specs.declared.parts.Parts.{Parts}
use Rattle.pd_state.specs.AddingText.{dispatch_text}
use Rattle.pd_state.specs.Ctl.{command_report, parts_of, words_report}
use Rattle.pd_state.specs.Reports.{added_tree, ctl_fault_text, done_tree, removal_tree}
use Rattle.pd_state.specs.StepTold.{sent_report}
use Rattle.pd_state.specs.declared.part.Part.{Part}

-- texts that differ in one place
apart : {X : Type 0} (k m n : ℕ) (a b : List ℕ) → m ≢ n → get_or a k 0 ≡ m → get_or b k 0 ≡ n → a ≡ b → X
apart k m n a b other at_a at_b same = absurd (other (sym at_a ∙ ap (λ (text : List ℕ). get_or text k 0) same ∙ at_b))

-- the report of this tree tells of no step that was sent
abbrev pub NoStep : Data → Type 0
NoStep tree = (steps : ℕ) (step : Step) → compact_text tree ≡ sent_report steps step → ⊥

-- the name of its first member begins with another letter
pub fault_no : (text : List ℕ) → NoStep (fault_tree text)
unfolding escape_byte
fault_no text steps step same = apart 2 102 97 _ _ (λ h. absurd (omega (arith, h))) refl refl same

pub done_no : (name : List ℕ) → NoStep (done_tree name)
unfolding escape_byte
done_no name steps step same = apart 2 100 97 _ _ (λ h. absurd (omega (arith, h))) refl refl same

stores_no : (stores : List StoreEntry) (held : List RegionBeat) (now : ℕ) → NoStep (stores_report stores held now)
unfolding escape_byte
stores_no stores held now steps step same = apart 2 99 97 _ _ (λ h. absurd (omega (arith, h))) refl refl same

store_no : (o : Option StoreEntry) (held : List RegionBeat) (now : ℕ) → NoStep (store_report o held now)
unfolding escape_byte
store_no None held now steps step same = fault_no (codes "unknown-store") steps step same
store_no (Some entry) held now steps step same = apart 5 114 101 _ _ (λ h. absurd (omega (arith, h))) refl refl same

region_no : (o : Option RegionBeat) → NoStep (region_report o)
unfolding escape_byte
region_no None steps step same = fault_no (codes "no-region") steps step same
region_no (Some beat) steps step same = apart 2 99 97 _ _ (λ h. absurd (omega (arith, h))) refl refl same

operators_no : (parts : Parts) → NoStep (operators_report parts.operators.now)
unfolding escape_byte
operators_no parts steps step same = apart 2 111 97 _ _ (λ h. absurd (omega (arith, h))) refl refl same

check_no : (region : ℕ) (o : Option OpState) → NoStep (check_report region o)
unfolding escape_byte
check_no region None steps step same = fault_no (codes "absent") steps step same
check_no region (Some state) steps step same = apart 2 114 97 _ _ (λ h. absurd (omega (arith, h))) refl refl same

schedulers_no : (names : List (List ℕ)) → NoStep (schedulers_report names)
unfolding escape_byte
schedulers_no names steps step same = apart 2 115 97 _ _ (λ h. absurd (omega (arith, h))) refl refl same

leader_no : (driver term : ℕ) → NoStep (leader_report driver term)
unfolding escape_byte
leader_no driver term steps step same = apart 2 100 97 _ _ (λ h. absurd (omega (arith, h))) refl refl same

tso_no : (ts : ℕ) → NoStep (tso_report ts)
unfolding escape_byte
tso_no ts steps step same = apart 2 108 97 _ _ (λ h. absurd (omega (arith, h))) refl refl same

removal_no : (name : List ℕ) (names : List (List ℕ)) → NoStep (removal_tree name names)
removal_no name names = by (is_among name names)
  where
    by : (t : Bool) → NoStep (cond t (done_tree (codes "Removed")) (fault_tree (codes "absent")))
    by true = done_no (codes "Removed")
    by false = fault_no (codes "absent")

-- so it is with each report that stands there before anything is done
abbrev pub NoneTold : Option Data → Type 0
NoneTold None = Unit {0}
NoneTold (Some tree) = NoStep tree

report_no : (command : Command) (parts : Parts) → NoneTold (report_of command parts)
report_no commands.Stores parts = stores_no parts.stores.now parts.standing.now parts.clock
report_no (commands.Store id) parts = store_no (entry_at id parts.stores.now) parts.standing.now parts.clock
report_no (commands.Region id) parts = region_no (find (λ (beat : RegionBeat). nat_eq beat.region.id id) parts.standing.now)
report_no (commands.RegionKey key) parts = region_no (find (λ (beat : RegionBeat). holds beat key) parts.standing.now)
report_no commands.OperatorShow parts = operators_no parts
report_no (commands.OperatorCheck region) parts = check_no region (state_of parts.operators.now region)
report_no commands.SchedulerShow parts = schedulers_no parts.names.now
report_no commands.LeaderShow parts = leader_no parts.driver parts.term
report_no (commands.Tso ts) parts = tso_no ts
report_no (commands.StoreDelete id) parts = tt
report_no (commands.StoreLimit id rate kind) parts = tt
report_no (commands.OperatorAdd region wish) parts = tt
report_no (commands.OperatorRemove region) parts = tt
report_no (commands.SchedulerRemove name) parts = tt
report_no commands.LeaderResign parts = tt

command_no : (driver : ℕ) (part : Part) (now : ℕ) (names : List (List ℕ)) (command : Command) → NoneTold (command_report driver part now names command)
command_no driver part now names (commands.SchedulerRemove name) = removal_no name names
command_no driver part now names commands.LeaderResign = done_no (codes "Resigned")
command_no driver part now names command = report_no command (parts_of driver part now names)

pub words_no : (driver : ℕ) (part : Part) (now : ℕ) (names : List (List ℕ)) (told : Result Command CtlFault) → NoneTold (words_report driver part now names told)
words_no driver part now names (Ok command) = command_no driver part now names command
words_no driver part now names (Err fault) = fault_no (ctl_fault_text fault)

-- AN OPERATOR THAT WAS ADDED
-- a number in decimal has no comma
abbrev IsPlain : ℕ → Type 0
IsPlain x = nat_eq x 44 ≡ false

glyph_plain : (d : ℕ) → IsPlain (digit_glyph false d)
glyph_plain d = by (nat_lt d 10)
  where
    more : (a : ℕ) → nat_eq (48 + a) 44 ≡ false
    more a = grind (arith, nat_tests)

    most : (a : ℕ) → nat_eq (87 + a) 44 ≡ false
    most a = grind (arith, nat_tests)

    by : (t : Bool) → nat_eq (cond t (48 + d) (87 + d)) 44 ≡ false
    by true = more d
    by false = most d

digits_plain : (k n : ℕ) (acc : List ℕ) → AllByRecursion IsPlain acc → AllByRecursion IsPlain (digits_onto k 10 false n acc)
digits_plain zero n acc plain = plain
digits_plain (suc k) n acc plain = by (n / 10 == 0) (digits_plain k (n / 10) (digit_glyph false (n % 10) ∷ acc) (glyph_plain (n % 10), plain))
  where
    by : (t : Bool) → AllByRecursion IsPlain (digits_onto k 10 false (n / 10) (digit_glyph false (n % 10) ∷ acc))
        → AllByRecursion IsPlain (cond t (digit_glyph false (n % 10) ∷ acc) (digits_onto k 10 false (n / 10) (digit_glyph false (n % 10) ∷ acc)))
    by true rest = (glyph_plain (n % 10), plain)
    by false rest = rest

decimal_plain : (n : ℕ) → AllByRecursion IsPlain (decimal n)
unfolding digits
decimal_plain n = digits_plain 64 n [] tt

-- what stands behind the first comma
abbrev behind_comma : List ℕ → List ℕ
behind_comma [] = []
behind_comma (x ∷ xs) = cond (nat_eq x 44) xs (behind_comma xs)

passed : (xs rest : List ℕ) → AllByRecursion IsPlain xs → behind_comma (xs ++ 44 ∷ rest) ≡ rest
passed [] rest plain = refl
passed (x ∷ xs) rest plain = ap (λ (t : Bool). cond t (xs ++ 44 ∷ rest) (behind_comma (xs ++ 44 ∷ rest))) plain.0 ∙ passed xs rest plain.1

-- the text behind the number of steps
abbrev answered : Dispatch → List ℕ
answered answer = quoted (codes "now") ++ 58 ∷ (quoted (dispatch_text answer) ++ 125 ∷ [])

added_is : (steps : ℕ) (answer : Dispatch) → behind_comma (compact_text (added_tree steps answer)) ≡ answered answer
unfolding escape_byte
added_is steps answer = passed (decimal steps) (answered answer) (decimal_plain steps)

-- the answer of its dispatch is told, so that none but a sent step reads as one
answer_no : (answer : Dispatch) (step : Step) → ((one : Step) → answer ≢ dispatch.Send one) → answered answer ≡ answered (dispatch.Send step) → ⊥
unfolding escape_byte
answer_no (dispatch.Send one) step other same = absurd (other one refl)
answer_no dispatch.NoOperator step other same = apart 7 110 115 _ _ (λ h. absurd (omega (arith, h))) refl refl same
answer_no (dispatch.Wait held) step other same = apart 7 104 115 _ _ (λ h. absurd (omega (arith, h))) refl refl same
answer_no dispatch.Done step other same = apart 7 100 115 _ _ (λ h. absurd (omega (arith, h))) refl refl same
answer_no (dispatch.Ended state) step other same = apart 7 101 115 _ _ (λ h. absurd (omega (arith, h))) refl refl same

pub added_no : (steps : ℕ) (answer : Dispatch) → ((step : Step) → answer ≢ dispatch.Send step) → NoStep (added_tree steps answer)
added_no steps answer other more step same = answer_no answer step other (sym (added_is steps answer) ∙ ap behind_comma same ∙ added_is more (dispatch.Send step))
