-- Which calls were made, by what was asked.
use Rattle.std.proofs.Common.{refl, ◌≡◌, ◌≢◌, ℕ, ◌+◌, ◌≤◌, ◌<◌, Bool, true, false, cond, nat_le, List, [], ◌∷◌, ◌++◌, length, ap, sym, subst, ◌∙◌, Option, Some, None, arith}
use Rattle.std.specs.List.{cons_option}
use Rattle.std.specs.Option.{option_map}
use Rattle.std.specs.Prelude.{Result, Ok, Err}
use Rattle.pd_types.specs.declared.region.RegionBeat.{RegionBeat}
use Rattle.pd_types.specs.declared.request.Request.{Request}
use Rattle.pd_types.specs.declared.request.Request.TheVariants as ask
use Rattle.pd_types.specs.declared.store.Label.{Label}
use Rattle.pd_types.specs.declared.store.StoreState.{StoreState}
use Rattle.pd_types.specs.declared.store.StoreState.TheVariants as states
use Rattle.store_table.specs.declared.entry.StoreEntry.{StoreEntry}
use Rattle.store_table.specs.declared.table.TheConstants.{MOST_STORES}
use Rattle.store_table.specs.Entries.{entry_at, state_at}
use Rattle.meta_store.specs.declared.record.MetaAnswer.{MetaAnswer}
use Rattle.meta_store.specs.declared.record.MetaCall.{MetaCall}
use Rattle.meta_store.specs.declared.record.MetaCall.TheVariants as calls
use Rattle.meta_store.specs.Asked.{AreAsked}
use Rattle.meta_store.specs.Cells.{cell_at, revision_in}
use Rattle.meta_store.specs.Past.{is_accepted}
use Rattle.meta_store.specs.Stores.{store_bytes, store_key}
use Rattle.sched_api.specs.declared.scheduler.Said.{Said}
use Rattle.pd_state.specs.declared.part.Part.{Part}
use Rattle.pd_state.specs.declared.reply.Reply.{Reply}
use Rattle.pd_state.specs.declared.reply.Reply.TheVariants as replies
use Rattle.pd_state.specs.Calls.{AreCalls, AreLeft, greeted_record, hello_calls, in_turn, next_call, put_call, unless}
use Rattle.pd_types.specs.declared.rule.Rule.{Rule}
use Rattle.rule_set.specs.Changes.{remove_refusal}
use Rattle.rule_text.specs.declared.fault.RuleFault.{RuleFault}
use Rattle.pd_state.specs.Calls.{default_put, rule_calls, rule_delete, rule_put, told_calls, unrule_calls}
use Rattle.pd_state.specs.Replies.{hello_refusal, removal_refused, rule_refusal}
use Rattle.pd_state.specs.StoredRules.{rule_told}
use Rattle.pd_state.specs.State.{greeting, kept_state}

-- behind an answer, the calls that are left
behind : (t : Bool) (call : MetaCall) (calls : List MetaCall) (answer : MetaAnswer) (before answers : List MetaAnswer) → is_accepted answer.verdict ≡ t → AreAsked (in_turn (call ∷ calls)) (answer ∷ before) answers
    → AreLeft t (AreAsked (in_turn calls) before answers) answers
behind true call calls answer before [] is asked = sym (ap (λ (t : Bool). cond t (in_turn calls before) None) is) ∙ asked
behind true call calls answer before (a ∷ answers) is asked =
    (sym (ap (λ (t : Bool). cond t (in_turn calls before) None) is) ∙ asked.0, behind true call calls answer (before ++ a ∷ []) answers is asked.1)
behind false call calls answer before [] is asked = refl
behind false call calls answer before (a ∷ answers) is asked = absurd (let both : None ≡ Some a.call = sym (ap (λ (t : Bool). cond t (in_turn calls before) None) is) ∙ asked.0 in cc)

some_call : (a b : MetaCall) → Some a ≡ Some b → b ≡ a
some_call a b h = cc

left : (t : Bool) (A B : Type 0) (answers : List MetaAnswer) → (A → B) → AreLeft t A answers → AreLeft t B answers
left true A B answers f a = f a
left false A B answers f none = none

pub asked_calls : (calls : List MetaCall) (answers : List MetaAnswer) → AreAsked (in_turn calls) [] answers → AreCalls calls answers
asked_calls [] [] asked = refl
asked_calls [] (a ∷ answers) asked = absurd (let h = asked.0 in cc)
asked_calls (call ∷ calls) [] asked = absurd cc
asked_calls (call ∷ calls) (a ∷ answers) asked =
    (some_call call a.call asked.0, left (is_accepted a.verdict) (AreAsked (in_turn calls) [] answers) (AreCalls calls answers) answers (asked_calls calls answers) (behind (is_accepted a.verdict) call calls a [] answers refl asked.1))

left_few : (t : Bool) (A : Type 0) (n : ℕ) (answers : List MetaAnswer) → (A → length answers ≤ n) → AreLeft t A answers → length answers ≤ n
left_few true A n answers f a = f a
left_few false A n answers f none = omega (arith, ap length none)

pub few_calls : (calls : List MetaCall) (answers : List MetaAnswer) → AreCalls calls answers → length answers ≤ length calls
few_calls [] answers are = omega (arith, ap length are)
few_calls (call ∷ calls) [] are = omega arith
few_calls (call ∷ calls) (a ∷ answers) are =
    let rest = left_few (is_accepted a.verdict) (AreCalls calls answers) (length calls) answers (few_calls calls answers) are.1 in
    omega (arith, rest)

pub no_calls : (answers : List MetaAnswer) → AreAsked (λ before. None) [] answers → answers ≡ []
no_calls [] asked = refl
no_calls (a ∷ answers) asked = absurd (let h = asked.0 in cc)

pub unless_few : (o : Option Reply) (call : MetaCall) → length (unless o (call ∷ [])) ≤ 1
unless_few None call = omega arith
unless_few (Some reply) call = omega arith

-- setting a rule makes two calls at most, and removing one makes one
unless_less : (o : Option Reply) (calls : List MetaCall) → length (unless o calls) ≤ length calls
unless_less None calls = omega arith
unless_less (Some reply) calls = omega arith

one_more : (o : Option MetaCall) (calls : List MetaCall) → length (cons_option o calls) ≤ length calls + 1
one_more None calls = omega arith
one_more (Some call) calls = omega arith

told_few : (part : Part) (told : Result Rule RuleFault) → length (told_calls part told) ≤ 2
told_few part (Err fault) = omega arith
told_few part (Ok rule) = omega (arith, one_more (default_put part rule) (rule_put part rule ∷ []))

pub rule_few : (part : Part) (told : Result Rule RuleFault) → length (rule_calls part told) ≤ 2
rule_few part told =
    let less = unless_less (rule_refusal told part.rules) (told_calls part told) in
    let two = told_few part told in
    omega (arith, less, two)

pub unrule_few : (part : Part) (group id : List ℕ) → length (unrule_calls part group id) ≤ 1
unrule_few part group id =
    let less = unless_less (removal_refused (remove_refusal group id part.rules)) (cons_option (rule_delete part group id) []) in
    let one = one_more (rule_delete part group id) [] in
    omega (arith, less, one)

-- a request that makes two calls at most: each but those that add operators
abbrev pub AsksFew : Request → Type 0
AsksFew (ask.Check moment region) = ⊥
AsksFew (ask.Patrol moment workers) = ⊥
AsksFew (ask.Schedule moment) = ⊥
AsksFew (ask.Ctl moment words) = ⊥
AsksFew _ = Unit {0}

pub two_calls : (part : Option Part) (request : Request) (said : List Said) (answers : List MetaAnswer) → AsksFew request → AreAsked (next_call part request said) [] answers → length answers ≤ 2
two_calls part (ask.Term term moment) said answers few_asked asked = omega (arith, few_calls (calls.Lead term ∷ []) answers (asked_calls (calls.Lead term ∷ []) answers asked))
two_calls (Some part) (ask.Hello store moment address labels) said answers few_asked asked =
    let few = few_calls (hello_calls part store address labels) answers (asked_calls (hello_calls part store address labels) answers asked) in
    let one = unless_few (hello_refusal (state_at store part.stores) (length part.stores)) (put_call part (store_key store) (store_bytes (greeted_record part store address labels))) in
    omega (arith, few, one)
two_calls (Some part) (ask.Rule moment json) said answers few_asked asked =
    let few = few_calls (rule_calls part (rule_told json)) answers (asked_calls (rule_calls part (rule_told json)) answers asked) in
    let two = rule_few part (rule_told json) in
    omega (arith, few, two)
two_calls (Some part) (ask.Unrule moment group id) said answers few_asked asked =
    let few = few_calls (unrule_calls part group id) answers (asked_calls (unrule_calls part group id) answers asked) in
    let one = unrule_few part group id in
    omega (arith, few, one)
two_calls part (ask.Check moment region) said answers few_asked asked = absurd few_asked
two_calls part (ask.Patrol moment workers) said answers few_asked asked = absurd few_asked
two_calls part (ask.Schedule moment) said answers few_asked asked = absurd few_asked
two_calls part (ask.Ctl moment words) said answers few_asked asked = absurd few_asked
two_calls _ _ said answers few_asked asked = omega (arith, ap length (no_calls answers asked))

-- the calls of each request
pub term_calls : (part : Option Part) (term moment : ℕ) (answers : List MetaAnswer) → AreAsked (next_call part (ask.Term term moment) []) [] answers → AreCalls (calls.Lead term ∷ []) answers
term_calls part term moment answers asked = asked_calls (calls.Lead term ∷ []) answers asked

room : (known : ℕ) → known < 256 → hello_refusal None known ≡ None
room known few = ap (λ (t : Bool). cond t (Some replies.Limit) None) (not_full known few)
  where
    not_full : (known : ℕ) → known < 256 → nat_le MOST_STORES known ≡ false
    not_full known few = grind arith

pub new_calls : (part : Part) (store moment : ℕ) (address : List ℕ) (labels : List Label) (answers : List MetaAnswer) → AreAsked (next_call (Some part) (ask.Hello store moment address labels) []) [] answers
    → entry_at store part.stores ≡ None → length part.stores < 256
    → AreCalls (calls.Put part.term (store_key store) (revision_in (cell_at (store_key store) part.known)) (store_bytes (record { id = store; address = address; labels = labels; state = states.Up })) ∷ []) answers
new_calls part store moment address labels answers asked none few =
    let free : hello_refusal (state_at store part.stores) (length part.stores) ≡ None = ap (λ (o : Option StoreEntry). hello_refusal (option_map (λ (e : StoreEntry). e.store.state) o) (length part.stores)) none ∙ room (length part.stores) few in
    let are : hello_calls part store address labels ≡ put_call part (store_key store) (store_bytes (greeting store address labels)) ∷ [] =
    ap (λ (o : Option Reply). unless o (put_call part (store_key store) (store_bytes (greeted_record part store address labels)) ∷ [])) free
    ∙ ap (λ (o : Option StoreEntry). put_call part (store_key store) (store_bytes (kept_state (option_map (λ (e : StoreEntry). e.store) o) (greeting store address labels))) ∷ []) none in
    subst (λ (l : List MetaCall). AreCalls l answers) are (asked_calls (hello_calls part store address labels) answers asked)

free_state : (state : StoreState) (known : ℕ) → state ≢ states.Tombstone → hello_refusal (Some state) known ≡ None
free_state states.Tombstone known other = absurd (other refl)
free_state states.Up known other = refl
free_state states.Offline known other = refl

pub known_calls : (part : Part) (store moment : ℕ) (address : List ℕ) (labels : List Label) (known : StoreEntry) (answers : List MetaAnswer) → AreAsked (next_call (Some part) (ask.Hello store moment address labels) []) [] answers
    → entry_at store part.stores ≡ Some known → known.store.state ≢ states.Tombstone
    → AreCalls (calls.Put part.term (store_key store) (revision_in (cell_at (store_key store) part.known)) (store_bytes (record { id = store; address = address; labels = labels; state = known.store.state })) ∷ []) answers
known_calls part store moment address labels known answers asked there other =
    let free : hello_refusal (state_at store part.stores) (length part.stores) ≡ None =
    ap (λ (o : Option StoreEntry). hello_refusal (option_map (λ (e : StoreEntry). e.store.state) o) (length part.stores)) there ∙ free_state known.store.state (length part.stores) other in
    let are : hello_calls part store address labels ≡ put_call part (store_key store) (store_bytes (kept_state (Some known.store) (greeting store address labels))) ∷ [] =
    ap (λ (o : Option Reply). unless o (put_call part (store_key store) (store_bytes (greeted_record part store address labels)) ∷ [])) free
    ∙ ap (λ (o : Option StoreEntry). put_call part (store_key store) (store_bytes (kept_state (option_map (λ (e : StoreEntry). e.store) o) (greeting store address labels))) ∷ []) there in
    subst (λ (l : List MetaCall). AreCalls l answers) are (asked_calls (hello_calls part store address labels) answers asked)

pub none_left : (answers : List MetaAnswer) → AreCalls [] answers → answers ≡ []
none_left [] h = refl
none_left (a ∷ answers) h = h

pub refused_calls : (part : Part) (store moment : ℕ) (address : List ℕ) (labels : List Label) (reply : Reply) (answers : List MetaAnswer) → AreAsked (next_call (Some part) (ask.Hello store moment address labels) []) [] answers
    → hello_refusal (state_at store part.stores) (length part.stores) ≡ Some reply → answers ≡ []
refused_calls part store moment address labels reply answers asked is =
    none_left answers (asked_calls [] answers (subst (λ (o : Option Reply). AreAsked (in_turn (unless o (put_call part (store_key store) (store_bytes (greeted_record part store address labels)) ∷ []))) [] answers) is asked))

pub alive_calls : (part : Option Part) (store moment : ℕ) (answers : List MetaAnswer) → AreAsked (next_call part (ask.Alive store moment) []) [] answers → answers ≡ []
alive_calls None store moment answers asked = no_calls answers asked
alive_calls (Some part) store moment answers asked = no_calls answers asked

pub retire_calls : (part : Option Part) (answers : List MetaAnswer) → AreAsked (next_call part ask.Retire []) [] answers → answers ≡ []
retire_calls None answers asked = no_calls answers asked
retire_calls (Some part) answers asked = no_calls answers asked

pub beat_calls : (part : Option Part) (store moment : ℕ) (beat : RegionBeat) (answers : List MetaAnswer) → AreAsked (next_call part (ask.Beat store moment beat) []) [] answers → answers ≡ []
beat_calls None store moment beat answers asked = no_calls answers asked
beat_calls (Some part) store moment beat answers asked = no_calls answers asked
