-- The clock, by the moments of the entries, and the ends of a term.
use Rattle.std.proofs.Common.{refl, ◌≡◌, ◌≢◌, ℕ, Bool, true, cond, suc, ◌≤◌, List, [], ◌∷◌, map, max, Option, subst, ap, sym, ◌∙◌, Some, None, arith, ◌⊎◌, inl, inr}
use Rattle.std.proofs.lemmas.List.Elements.{All-cons}
use Rattle.std.specs.List.{All, Any}
use Rattle.std.specs.FinMap.{get-empty}
use Rattle.std.specs.Option.{option_map}
use Rattle.std.specs.Ordering.{nat_cmp}
use Rattle.std.specs.Prelude.{IfSome}
use Rattle.std.proofs.lemmas.List.Elements.{All-map}
use Rattle.pd_types.specs.declared.oracle.Actor.{Actor}
use Rattle.pd_types.specs.declared.step.StepMsg.{StepMsg}
use Rattle.pd_types.specs.declared.request.Request.{Request}
use Rattle.pd_types.specs.declared.request.Request.TheVariants as ask
use Rattle.pd_types.specs.declared.store.StoreRec.{StoreRec}
use Rattle.store_table.specs.declared.entry.StoreEntry.{StoreEntry}
use Rattle.op_control.specs.declared.operator.Operator.{Operator}
use Rattle.meta_store.specs.declared.record.MetaAnswer.{MetaAnswer}
use Rattle.pd_state.specs.declared.entry.Entry.{Entry}
use Rattle.pd_state.specs.declared.heard.Heard.{Heard}
use Rattle.pd_state.specs.declared.reply.Reply.{Reply}
use Rattle.pd_state.specs.HandedOut.{stores_told}
use Rattle.pd_state.specs.Heard.{handed_out, heard_of}
use Rattle.pd_state.specs.Known.{BeginsAnew}
use Rattle.pd_state.specs.Steps.{loaded_at}
use Rattle.pd_state.specs.declared.part.Part.{Part}
use Rattle.pd_state.specs.declared.reply.Reply.TheVariants as replies
use Rattle.pd_state.specs.Ctl.{resigns}
use Rattle.pd_state.specs.Since.{begun, since, since_by}
use Rattle.pd_state.specs.State.{moment_of, clock_of, part_of, part_after}

abbrev entry_of : Actor → List StepMsg → ℕ → Request → Heard → Reply → Entry
entry_of actor sends line request heard reply = record { actor = actor; line = line; request = request; answers = heard.answers; bench = heard.bench; names = heard.names; sends = sends; reply = reply }

pub clock_most : (entries : List Entry) → All (λ (entry : Entry). moment_of entry.request ≤ clock_of entries) entries
clock_most [] = λ k d low. absurd (omega arith)
clock_most (e ∷ entries) =
    All-cons (λ (entry : Entry). moment_of entry.request ≤ clock_of (e ∷ entries)) e entries (omega arith) (λ k d low. let rest = clock_most entries k d low in omega (arith, rest))

pub clock_one : (entries : List Entry) → entries ≢ [] → Any (λ (entry : Entry). moment_of entry.request ≡ clock_of entries) entries
clock_one [] some = absurd (some refl)
clock_one (e ∷ []) some = (0, e, omega arith, refl, omega arith)
clock_one (e ∷ f ∷ entries) some = by (which (clock_of (f ∷ entries)) (moment_of e.request)) (clock_one (f ∷ entries) (λ h. cc))
  where
    which : (a b : ℕ) → (max a b ≡ b) ⊎ (max a b ≡ a)
    which a b = grind arith

    by : (max (clock_of (f ∷ entries)) (moment_of e.request) ≡ moment_of e.request) ⊎ (max (clock_of (f ∷ entries)) (moment_of e.request) ≡ clock_of (f ∷ entries))
        → Any (λ (entry : Entry). moment_of entry.request ≡ clock_of (f ∷ entries)) (f ∷ entries) → Any (λ (entry : Entry). moment_of entry.request ≡ clock_of (e ∷ f ∷ entries)) (e ∷ f ∷ entries)
    by (inl own) rest = (0, e, omega arith, refl, sym own)
    by (inr old) (k, x, low, at, is) = (suc k, x, omega arith, at, is ∙ sym old)

pub retired : (past : List Entry) (entry : Entry) → entry.request ≡ ask.Retire → part_after (entry ∷ past) ≡ None
retired past entry is = ap (λ (r : Request). option_map part_of (since_by r entry (since past))) is

pub resigned : (past : List Entry) (entry : Entry) (moment : ℕ) (words : List ℕ) → resigns words ≡ true → entry.request ≡ ask.Ctl moment words → part_after (entry ∷ past) ≡ None
resigned past entry moment words gives is =
    ap (λ (r : Request). option_map part_of (since_by r entry (since past))) is ∙ ap (λ (t : Bool). option_map part_of (cond t None (option_map (λ (es : List Entry). entry ∷ es) (since past)))) gives

begun_stores : (moment : ℕ) (recs : List StoreRec) → map (λ (entry : StoreEntry). entry.store) (map (loaded_at moment) recs) ≡ recs
begun_stores moment [] = refl
begun_stores moment (rec ∷ recs) = ap (λ (l : List StoreRec). rec ∷ l) (begun_stores moment recs)

begun_anew : (actor : Actor) (sends : List StepMsg) (line term moment : ℕ) (known : Heard) (reply : Reply) → BeginsAnew (part_of (entry_of actor sends line (ask.Term term moment) known reply ∷ [])) term moment (handed_out known.answers)
begun_anew actor sends line term moment known reply = record {
  term_is = refl;
  began_is = refl;
  clock_is = omega arith;
  stores = begun_stores moment (stores_told (handed_out known.answers));
  silent = All-map (λ (entry : StoreEntry). entry.beat ≡ None) (loaded_at moment) (stores_told (handed_out known.answers)) (λ k d low. refl);
  regions = refl;
  rules = refl;
  idle = λ region. ap (option_map (λ (op : Operator). op.state)) (get-empty nat_cmp region);
  free = refl;
  limits = refl;
  window = refl;
}

abbrev Begun : Option Part → ℕ → ℕ → List MetaAnswer → Type 0
Begun part term moment answers = IfSome part (λ (p : Part). BeginsAnew p term moment (handed_out answers))

pub term_begins : (past : List Entry) (entry : Entry) (term moment number stores rules : ℕ) → entry.request ≡ ask.Term term moment → entry.reply ≡ replies.Term number stores rules → Begun (part_after (entry ∷ past)) term moment entry.answers
term_begins past entry term moment number stores rules asked is =
    let at : since_by entry.request entry (since past) ≡ Some (entry ∷ []) = ap (λ (r : Request). since_by r entry (since past)) asked ∙ ap (λ (p : Reply). begun p entry) is in
    let whole : entry_of entry.actor entry.sends entry.line (ask.Term term moment) (heard_of entry) entry.reply ≡ entry = ap (λ (r : Request). entry_of entry.actor entry.sends entry.line r (heard_of entry) entry.reply) (sym asked) in
    subst (λ (s : Option (List Entry)). Begun (option_map part_of s) term moment entry.answers) (sym at)
    (subst (λ (e : Entry). BeginsAnew (part_of (e ∷ [])) term moment (handed_out entry.answers)) whole (begun_anew entry.actor entry.sends entry.line term moment (heard_of entry) entry.reply))

pub term_begun : (past : List Entry) (entry : Entry) (term moment number stores rules : ℕ) → entry.request ≡ ask.Term term moment → entry.reply ≡ replies.Term number stores rules → part_after (entry ∷ past) ≢ None
term_begun past entry term moment number stores rules asked is none =
    let at : since_by entry.request entry (since past) ≡ Some (entry ∷ []) = ap (λ (r : Request). since_by r entry (since past)) asked ∙ ap (λ (p : Reply). begun p entry) is in
    let both : Some (part_of (entry ∷ [])) ≡ None = sym (ap (λ (s : Option (List Entry)). option_map part_of s) at) ∙ none in
    cc

pub term_refused : (past : List Entry) (entry : Entry) (term moment : ℕ) (reply : Reply) → begun reply entry ≡ None → entry.request ≡ ask.Term term moment → entry.reply ≡ reply → part_after (entry ∷ past) ≡ None
term_refused past entry term moment reply none asked is =
    ap (λ (r : Request). option_map part_of (since_by r entry (since past))) asked ∙ ap (λ (p : Reply). option_map part_of (begun p entry)) is ∙ ap (λ (s : Option (List Entry)). option_map part_of s) none

-- a request counts in its term
pub counts_by : (request : Request) (past entries : List Entry) (entry : Entry) → ((part : Option (List Entry)) → since_by request entry part ≡ option_map (λ (es : List Entry). entry ∷ es) part) → since past ≡ Some entries
    → entry.request ≡ request → since (entry ∷ past) ≡ Some (entry ∷ entries)
counts_by request past entries entry counts is asked =
    ap (λ (r : Request). since_by r entry (since past)) asked ∙ counts (since past) ∙ ap (option_map (λ (es : List Entry). entry ∷ es)) is
