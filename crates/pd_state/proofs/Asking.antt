-- Askings over a door: none, one call, and one after another.
use Rattle.std.proofs.Common.{refl, ◌≡◌, ℕ, List, [], ◌∷◌, ◌++◌, ap, sym, ◌∙◌, subst, append_assoc, append-nil, Option, Some, None}
use Rattle.meta_store.specs.declared.record.Cell.{Cell}
use Rattle.meta_store.specs.declared.record.MetaAnswer.{MetaAnswer}
use Rattle.meta_store.specs.declared.record.MetaCall.{MetaCall}
use Rattle.meta_store.specs.declared.record.MetaEntry.{MetaEntry}
use Rattle.meta_store.specs.declared.record.MetaVerdict.{MetaVerdict}
use Rattle.meta_store.specs.Asked.{AreAsked, Asks}
use Rattle.meta_store.specs.Doors.{told_more}
use Rattle.pd_state.specs.Heard.{known_after, known_more, told_all}
use Rattle.pd_state.specs.Asking.{AreWanted, Asking, Ear, Point, Talks, and_then, ask, done, ended, go_on, hearing, wanted, waits}

pub known_append : (xs ys : List MetaAnswer) (known : List Cell) → known_after (xs ++ ys) known ≡ known_after ys (known_after xs known)
known_append [] ys known = refl
known_append (x ∷ xs) ys known = known_append xs ys (known_more known x)

pub told_append : (xs ys : List MetaAnswer) (told : Option (List MetaEntry)) (driver : ℕ) → told_all told driver (xs ++ ys) ≡ told_all (told_all told driver xs) driver ys
told_append [] ys told driver = refl
told_append (x ∷ xs) ys told driver = told_append xs ys (told_more told driver x.call) driver

-- nothing is asked
pub talks_done : (A : Type 0) (value : A) (driver : ℕ) (e : Ear) → Talks A (done value) value driver e e
talks_done A value driver e = record {
  heard = [];
  answers = sym (append-nil e.answers);
  known = refl;
  said = sym (append-nil e.said);
  told = refl;
  ends = λ more. refl;
  wants = tt;
}

-- one call
pub talks_ask : (call : MetaCall) (answer : MetaAnswer) (driver : ℕ) (old new : Ear) → Asks old.said new.said old.told new.told driver call answer → new.answers ≡ old.answers ++ answer ∷ [] → new.known ≡ known_more old.known answer
    → Talks MetaVerdict (ask call) answer.verdict driver old new
talks_ask call answer driver old new asks answers known = record {
  heard = answer ∷ [];
  answers = answers;
  known = known;
  said = asks.said;
  told = asks.told ∙ ap (λ (c : MetaCall). told_more old.told driver c) (sym asks.call_is);
  ends = λ more. ap (λ (k : List Cell). ended answer.verdict (hearing k more)) (sym known);
  wants = (ap (λ (c : MetaCall). Some c) (sym asks.call_is), tt);
}

wanted_on : (A B : Type 0) (next : A → Asking B) (point : Point A) (call : MetaCall) → wanted point ≡ Some call → wanted (go_on next point) ≡ Some call
wanted_on A B next (ended value at) call h = absurd cc
wanted_on A B next (waits other) call h = h

wanted_map : (f g : List MetaAnswer → Option MetaCall) → ((before : List MetaAnswer) (call : MetaCall) → f before ≡ Some call → g before ≡ Some call) → (before answers : List MetaAnswer) → AreWanted f before answers → AreWanted g before answers
wanted_map f g on before [] h = tt
wanted_map f g on before (answer ∷ answers) h = (on before answer.call h.0, wanted_map f g on (before ++ answer ∷ []) answers h.1)

wanted_shift : (f g : List MetaAnswer → Option MetaCall) (front : List MetaAnswer) → ((l : List MetaAnswer) → g (front ++ l) ≡ f l) → (before answers : List MetaAnswer) → AreWanted f before answers → AreWanted g (front ++ before) answers
wanted_shift f g front same before [] h = tt
wanted_shift f g front same before (answer ∷ answers) h =
    (same before ∙ h.0, subst (λ (l : List MetaAnswer). AreWanted g l answers) (sym (append_assoc front before (answer ∷ []))) (wanted_shift f g front same (before ++ answer ∷ []) answers h.1))

wanted_append : (g : List MetaAnswer → Option MetaCall) (before xs ys : List MetaAnswer) → AreWanted g before xs → AreWanted g (before ++ xs) ys → AreWanted g before (xs ++ ys)
wanted_append g before [] ys h k = subst (λ (l : List MetaAnswer). AreWanted g l ys) (append-nil before) k
wanted_append g before (x ∷ xs) ys h k =
    (h.0, wanted_append g (before ++ x ∷ []) xs ys h.1 (subst (λ (l : List MetaAnswer). AreWanted g l ys) (sym (append_assoc before (x ∷ []) xs)) k))

-- one asking, and then another
pub talks_then : (A B : Type 0) (first : Asking A) (next : A → Asking B) (a : A) (b : B) (driver : ℕ) (x y z : Ear) → Talks A first a driver x y → Talks B (next a) b driver y z → Talks B (and_then first next) b driver x z
talks_then A B first next a b driver x y z s t = record {
  heard = s.heard ++ t.heard;
  answers = t.answers ∙ ap (λ (l : List MetaAnswer). l ++ t.heard) s.answers ∙ append_assoc x.answers s.heard t.heard;
  known = t.known ∙ ap (λ (k : List Cell). known_after t.heard k) s.known ∙ sym (known_append s.heard t.heard x.known);
  said = t.said ∙ ap (λ (l : List MetaAnswer). l ++ t.heard) s.said ∙ append_assoc x.said s.heard t.heard;
  told = t.told ∙ ap (λ (o : Option (List MetaEntry)). told_all o driver t.heard) s.told ∙ sym (told_append s.heard t.heard x.told driver);
  ends = λ more. on more (append_assoc s.heard t.heard more);
  wants = wanted_append after [] s.heard t.heard
      (wanted_map (λ before. wanted (first (hearing x.known before))) after (λ before call h. wanted_on A B next (first (hearing x.known before)) call h) [] s.heard s.wants)
      (subst (λ (l : List MetaAnswer). AreWanted after l t.heard) (append-nil s.heard)
      (wanted_shift (λ before. wanted (next a (hearing y.known before))) after s.heard (λ l. ap (λ (p : Point A). wanted (go_on next p)) (s.ends l)) [] t.heard t.wants));
}
  where
    after : List MetaAnswer → Option MetaCall
    after before = wanted (and_then first next (hearing x.known before))

    on : (more : List MetaAnswer) → (s.heard ++ t.heard) ++ more ≡ s.heard ++ (t.heard ++ more) → and_then first next (hearing x.known ((s.heard ++ t.heard) ++ more)) ≡ ended b (hearing z.known more)
    on more is = ap (λ (l : List MetaAnswer). go_on next (first (hearing x.known l))) is ∙ ap (λ (p : Point A). go_on next p) (s.ends (t.heard ++ more)) ∙ t.ends more

asked_all : (next : List MetaAnswer → Option MetaCall) (before answers : List MetaAnswer) → AreWanted next before answers → next (before ++ answers) ≡ None → AreAsked next before answers
asked_all next before [] h n = subst (λ (l : List MetaAnswer). next l ≡ None) (append-nil before) n
asked_all next before (answer ∷ answers) h n =
    (h.0, asked_all next (before ++ answer ∷ []) answers h.1 (subst (λ (l : List MetaAnswer). next l ≡ None) (sym (append_assoc before (answer ∷ []) answers)) n))

-- where it comes to with all its answers
pub talked : (A : Type 0) (asking : Asking A) (value : A) (driver : ℕ) (x y : Ear) → x.answers ≡ [] → Talks A asking value driver x y → asking (hearing x.known y.answers) ≡ ended value (hearing y.known [])
talked A asking value driver x y none t =
    ap (λ (l : List MetaAnswer). asking (hearing x.known l)) (t.answers ∙ ap (λ (l : List MetaAnswer). l ++ t.heard) none ∙ sym (append-nil t.heard)) ∙ t.ends []

pub talk_asked : (A : Type 0) (asking : Asking A) (value : A) (driver : ℕ) (x y : Ear) → x.answers ≡ [] → Talks A asking value driver x y → AreAsked (λ before. wanted (asking (hearing x.known before))) [] y.answers
talk_asked A asking value driver x y none t =
    let is : y.answers ≡ t.heard = t.answers ∙ ap (λ (l : List MetaAnswer). l ++ t.heard) none in
    subst (λ (l : List MetaAnswer). AreAsked (λ before. wanted (asking (hearing x.known before))) [] l) (sym is)
    (asked_all (λ before. wanted (asking (hearing x.known before))) [] t.heard t.wants
    (ap (λ (l : List MetaAnswer). wanted (asking (hearing x.known l))) (sym is) ∙ ap (λ (p : Point A). wanted p) (talked A asking value driver x y none t)))
