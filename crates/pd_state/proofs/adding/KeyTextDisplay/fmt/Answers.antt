use Rattle.std.proofs.Common.{◌≡◌, ◌++◌, ◌+◌, ◌∙◌, ℕ, List, [], append-nil, append_assoc, ap, arith, drop, refl, subst, sym}
use Rattle.std.specs.Fmt.{HasWritten}
use Rattle.std.proofs.lemmas.Grind.{put_three}
use Rattle.std.proofs.lemmas.List.{at_drop_all}
use Rattle.hex.specs.Hex.{encode_lower, encode_with, lower_digits}
use Rattle.hex.proofs.Pairs.{encode_with-drop}
use Rattle.pd_state.proofs.adding.KeyTextDisplay.fmt.Goals as goal

pub loop-byte-preserved : goal.loop-byte-preserved
loop-byte-preserved g c = λ plain.
    let before = c.loop-byte.invariant plain in
    let key = c.args.self.now.key.now in
    let i = c.loop-byte.byte-index in
    let rest : List ℕ = encode_lower (drop (i + 1) key) in
    let first = c.in_ok-write_str.ensures.writes before.1.plain refl in
    let second = c.in_ok-write_str-2.ensures.writes first.plain refl in (
      before.0 ++ (c.digit_text.result.now ++ c.digit_text-in-loop-byte.result.now),
      put_three _ _ _ _ _ _ _ _ _ before.1 first second refl,
      append_assoc before.0 (c.digit_text.result.now ++ c.digit_text-in-loop-byte.result.now) rest
          ∙ ap (λ (digits : List ℕ). before.0 ++ (digits ++ rest)) (λ j. c.digit_text.ensures.value j ++ c.digit_text-in-loop-byte.ensures.value j) ∙ ap (λ (text : List ℕ). before.0 ++ text) (sym (encode_with-drop lower_digits key i (omega arith)))
          ∙ before.2,
    )

nothing : encode_lower [] ≡ []
unfolding encode_with
nothing = refl

pub returns-clause-writes : goal.returns-clause-writes
returns-clause-writes g c = λ plain ok.
    let all = c.loop-byte.invariant plain in
    let key = c.args.self.now.key.now in
    subst (λ (text : List ℕ). HasWritten g.W.Write.write_str_gives c.args.f.now text c.loop-byte.f)
    (sym (append-nil all.0) ∙ ap (λ (text : List ℕ). all.0 ++ text) (sym (at_drop_all encode_lower key c.loop-byte.byte-index (omega arith) ∙ nothing)) ∙ all.2) all.1
