-- The known revisions, kept.
use Rattle.std.proofs.Common.{refl, ◌≡◌, ℕ, zero, suc, ◌<◌, Bool, true, false, cond, List, [], ◌∷◌, length, get_or, map, reverse, ap, sym, ◌∙◌, Option, Some, None, subst, arith}
use Rattle.std.specs.Str.{bytes_eq}
use Rattle.std.proofs.lemmas.List.{length-map, reverse-append}
use Rattle.pd_types.specs.Keys.{is_below}
use Rattle.pd_types.proofs.KeyLemmas.{equal_keys}
use Rattle.meta_store.specs.declared.record.Cell.{Cell}
use Rattle.meta_store.specs.declared.record.MetaAnswer.{MetaAnswer}
use Rattle.meta_store.specs.declared.record.MetaEntry.{MetaEntry}
use Rattle.meta_store.specs.declared.record.MetaCall.{MetaCall}
use Rattle.meta_store.specs.declared.record.MetaCall.TheVariants as calls
use Rattle.meta_store.specs.declared.record.MetaVerdict.{MetaVerdict}
use Rattle.meta_store.specs.declared.record.MetaVerdict.TheVariants as verdicts
use Rattle.meta_store.specs.Cells.{AreRising, cell_at, revision_in}
use Rattle.meta_store.specs.Doors.{answer_of, handed_out, heard, said_of}
use Rattle.meta_store.specs.Past.{IsLegal, counter_of, entry_of, fence_of, is_accepted, is_of, is_write, record_of, revision_of, verdict_of}
use Rattle.meta_store.specs.Known.{bare, kept_heard, kept_of, kept_told, known_revision, revision_heard, revision_told}
use Rattle.meta_store.proofs.Found.{at_placed, at_without}
use Rattle.meta_store.proofs.Refines.{counted, records_found, written_at}

-- a record without its bytes has its revision
bare_revision : (key : List ℕ) (cells : List Cell) → revision_in (cell_at key (map bare cells)) ≡ revision_in (cell_at key cells)
bare_revision key [] = refl
bare_revision key (cell ∷ cells) = by (bytes_eq cell.key key) (bare_revision key cells)
  where
    by : (t : Bool) → revision_in (cell_at key (map bare cells)) ≡ revision_in (cell_at key cells) → revision_in (cond t (Some (bare cell)) (cell_at key (map bare cells))) ≡ revision_in (cond t (Some cell) (cell_at key cells))
    by true rest = refl
    by false rest = rest

in_either : (t : Bool) (one other : Option Cell) → revision_in (cond t one other) ≡ cond t (revision_in one) (revision_in other)
in_either true one other = refl
in_either false one other = refl

told_kept : (call : MetaCall) (revision : ℕ) (cells kept : List Cell) (key : List ℕ) → revision_in (cell_at key (kept_told call revision cells kept)) ≡ revision_told call revision cells key (revision_in (cell_at key kept))
told_kept (calls.Lead term) revision cells kept key = bare_revision key cells
told_kept (calls.Put term at expected bytes) revision cells kept key =
    ap revision_in (at_placed key (record { key = at; revision = revision; bytes = [] }) kept) ∙ in_either (bytes_eq at key) (Some (record { key = at; revision = revision; bytes = [] })) (cell_at key kept)
told_kept (calls.Delete term at expected) revision cells kept key =
    ap revision_in (at_without key at kept) ∙ in_either (bytes_eq at key) None (cell_at key kept)

heard_kept : (call : MetaCall) (verdict : MetaVerdict) (cells kept : List Cell) (key : List ℕ) → revision_in (cell_at key (kept_heard call verdict cells kept)) ≡ revision_heard call verdict cells key (revision_in (cell_at key kept))
heard_kept call (verdicts.Accepted revision) cells kept key = told_kept call revision cells kept key
heard_kept call (verdicts.OldTerm fence) cells kept key = refl
heard_kept call (verdicts.Conflict found) cells kept key = refl
heard_kept call verdicts.Limit cells kept key = refl

pub kept_known : (answers : List MetaAnswer) (key : List ℕ) → revision_in (cell_at key (kept_of answers)) ≡ known_revision key answers
kept_known [] key = refl
kept_known (answer ∷ earlier) key =
    heard_kept answer.call answer.verdict answer.cells (kept_of earlier) key
    ∙ ap (λ (n : ℕ). revision_heard answer.call answer.verdict answer.cells key n) (kept_known earlier key)

-- records without their bytes rise as they did
key_at : (cells : List Cell) (k : ℕ) (d : Cell) → k < length cells → (e : Cell) → (get_or (map bare cells) k d).key ≡ (get_or cells k e).key
key_at [] k d low e = absurd (omega arith)
key_at (cell ∷ cells) zero d low e = refl
key_at (cell ∷ cells) (suc k) d low e = key_at cells k d (omega arith) e

pub bare_rises : (cells : List Cell) → AreRising cells → AreRising (map bare cells)
bare_rises cells rising i j d less low =
    let inside : j < length cells = omega (arith, length-map cells bare) in
    let one = key_at cells i d (omega arith) d in
    let two = key_at cells j d inside d in
    subst (λ (a : List ℕ). is_below a (get_or (map bare cells) j d).key ≡ true) (sym one) (subst (λ (b : List ℕ). is_below (get_or cells i d).key b ≡ true) (sym two) (rising i j d less inside))

-- what each answer tells
pub put_known : (earlier : List MetaAnswer) (term expected revision : ℕ) (key bytes : List ℕ) → known_revision key (answer_of (calls.Put term key expected bytes) (verdicts.Accepted revision) [] ∷ earlier) ≡ revision
put_known earlier term expected revision key bytes = ap (λ (t : Bool). cond t revision (known_revision key earlier)) (equal_keys key key refl)

pub deletion_known : (earlier : List MetaAnswer) (term expected revision : ℕ) (key : List ℕ) → known_revision key (answer_of (calls.Delete term key expected) (verdicts.Accepted revision) [] ∷ earlier) ≡ 0
deletion_known earlier term expected revision key = ap (λ (t : Bool). cond t 0 (known_revision key earlier)) (equal_keys key key refl)

refused_by : (call : MetaCall) (verdict : MetaVerdict) (cells : List Cell) (key : List ℕ) (before : ℕ) → is_accepted verdict ≡ false → revision_heard call verdict cells key before ≡ before
refused_by call (verdicts.Accepted revision) cells key before none = absurd cc
refused_by call (verdicts.OldTerm fence) cells key before none = refl
refused_by call (verdicts.Conflict found) cells key before none = refl
refused_by call verdicts.Limit cells key before none = refl

pub refused_known : (earlier : List MetaAnswer) (answer : MetaAnswer) (key : List ℕ) → is_accepted answer.verdict ≡ false → known_revision key (answer ∷ earlier) ≡ known_revision key earlier
refused_known earlier answer key none = refused_by answer.call answer.verdict answer.cells key (known_revision key earlier) none

other_told : (call : MetaCall) (revision : ℕ) (cells : List Cell) (key : List ℕ) (before : ℕ) → is_write call ≡ true → is_of key call ≡ false → revision_told call revision cells key before ≡ before
other_told (calls.Lead term) revision cells key before write other = absurd cc
other_told (calls.Put term at expected bytes) revision cells key before write other = rw other refl
other_told (calls.Delete term at expected) revision cells key before write other = rw other refl

other_by : (call : MetaCall) (verdict : MetaVerdict) (cells : List Cell) (key : List ℕ) (before : ℕ) → is_write call ≡ true → is_of key call ≡ false → revision_heard call verdict cells key before ≡ before
other_by call (verdicts.Accepted revision) cells key before write other = other_told call revision cells key before write other
other_by call (verdicts.OldTerm fence) cells key before write other = refl
other_by call (verdicts.Conflict found) cells key before write other = refl
other_by call verdicts.Limit cells key before write other = refl

pub others_known : (earlier : List MetaAnswer) (answer : MetaAnswer) (key : List ℕ) → is_write answer.call ≡ true → is_of key answer.call ≡ false → known_revision key (answer ∷ earlier) ≡ known_revision key earlier
others_known earlier answer key write other = other_by answer.call answer.verdict answer.cells key (known_revision key earlier) write other

-- who heard all answers
heard_all : (driver : ℕ) (past : List MetaEntry) (key : List ℕ) (call : MetaCall) (verdict : MetaVerdict) → verdict ≡ verdict_of past call
    → revision_heard call (heard call verdict) (handed_out past call verdict) key (revision_of key past) ≡ revision_of key (entry_of driver call verdict ∷ past)
heard_all driver past key (calls.Lead term) (verdicts.Accepted revision) legal = ap revision_in (records_found past key)
heard_all driver past key (calls.Put term at expected bytes) (verdicts.Accepted revision) legal =
    let number = written_at (fence_of past) (counter_of past) (length past) _ _ term expected revision legal ∙ counted driver past (calls.Put term at expected bytes) revision refl in
    ap (λ (n : ℕ). cond (bytes_eq at key) n (revision_of key past)) number
    ∙ sym (in_either (bytes_eq at key) (Some (record { key = at; revision = counter_of (entry_of driver (calls.Put term at expected bytes) (verdicts.Accepted revision) ∷ past); bytes = bytes })) (record_of key past))
heard_all driver past key (calls.Delete term at expected) (verdicts.Accepted revision) legal = sym (in_either (bytes_eq at key) None (record_of key past))
heard_all driver past key call (verdicts.OldTerm fence) legal = refl
heard_all driver past key call (verdicts.Conflict found) legal = refl
heard_all driver past key call verdicts.Limit legal = refl

pub all_known : (past : List MetaEntry) (key : List ℕ) → IsLegal past → known_revision key (reverse (said_of past)) ≡ revision_of key past
all_known [] key legal = refl
all_known (e ∷ past) key legal =
    let answer : MetaAnswer = answer_of e.call (heard e.call e.verdict) (handed_out past e.call e.verdict) in
    ap (known_revision key) (reverse-append (said_of past) (answer ∷ []))
    ∙ ap (λ (n : ℕ). revision_heard e.call (heard e.call e.verdict) (handed_out past e.call e.verdict) key n) (all_known past key legal.1)
    ∙ heard_all e.driver past key e.call e.verdict legal.0
