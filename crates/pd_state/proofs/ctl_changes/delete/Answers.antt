use Rattle.std.proofs.Common.{◌≡◌, ◌∙◌, refl, sym}
use Rattle.std.specs.Prelude.{Ok}
use Rattle.meta_store.specs.Stores.{store_bytes, store_key}
use Rattle.store_table.specs.Entries.{entry_at}
use Rattle.pd_state.specs.Ctl.{deletion}
use Rattle.pd_state.specs.declared.part.Part.{Part}
use Rattle.pd_state.proofs.Commanded.{asked_for, delete_denied, delete_done, may_delete, with_answered}
use Rattle.pd_state.proofs.ctl_changes.delete.Goals as goal

pub returns-in-Some-clause-does : goal.returns-in-Some-clause-does
returns-in-Some-clause-does g c =
    let part = c.args.part.now in
    let new : Part = record part { known = c.put.new.known } in
    let found = entry_at c.args.id part.stores in
    let is : deletion found ≡ Ok c.in-Ok.rec = sym c.in_ok-rec.ensures.value ∙ c.in-Ok.is in
    let asks = asked_for c.in_ok-key.key (store_key c.in-Ok.rec.id) c.in_ok-text.text (store_bytes c.in-Ok.rec) part.term c.args.driver part.known c.in_ok-answer.answer (g.M.Door.said c.args.door.now) (g.M.Door.said c.put.new.door) (g.M.Door.told c.args.door.now)
    (g.M.Door.told c.put.new.door) c.in_ok-key.ensures.value c.in_ok-text.ensures.value c.in_ok-answer.ensures.ok in
    with_answered c.with_answer.result c.in_ok-told.told c.in_ok-answer.answer _ c.with_answer.ensures.reply c.with_answer.ensures.sents c.with_answer.ensures.heard
    (λ d reply sents heard. delete_denied found c.in-Ok.rec part new c.in_ok-answer.answer c.in-Some.reply d c.args.driver (g.M.Door.said c.args.door.now) (g.M.Door.said c.put.new.door) (g.M.Door.told c.args.door.now) (g.M.Door.told c.put.new.door) is asks
    c.in_ok-answer.ensures.known refl refl (sym c.in-Some.ensures.value) (reply ∙ c.in_ok-told.ensures.value) sents heard)

pub unreachable-requires : goal.unreachable-requires
unreachable-requires g c =
    let part = c.args.part.now in
    let found = entry_at c.args.id part.stores in
    let is : deletion found ≡ Ok c.in-Ok.rec = sym c.in_ok-rec.ensures.value ∙ c.in-Ok.is in
    let both = sym (may_delete c.args.id part.stores c.in-Ok.rec found refl is) ∙ c.in_default-delete.ensures.refused in
    cc

pub returns-clause-does : goal.returns-clause-does
returns-clause-does g c =
    let part = c.args.part.now in
    let new : Part = record part { stores = c.delete.new.self; known = c.put.new.known } in
    let found = entry_at c.args.id part.stores in
    let is : deletion found ≡ Ok c.in-Ok.rec = sym c.in_ok-rec.ensures.value ∙ c.in-Ok.is in
    let asks = asked_for c.in_ok-key.key (store_key c.in-Ok.rec.id) c.in_ok-text.text (store_bytes c.in-Ok.rec) part.term c.args.driver part.known c.in_ok-answer.answer (g.M.Door.said c.args.door.now) (g.M.Door.said c.put.new.door) (g.M.Door.told c.args.door.now)
    (g.M.Door.told c.put.new.door) c.in_ok-key.ensures.value c.in_ok-text.ensures.value c.in_ok-answer.ensures.ok in
    with_answered c.with_answer-2.result c.in_ok-done.field-0 c.in_ok-answer.answer _ c.with_answer-2.ensures.reply c.with_answer-2.ensures.sents c.with_answer-2.ensures.heard
    (λ d reply sents heard. delete_done found c.in-Ok.rec part new c.in_ok-answer.answer d c.args.driver (g.M.Door.said c.args.door.now) (g.M.Door.said c.put.new.door) (g.M.Door.told c.args.door.now) (g.M.Door.told c.put.new.door) is asks
    c.in_ok-answer.ensures.known refl c.in-Ok-delete.ensures.ok (sym c.in_default.ensures.value) (reply ∙ c.in_ok-done.ensures.value) sents heard)
