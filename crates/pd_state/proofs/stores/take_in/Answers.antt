use Rattle.std.proofs.Common.{Some, refl, sym, ap, ◌∙◌}
use Rattle.store_table.specs.Calls.{heard, loaded, known_refusal}
use Rattle.store_table.specs.Entries.{changed, state_at}
use Rattle.pd_state.proofs.Rows.{changed_placed, state_placed}
use Rattle.pd_state.proofs.stores.take_in.Goals as goal

pub unreachable-requires : goal.unreachable-requires
unreachable-requires c =
    let known = ap (state_at c.args.rec.id) c.in-Ok.ensures.ok ∙ state_placed c.args.rec.id (loaded c.args.rec c.args.began) c.args.stores.now refl ∙ ap Some c.requires.up in
    let none = ap known_refusal known in
    let both = sym none ∙ c.in_default.ensures.refused in
    cc

pub returns-in-Ok-beat : goal.returns-in-Ok-beat
returns-in-Ok-beat c = record {
  ok = c.in-Ok-beat.ensures.ok ∙ ap (changed c.args.rec.id (heard c.args.moment)) c.in-Ok.ensures.ok ∙ changed_placed c.args.rec c.args.began c.args.moment c.args.stores.now;
}
