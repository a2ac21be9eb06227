use Rattle.std.proofs.Common.{◌≡◌, ◌<◌, ◌≤◌, ◌-◌, set, arith, sym, ◌∙◌, subst, ap, length, get_or, List, ℕ, Option}
use Rattle.std.proofs.lemmas.Bool.{eq-eqb, eqb-true}
use Rattle.rule_fit.specs.Assignment.{IsGreatest, placed}
use Rattle.rule_fit.specs.Table.{suits}
use Rattle.rule_fit.proofs.RoomLemmas.{fewer, room_no, room_yes}
use Rattle.rule_fit.proofs.room.has_room.Goals as goal

pub returns : goal.returns
returns c =
    let lesser : c.deref.result.now ≡ fewer c.args.counts.now c.args.rule = c.deref.ensures.value ∙ ap (λ (counts : List ℕ). set counts c.args.rule (get_or c.args.counts.now c.args.rule 0 - 1)) c.in_ok-fewer.ensures.items in
    let also = subst (λ (counts : List ℕ). IsGreatest (suits c.args.table.now) (length c.args.table.now) counts c.in_ok-other.other.given.items) lesser c.in_ok-other.ensures.greatest in
    let theirs : c.placed.result ≡ placed c.in_ok-other.other.given.items = c.placed.ensures ∙ ap (λ (given : List (Option ℕ)). placed given) c.deref-2.ensures.value in
    let some : 0 < get_or c.args.counts.now c.args.rule 0 = omega arith in (
      λ told. room_yes (suits c.args.table.now) (length c.args.table.now) c.args.counts.now c.args.rule c.args.given.now c.in_ok-other.other.given.items c.requires.greatest c.requires.known some also
          (sym theirs ∙ eqb-true c.placed.result c.placed-2.result told ∙ c.placed-2.ensures),
      λ room. eq-eqb c.placed.result c.placed-2.result
          (theirs ∙ room_no (suits c.args.table.now) (length c.args.table.now) c.args.counts.now c.args.rule c.args.given.now c.in_ok-other.other.given.items c.requires.greatest also room ∙ sym c.placed-2.ensures),
    )
