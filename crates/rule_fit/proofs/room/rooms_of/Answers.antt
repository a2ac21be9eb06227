use Rattle.std.proofs.Common.{◌≡◌, ◌∙◌, List, Vec, Bool, length, ap, map, subst, IfOk}
use Rattle.std.specs.Global.{Global}
use Rattle.pd_types.specs.declared.region.Peer.{Peer}
use Rattle.rule_fit.specs.Room.{AreRooms}
use Rattle.rule_fit.specs.Suits.{peer_suits}
use Rattle.rule_fit.specs.Table.{suits}
use Rattle.rule_fit.proofs.Regions.{carry, table_length, table_suits}
use Rattle.rule_fit.proofs.room.rooms_of.Goals as goal

pub returns : goal.returns
returns c =
    let rows = subst (λ (peers : List Peer). map (λ row. row.items) c.in_ok-table.table.items ≡ map (λ peer. map (peer_suits c.args.beat.now.leader c.args.stores.now c.args.now peer) c.args.rules.now) peers) c.as_slice-peers.ensures.value c.in_ok-table.ensures in
    carry (λ s n xs. IfOk c.rooms_beside.result (λ rooms. AreRooms s n xs rooms.items)) _ _ _ _ _ _
    (ap (λ (t : List (Vec Bool Global)). suits t) c.deref-3.ensures.value ∙ table_suits c.args.beat.now c.args.rules.now c.args.stores.now c.args.now c.in_ok-table.table.items rows)
    (ap (λ (t : List (Vec Bool Global)). length t) c.deref-3.ensures.value ∙ table_length c.args.beat.now.leader c.args.stores.now c.args.now c.args.rules.now c.in_ok-table.table.items c.args.beat.now.region.peers rows)
    (c.deref-4.ensures.value ∙ c.in_ok-counts.ensures)
    c.rooms_beside.ensures
