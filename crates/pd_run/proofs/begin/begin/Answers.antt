use Rattle.std.proofs.Common.{rules, ◌≡◌, ◌∙◌, ◌∷◌, length, map, sym, ap, arith, subst}
use Rattle.pd_turn.specs.Turns.{AreApart}
use Rattle.tso_model.specs.Moves.{numbers_from, client_view}
use Rattle.tso_board.specs.Boards.{setup_of}
use Rattle.tso_board.specs.Passes.{pass_view}
use Rattle.tso_client.specs.Slips.{new_slip}
use Rattle.tso_run.proofs.Rows.{row_length, rows_length}
use Rattle.pd_run.specs.Crews.{AreLed, AreStarts}
use Rattle.pd_run.specs.declared.line.StoreLines.{StoreLines}
use Rattle.pd_run.specs.declared.storing.StoreWork.{StoreWork}
use Rattle.pd_run.proofs.Beginning.{all_led_first, begun_same, new_stores, same_tasks}
use Rattle.pd_run.proofs.begin.begin.Goals as goal

pub lead-requires-clause-starts : goal.lead-requires-clause-starts
lead-requires-clause-starts g c =
    let ids : c.in_ok-ids.ids ≡ map (λ (s : StoreLines). s.store) c.args.stores.items = c.in_ok-ids.ensures.value ∙ ap (map (λ (w : StoreWork g.row.N.Denot). w.store)) c.deref.ensures.value ∙ begun_same (λ (s : StoreLines). s.store) (λ (w : StoreWork g.row.N.Denot). w.store) (λ s w b. b.store) c.args.stores.items c.in_ok-stores.stores.items c.in_ok-stores.ensures.begin in
    subst (λ s. AreStarts {B = g.row.B.Denot} c.args.board.now g.N.ClusterName.meta g.N.ClusterName.streams s 0 c.args.starts.items) (sym ids) c.requires.starts

pub lead-requires-clause-apart : goal.lead-requires-clause-apart
lead-requires-clause-apart g c =
    let ids : c.in_ok-ids.ids ≡ map (λ (s : StoreLines). s.store) c.args.stores.items = c.in_ok-ids.ensures.value ∙ ap (map (λ (w : StoreWork g.row.N.Denot). w.store)) c.deref.ensures.value ∙ begun_same (λ (s : StoreLines). s.store) (λ (w : StoreWork g.row.N.Denot). w.store) (λ s w b. b.store) c.args.stores.items c.in_ok-stores.stores.items c.in_ok-stores.ensures.begin in
    subst (λ s. AreApart (0 ∷ s)) (sym ids) c.requires.apart

pub lead-requires-clause-stores : goal.lead-requires-clause-stores
lead-requires-clause-stores g c = record {
  ids = sym (c.in_ok-ids.ensures.value ∙ ap (map (λ (w : StoreWork g.row.N.Denot). w.store)) c.deref.ensures.value);
  each = all_led_first {N = g.row.N.Denot} g.N.ClusterName.streams c.args.stores.items c.in_ok-stores.stores.items c.in_ok-stores.ensures.begin;
}

pub overflow_cast-len : goal.overflow_cast-len
overflow_cast-len g c =
    let k = setup_of c.args.board.now in
    let count : c.len.result ≡ length c.args.passes.items = search rules in
    omega (arith, count, c.requires.setup.clients.1, rows_length pass_view c.args.passes.items, ap length c.requires.views, row_length (client_view k) 1 k.clients)

pub open-requires-clause-clients : goal.open-requires-clause-clients
open-requires-clause-clients g c =
    let k = setup_of c.args.board.now in
    let count : c.len.result ≡ length c.args.passes.items = search rules in (
      omega (arith, count, c.requires.setup.clients.0, rows_length pass_view c.args.passes.items, ap length c.requires.views, row_length (client_view k) 1 k.clients),
      omega (arith, count, c.requires.setup.clients.1, rows_length pass_view c.args.passes.items, ap length c.requires.views, row_length (client_view k) 1 k.clients),
    )

pub client_works-requires-clause-clients : goal.client_works-requires-clause-clients
client_works-requires-clause-clients g c =
    let k = setup_of c.args.board.now in
    let count : c.len.result ≡ length c.args.passes.items = search rules in
    omega (arith, c.in_ok-post.ensures.clients, count, rows_length pass_view c.args.passes.items, ap length c.requires.views, row_length (client_view k) 1 k.clients)

pub client_works-requires-clause-slips : goal.client_works-requires-clause-slips
client_works-requires-clause-slips g c =
    let k = setup_of c.args.board.now in
    let count : c.len.result ≡ length c.args.passes.items = search rules in
    c.in_ok-post.ensures.slips ∙ ap (λ n. map (new_slip c.in_ok-post.post) (numbers_from 1 n)) (let e : c.len.result ≡ k.clients = omega (arith, count, rows_length pass_view c.args.passes.items, ap length c.requires.views, row_length (client_view k) 1 k.clients) in e)

pub returns-clause-ready : goal.returns-clause-ready
returns-clause-ready g c =
    let led = c.in_ok-clusters.ensures.led in
    let count : length c.in_ok-clusters.field-0.clusters.items ≡ (setup_of c.args.board.now).drivers = c.in_ok-clusters.ensures.count ∙ c.requires.drivers in
    let lines : map (λ (w : StoreWork g.row.N.Denot). w.lines) c.in_ok-clusters.field-0.stores.items ≡ map (λ (s : StoreLines). s.lines) c.args.stores.items =
    c.in_ok-clusters.ensures.store_lines ∙ begun_same (λ (s : StoreLines). s.lines) (λ (w : StoreWork g.row.N.Denot). w.lines) (λ s w b. b.lines_are) c.args.stores.items c.in_ok-stores.stores.items c.in_ok-stores.ensures.begin in
    record {
      count = count;
      led = subst (λ s. AreLed {N = g.row.N.Denot} {B = g.row.B.Denot} c.args.board.now g.N.ClusterName.streams s c.in_ok-clusters.field-0.clusters.items c.in_ok-clusters.field-0.drivers.items c.in_ok-clusters.field-0.stores.items) (sym led.led_stores.ids) led;
      clients = c.in_ok-clients.ensures.new;
      client_numbers = c.in_ok-clients.ensures.numbers;
      new = new_stores {N = g.row.N.Denot} g.N.ClusterName.streams c.in_ok-clusters.field-0.clusters.items (setup_of c.args.board.now).drivers c.args.stores.items c.in_ok-clusters.field-0.stores.items (sym count) lines c.requires.within led.led_stores.each;
    }

pub returns-clause-store_lines : goal.returns-clause-store_lines
returns-clause-store_lines g c =
    let ids : c.in_ok-ids.ids ≡ map (λ (s : StoreLines). s.store) c.args.stores.items = c.in_ok-ids.ensures.value ∙ ap (map (λ (w : StoreWork g.row.N.Denot). w.store)) c.deref.ensures.value ∙ begun_same (λ (s : StoreLines). s.store) (λ (w : StoreWork g.row.N.Denot). w.store) (λ s w b. b.store) c.args.stores.items c.in_ok-stores.stores.items c.in_ok-stores.ensures.begin in
    let lines : map (λ (w : StoreWork g.row.N.Denot). w.lines) c.in_ok-clusters.field-0.stores.items ≡ map (λ (s : StoreLines). s.lines) c.args.stores.items =
    c.in_ok-clusters.ensures.store_lines ∙ begun_same (λ (s : StoreLines). s.lines) (λ (w : StoreWork g.row.N.Denot). w.lines) (λ s w b. b.lines_are) c.args.stores.items c.in_ok-stores.stores.items c.in_ok-stores.ensures.begin in
    same_tasks {N = g.row.N.Denot} c.args.stores.items c.in_ok-clusters.field-0.stores.items (c.in_ok-clusters.ensures.led.led_stores.ids ∙ ids) lines
