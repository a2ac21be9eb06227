use Rattle.std.proofs.Common.{◌≤◌, List, ◌++◌, [], ◌∷◌, map, ap, sym, ◌∙◌, append_assoc}
use Rattle.std.proofs.lemmas.List.Elements.{All-rest}
use Rattle.std.specs.Vec.Iter.{into_iter_items}
use Rattle.pd_script.specs.Scripts.{client_of, driver_of, line_of}
use Rattle.pd_script.specs.declared.event.Numbered.{Numbered}
use Rattle.pd_script.proofs.reading.lines_of.Goals as goal

pub loop-numbered-preserved : goal.loop-numbered-preserved
loop-numbered-preserved c = record {
  lines = rw (c.in_ok-push.ensures.items, c.line.ensures.value)
      (c.loop-numbered.invariant.lines ∙ ap (λ (es : List Numbered). c.loop-numbered.lines.items ++ map line_of es) c.in-Some.ensures.steps.0
      ∙ sym (append_assoc c.loop-numbered.lines.items (line_of c.in-Some.numbered ∷ []) (map line_of (into_iter_items c.next.new.self))));
  drivers = All-rest (λ (e : Numbered). driver_of e.event ≤ 7) _ _ _ c.in-Some.ensures.steps.0 c.loop-numbered.invariant.drivers;
  clients = All-rest (λ (e : Numbered). client_of e.event ≤ 64) _ _ _ c.in-Some.ensures.steps.0 c.loop-numbered.invariant.clients;
}
