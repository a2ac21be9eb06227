use Rattle.std.proofs.Common.{◌++◌, ◌∷◌, [], ◌∙◌, ap, reverse, sym, subst}
use Rattle.std.specs.List.{AllZip}
use Rattle.pd_shared.specs.Kept.{LockedValue}
use Rattle.pd_shared.specs.Outlets.{TookUp}
use Rattle.pd_shared.proofs.Keeping.{kept_more}
use Rattle.pd_shared.proofs.Removing.{over_entry}
use Rattle.pd_shared.proofs.locked.Locked.serve.Goals as goal

pub invariant_of-locked : goal.invariant_of-locked
invariant_of-locked g c =
    let i = c.self.inside in
    let at = c.serve_at.new in
    let served = c.in-Ok.ensures.ok in
    let sends = c.last_sends.ensures.value i.cluster.entries served.entry served.appended in (
      kept_more g.N.ClusterName.meta g.N.ClusterName.streams i.cluster at.cluster i.seat at.seat i.givers.items c.push_all.new.givers.items
          c.in-Ok.ensures.turn c.in-Ok.ensures.driver c.self.invariant.0
          c.args.actor c.args.line c.args.request c.in-Ok.reply served
          (subst (λ l. AllZip (TookUp l) i.givers.items c.push_all.new.givers.items) sends c.push_all.ensures.took),
      sym served.lives,
    )

pub returns-in-Ok-clause-ok : goal.returns-in-Ok-clause-ok
returns-in-Ok-clause-ok g c =
    let i = c.self.inside in
    let served = c.in-Ok.ensures.ok in record {
      entry = served.entry;
      entry_is = record { actor_is = served.actor_is; line_is = served.line_is; request_is = served.request_is; reply_is = served.reply_is };
      entries_are = served.appended ∙ ap (λ (v : LockedValue). v.cluster.entries ++ served.entry ∷ []) c.self.view_is;
      over = over_entry i.cluster.driver (reverse i.cluster.entries) served.entry _ _ served.legal served.bench;
    }
