use Rattle.std.proofs.Common.{◌∙◌, ◌++◌, ap, List, map}
use Rattle.std.specs.Prelude.{flat_map, string_bytes}
use Rattle.pd_types.specs.declared.oracle.Window.{Window}
use Rattle.meta_store.specs.declared.record.MetaEntry.{MetaEntry}
use Rattle.tso_client.specs.declared.entry.PostEntry.{PostEntry}
use Rattle.tso_run.specs.declared.end.ClientAnswers.{ClientAnswers}
use Rattle.pd_state.specs.Clusters.{ClusterValue}
use Rattle.pd_run.specs.declared.answer.DriverAnswers.{DriverAnswers}
use Rattle.pd_run.specs.declared.answer.StoreAnswers.{StoreAnswers}
use Rattle.pd_run.specs.Runs.{journal_of}
use Rattle.pd_cluster.specs.RunText.{client_section, driver_section, journal_section, meta_section, numbered, post_section, store_section, windows_text}
use Rattle.pd_cluster.proofs.RunTexts.{run_sections}
use Rattle.pd_cluster.proofs.run_text.run_text.Goals as goal

pub returns : goal.returns
returns c = record {
  text = run_sections c.args.left.now _ _ _ _ _ _ _ _ c.new-text.ensures.bytes
      (c.in_ok-put_windows.ensures.text ∙ ap (λ (ws : List Window). string_bytes c.new-text.result ++ windows_text ws) (c.as_slice.ensures.value ∙ c.windows.ensures.value))
      (c.in_ok-put_drivers.ensures.text ∙ ap (λ (ds : List DriverAnswers). string_bytes c.put_windows.new.text ++ flat_map (λ (d : DriverAnswers). driver_section d.number d.answers.items) ds) c.deref.ensures.value)
      (c.in_ok-put_clients.ensures.text ∙ ap (λ (cs : List ClientAnswers). string_bytes c.put_drivers.new.text ++ flat_map (λ (d : ClientAnswers). client_section d.number d.answers.items) cs) c.deref-2.ensures.value)
      (c.in_ok-put_stores.ensures.text ∙ ap (λ (ss : List StoreAnswers). string_bytes c.put_clients.new.text ++ flat_map (λ (d : StoreAnswers). store_section d.store d.answers.items) ss) c.deref-3.ensures.value)
      (c.in_ok-put_journals.ensures.text ∙ ap (λ (vs : List ClusterValue). string_bytes c.put_stores.new.text ++ numbered journal_section 1 (map journal_of vs)) c.deref-4.ensures.value)
      (c.in_ok-put_meta.ensures.text ∙ ap (λ (es : List MetaEntry). string_bytes c.put_journals.new.text ++ meta_section es) c.as_slice-2.ensures.value)
      (c.in_ok-put_post.ensures.text ∙ ap (λ (es : List PostEntry). string_bytes c.put_meta.new.text ++ post_section es) c.as_slice-3.ensures.value);
}
