use Rattle.std.proofs.Common.{refl}
use Rattle.meta_store.proofs.Verdicts.{put_counted, deletion_counted, lead_uncounted, refused_uncounted}
use Rattle.meta_store.proofs.laws.accepted_writes_are_counted.Goals as goal

pub returns : goal.returns
returns c = record { none = refl; put = put_counted; deleted = deletion_counted; lead = lead_uncounted; refused = refused_uncounted }
