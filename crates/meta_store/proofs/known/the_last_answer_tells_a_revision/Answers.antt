use Rattle.std.proofs.Common.{refl}
use Rattle.meta_store.proofs.Kept.{deletion_known, kept_known, others_known, put_known, refused_known}
use Rattle.meta_store.proofs.known.the_last_answer_tells_a_revision.Goals as goal

pub returns : goal.returns
returns c = record {
  known = kept_known;
  none = λ key. refl;
  lead = λ earlier term revision cells key. refl;
  put = put_known;
  deleted = deletion_known;
  refused = refused_known;
  others = others_known;
}
