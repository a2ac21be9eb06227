use Rattle.meta_store.proofs.Firsts.{put_counts, delete_counts, refused_leaves, others_leave}
use Rattle.meta_store.proofs.laws.the_last_write_of_a_key_counts.Goals as goal

pub returns : goal.returns
returns c = record { put = put_counts; deleted = delete_counts; refused = refused_leaves; others = others_leave }
