use Rattle.pd_lines.proofs.Listing.{labels_read, labels_written}
use Rattle.pd_lines.proofs.label.labels_are_read_as_they_are_written.Goals as goal

pub returns : goal.returns
returns c = record { read = labels_read; written = labels_written }
