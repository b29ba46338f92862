use Rattle.store.proofs.RoundTrip.{what_is_written_out_reads_in}
use Rattle.store.proofs.laws.what_is_written_out_reads_in.Goals as goal

pub returns : goal.returns
returns c = what_is_written_out_reads_in
