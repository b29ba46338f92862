use Rattle.rows.proofs.Spans.{overlapping_is_sharing_a_key}
use Rattle.rows.proofs.overlapping_is_sharing_a_key.Goals as goal

pub returns : goal.returns
returns c = overlapping_is_sharing_a_key
