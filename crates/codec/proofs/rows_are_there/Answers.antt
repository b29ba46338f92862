use Rattle.codec.proofs.FileLaws.{rows_are_there}
use Rattle.codec.proofs.rows_are_there.Goals as goal

pub returns : goal.returns
returns c = rows_are_there
