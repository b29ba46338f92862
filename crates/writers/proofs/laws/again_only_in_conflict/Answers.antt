use Rattle.writers.proofs.Looks.{again_only_in_conflict}
use Rattle.writers.proofs.laws.again_only_in_conflict.Goals as goal

pub returns : goal.returns
returns c = again_only_in_conflict
