use Rattle.writers.proofs.Looks.{inserts_never_conflict}
use Rattle.writers.proofs.laws.inserts_never_conflict.Goals as goal

pub returns : goal.returns
returns c = inserts_never_conflict
