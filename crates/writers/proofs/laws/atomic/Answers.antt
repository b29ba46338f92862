use Rattle.writers.proofs.Turns.{atomic}
use Rattle.writers.proofs.laws.atomic.Goals as goal

pub returns : goal.returns
returns c = atomic
