use Rattle.writers.proofs.Looks.{first_put_counts}
use Rattle.writers.proofs.laws.first_put_counts.Goals as goal

pub returns : goal.returns
returns c = first_put_counts
