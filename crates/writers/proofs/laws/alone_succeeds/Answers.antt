use Rattle.writers.proofs.Looks.{alone_succeeds}
use Rattle.writers.proofs.laws.alone_succeeds.Goals as goal

pub returns : goal.returns
returns c = alone_succeeds
