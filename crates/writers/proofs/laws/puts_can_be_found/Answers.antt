use Rattle.writers.proofs.Puts.{puts_can_be_found}
use Rattle.writers.proofs.laws.puts_can_be_found.Goals as goal

pub returns : goal.returns
returns c = puts_can_be_found
