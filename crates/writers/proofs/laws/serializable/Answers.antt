use Rattle.writers.proofs.Turns.{serializable}
use Rattle.writers.proofs.laws.serializable.Goals as goal

pub returns : goal.returns
returns c = serializable
