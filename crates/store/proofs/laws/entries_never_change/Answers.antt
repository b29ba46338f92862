use Rattle.store.proofs.LogKeeping.{entries_never_change}
use Rattle.store.proofs.laws.entries_never_change.Goals as goal

pub returns : goal.returns
returns c = entries_never_change
