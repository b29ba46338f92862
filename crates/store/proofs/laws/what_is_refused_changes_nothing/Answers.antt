use Rattle.store.proofs.Refusing.{what_is_refused_changes_nothing}
use Rattle.store.proofs.laws.what_is_refused_changes_nothing.Goals as goal

pub returns : goal.returns
returns c = what_is_refused_changes_nothing
