use Rattle.store.proofs.Refusing.{what_is_opened_is_empty}
use Rattle.store.proofs.laws.what_is_opened_is_empty.Goals as goal

pub returns : goal.returns
returns c = what_is_opened_is_empty
