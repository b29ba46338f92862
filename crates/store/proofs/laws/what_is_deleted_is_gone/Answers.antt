use Rattle.store.proofs.PutKeeping.{what_is_deleted_is_gone}
use Rattle.store.proofs.laws.what_is_deleted_is_gone.Goals as goal

pub returns : goal.returns
returns c = what_is_deleted_is_gone
