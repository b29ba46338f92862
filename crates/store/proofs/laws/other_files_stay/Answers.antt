use Rattle.store.proofs.PutKeeping.{other_files_stay}
use Rattle.store.proofs.laws.other_files_stay.Goals as goal

pub returns : goal.returns
returns c = other_files_stay
