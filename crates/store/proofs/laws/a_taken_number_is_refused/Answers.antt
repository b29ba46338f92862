use Rattle.store.proofs.Refusing.{a_taken_number_is_refused}
use Rattle.store.proofs.laws.a_taken_number_is_refused.Goals as goal

pub returns : goal.returns
returns c = a_taken_number_is_refused
