use Rattle.store.proofs.HeldAlike.{what_holds_the_same_answers_alike}
use Rattle.store.proofs.laws.what_holds_the_same_answers_alike.Goals as goal

pub returns : goal.returns
returns c = what_holds_the_same_answers_alike
