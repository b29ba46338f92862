use Rattle.codec.proofs.KeyLaws.{keys_are_the_ends}
use Rattle.codec.proofs.keys_are_the_ends.Goals as goal

pub returns : goal.returns
returns c = keys_are_the_ends
