use Rattle.codec.proofs.EntryLaws.{are_one}
use Rattle.codec.proofs.entries_are_one.Goals as goal

pub returns : goal.returns
returns c = are_one
