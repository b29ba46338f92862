use Rattle.codec.proofs.EntryLaws.{come_back}
use Rattle.codec.proofs.entries_come_back.Goals as goal

pub returns : goal.returns
returns c = come_back
