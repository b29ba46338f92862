use Rattle.codec.proofs.FileLaws.{files_come_back}
use Rattle.codec.proofs.files_come_back.Goals as goal

pub returns : goal.returns
returns c = files_come_back
