use Rattle.codec.proofs.FileLaws.{files_are_one}
use Rattle.codec.proofs.files_are_one.Goals as goal

pub returns : goal.returns
returns c = files_are_one
