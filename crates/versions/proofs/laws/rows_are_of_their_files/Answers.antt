use Rattle.versions.proofs.ContentLaws.{rows_are_of_their_files}
use Rattle.versions.proofs.laws.rows_are_of_their_files.Goals as goal

pub returns : goal.returns
returns c = rows_are_of_their_files
