use Rattle.versions.proofs.AliveLaws.{files_stay_until_taken}
use Rattle.versions.proofs.laws.files_stay_until_taken.Goals as goal

pub returns : goal.returns
returns c = files_stay_until_taken
