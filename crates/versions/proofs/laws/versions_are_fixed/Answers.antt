use Rattle.versions.proofs.AliveLaws.{versions_are_fixed}
use Rattle.versions.proofs.laws.versions_are_fixed.Goals as goal

pub returns : goal.returns
returns c = versions_are_fixed
