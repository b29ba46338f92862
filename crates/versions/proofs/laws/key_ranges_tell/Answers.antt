use Rattle.versions.proofs.RangeLaws.{key_ranges_tell}
use Rattle.versions.proofs.laws.key_ranges_tell.Goals as goal

pub returns : goal.returns
returns c = key_ranges_tell
