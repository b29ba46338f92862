use Rattle.std.proofs.Common.{arith}
use Rattle.std.proofs.lemmas.Bool.Decides.{nat_tests}
use Rattle.versions.specs.Kept.{kept}
use Rattle.versions.proofs.kept.is_kept.Goals as goal

pub returns-then-version-entries : goal.returns-then-version-entries
unfolding kept
returns-then-version-entries c = grind (arith, nat_tests, c.entries.ensures, c.entries-then-version-entries.ensures, c.horizon.ensures, c.if-version-entries.true)

pub returns-else-version-entries : goal.returns-else-version-entries
unfolding kept
returns-else-version-entries c = grind (arith, nat_tests, c.entries.ensures, c.if-version-entries.false)
