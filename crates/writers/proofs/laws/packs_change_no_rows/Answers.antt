use Rattle.writers.proofs.Turns.{packs_change_no_rows}
use Rattle.writers.proofs.laws.packs_change_no_rows.Goals as goal

pub returns : goal.returns
returns c = packs_change_no_rows
