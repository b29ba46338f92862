use Rattle.versions.proofs.PlanLaws.{plan_carries_over}
use Rattle.versions.proofs.laws.plan_carries_over.Goals as goal

pub returns : goal.returns
returns c = plan_carries_over
