use Rattle.assumed_models.proofs.LostLaws.{nothing_lost, changes_or_lost}
use Rattle.assumed_models.proofs.laws.edits_are_lost.Goals as goal

pub returns-clause-nothing : goal.returns-clause-nothing
returns-clause-nothing c = nothing_lost

pub returns-clause-only : goal.returns-clause-only
returns-clause-only c = changes_or_lost
