use Rattle.model_services.proofs.UnitLaws.{unstripped}
use Rattle.model_services.proofs.services.unit_name.Goals as goal

pub returns-in-None : goal.returns-in-None
returns-in-None c = unstripped c.args.name.now c.in-None.ensures.cases
