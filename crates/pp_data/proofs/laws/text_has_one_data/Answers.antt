use Rattle.pp_data.proofs.FormLaws.{one_data}
use Rattle.pp_data.proofs.laws.text_has_one_data.Goals as goal

pub returns : goal.returns
returns c = one_data
