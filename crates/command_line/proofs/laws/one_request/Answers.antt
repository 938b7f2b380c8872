use Rattle.command_line.proofs.OneRequest.{same_request}
use Rattle.command_line.proofs.laws.one_request.Goals as goal

pub returns : goal.returns
returns c = same_request c.path_texts.ensures.once
