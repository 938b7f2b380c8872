use Rattle.std.proofs.Common.{arith}
use Rattle.std.proofs.lemmas.Str.Pattern.{split_parts}
use Rattle.compiled_text.proofs.BracketLaws.{split_at}
use Rattle.compiled_text.proofs.names.around_bracket.Goals as goal

pub returns : goal.returns
returns c = split_at c.args.text.now c.split_once.result (split_parts 91 c.args.text.now c.split_once.result c.split_once.ensures.cases (omega arith))
