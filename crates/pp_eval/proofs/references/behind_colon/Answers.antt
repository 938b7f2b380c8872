use Rattle.std.proofs.Common.{arith}
use Rattle.std.proofs.lemmas.Str.Pattern.{strip_prefix_char}
use Rattle.pp_eval.proofs.RootLaws.{behind_is}
use Rattle.pp_eval.proofs.references.behind_colon.Goals as goal

pub returns : goal.returns
returns c = behind_is c.args.text.now c.strip_prefix.result (strip_prefix_char 58 c.args.text.now c.strip_prefix.result c.strip_prefix.ensures.cases (omega arith))
