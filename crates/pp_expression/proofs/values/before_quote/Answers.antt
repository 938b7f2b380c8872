use Rattle.std.proofs.Common.{arith}
use Rattle.std.proofs.lemmas.Str.Pattern.{strip_suffix_char}
use Rattle.pp_readers.proofs.Escapes.{before_is}
use Rattle.pp_expression.proofs.values.before_quote.Goals as goal

pub returns : goal.returns
returns c = before_is c.args.text.now c.strip_suffix.result (strip_suffix_char 39 c.args.text.now c.strip_suffix.result c.strip_suffix.ensures.cases (omega arith))
