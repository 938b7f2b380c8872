use Rattle.std.proofs.Common.{arith}
use Rattle.std.proofs.lemmas.Str.Pattern.{strip_suffix_char}
use Rattle.compiled_text.proofs.BracketLaws.{suffix_at}
use Rattle.compiled_text.proofs.names.before_bracket.Goals as goal

pub returns : goal.returns
returns c = suffix_at c.args.text.now c.strip_suffix.result (strip_suffix_char 93 c.args.text.now c.strip_suffix.result c.strip_suffix.ensures.cases (omega arith))
