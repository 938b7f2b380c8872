use Rattle.std.proofs.lemmas.Str.Pattern.{strip_prefix_char}
use Rattle.pp_readers.proofs.Escapes.{behind_is}
use Rattle.pp_expression.proofs.values.behind.Goals as goal

pub returns : goal.returns
returns c = behind_is c.args.c c.args.text.now c.strip_prefix.result (strip_prefix_char c.args.c c.args.text.now c.strip_prefix.result c.strip_prefix.ensures.cases c.requires)
