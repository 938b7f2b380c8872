use Rattle.pp_syntax.specs.Spelling.{start}
use Rattle.pp_syntax.proofs.Lexed.{read_utf8}
use Rattle.pp_syntax.proofs.lexer.tokens_are_utf8.Goals as goal

pub returns : goal.returns
returns c = λ text ts u h. read_utf8 start text ts _ h u
