use Rattle.std.proofs.Common.{sym, subst}
use Rattle.pp_syntax.specs.Lexing.{lexemes_of}
use Rattle.pp_syntax.specs.Spelling.{Spells}
use Rattle.pp_compile.proofs.SourceLaws.{parsed}
use Rattle.pp_compile.proofs.source.manifest_of.Goals as goal

pub returns-clause-parsed : goal.returns-clause-parsed
returns-clause-parsed c =
    parsed c.args.text.now (lexemes_of c.deref.result.now) c.parse.result c.in_ok-tokens.ensures.utf8
    (subst (λ ts. Spells c.args.text.now (lexemes_of ts)) (sym c.deref.ensures.value) c.in_ok-tokens.ensures.spelled)
    c.parse.ensures.spelled c.parse.ensures.all_in c.parse.ensures.shallow
