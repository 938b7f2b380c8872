use Rattle.pp_syntax.proofs.Apart.{spelled, quote, brace, hole, close}
use Rattle.pp_syntax.proofs.lexer.set_apart_tokens_stand.Goals as goal

pub returns-clause-spelled : goal.returns-clause-spelled
returns-clause-spelled c = spelled

pub returns-clause-quote : goal.returns-clause-quote
returns-clause-quote c = quote

pub returns-clause-brace : goal.returns-clause-brace
returns-clause-brace c = brace

pub returns-clause-hole : goal.returns-clause-hole
returns-clause-hole c = hole

pub returns-clause-close : goal.returns-clause-close
returns-clause-close c = close
