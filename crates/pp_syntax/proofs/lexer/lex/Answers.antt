use Rattle.pp_syntax.proofs.Slices.{ok_slices, ok_order, only_these}
use Rattle.pp_syntax.proofs.lexer.lex.Goals as goal

pub returns-in-Ok-clause-slices : goal.returns-in-Ok-clause-slices
returns-in-Ok-clause-slices c = ok_slices c.in-Ok.source.now c.args.text.now c.tokens_of.result c.in-Ok.ensures.cases.0 c.tokens_of.ensures.spelled

pub returns-in-Ok-clause-order : goal.returns-in-Ok-clause-order
returns-in-Ok-clause-order c = ok_order c.in-Ok.source.now c.tokens_of.result c.tokens_of.ensures.spelled

pub returns-in-Ok-clause-only : goal.returns-in-Ok-clause-only
returns-in-Ok-clause-only c ts u h = only_these c.in-Ok.source.now c.args.text.now c.tokens_of.result c.in-Ok.ensures.cases.0 c.tokens_of.ensures.spelled c.tokens_of.ensures.refused ts h
