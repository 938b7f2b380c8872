use Rattle.pp_expression.proofs.Fronts.{front_told}
use Rattle.pp_expression.proofs.marks.front_of.Goals as goal

pub returns-clause-is : goal.returns-clause-is
returns-clause-is c = front_told c.args.tokens.now c.args.from c.in_ok-token.token.now c.in_ok-token.ensures.lookup.3.0 c.in_ok-token.ensures.lookup.1
