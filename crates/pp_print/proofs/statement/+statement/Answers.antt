use Rattle.std.proofs.Common.{◌++◌, refl}
use Rattle.std.specs.Prelude.{codes}
use Rattle.std.specs.List.{join_by}
use Rattle.pp_print.specs.Words.{keyword}
use Rattle.pp_print.specs.Expressions.{expr_words}
use Rattle.pp_print.specs.Statements.{stmt_words, arm_words, block_by, else_by}
use Rattle.pp_print.proofs.Forms.{in_two}
use Rattle.pp_print.proofs.Blocks.{if_in_two, unless_in_two}
use Rattle.pp_print.proofs.statement.+statement.Goals as goal

pub stmt-returns-in_ok-conditions-in-If : goal.stmt-returns-in_ok-conditions-in-If
stmt-returns-in_ok-conditions-in-If t c =
    in_two c.otherwise.result c.args.words.now c.conditions.new.words c.otherwise.new.words (keyword (codes "if") ++ join_by arm_words (keyword (codes "elsif")) c.as_slice-in-If.result.now) (else_by stmt_words c.as_slice-in-If-2.result.now)
    (stmt_words c.args.s.now) c.in_ok-conditions-in-If.ensures c.otherwise.ensures
    (if_in_two c.args.s.now c.in-If.at c.in-If.arms c.as_slice-in-If.result.now c.in-If.other c.as_slice-in-If-2.result.now c.in-If.is c.as_slice-in-If.ensures c.as_slice-in-If-2.ensures)

pub stmt-returns-in_ok-unless-in-Unless : goal.stmt-returns-in_ok-unless-in-Unless
stmt-returns-in_ok-unless-in-Unless t c =
    in_two c.otherwise-in-Unless.result c.args.words.now c.unless.new.words c.otherwise-in-Unless.new.words (keyword (codes "unless") ++ (expr_words c.in-Unless.test ++ block_by stmt_words c.as_slice-in-Unless.result.now))
    (else_by stmt_words c.as_slice-in-Unless-2.result.now) (stmt_words c.args.s.now) c.in_ok-unless-in-Unless.ensures c.otherwise-in-Unless.ensures
    (unless_in_two c.args.s.now c.in-Unless.at c.in-Unless.test c.in-Unless.test c.in-Unless.body c.as_slice-in-Unless.result.now c.in-Unless.other c.as_slice-in-Unless-2.result.now c.in-Unless.is refl c.as_slice-in-Unless.ensures c.as_slice-in-Unless-2.ensures)
