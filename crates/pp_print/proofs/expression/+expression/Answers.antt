use Rattle.std.proofs.Common.{◌+◌, ◌++◌}
use Rattle.std.specs.Prelude.{codes}
use Rattle.std.specs.List.{flat_map}
use Rattle.pp_print.specs.Words.{sign, in_braces, in_tight, listed}
use Rattle.pp_print.specs.Expressions.{printed, printed_form, expr_words, at_level, indexed, choice_by, operation_by}
use Rattle.pp_print.proofs.Forms.{in_two, chain_in_two, index_in_two, select_in_two}
use Rattle.pp_print.proofs.expression.+expression.Goals as goal

pub expr-returns-in_ok-at_level-in-Chain : goal.expr-returns-in_ok-at_level-in-Chain
expr-returns-in_ok-at_level-in-Chain t c =
    in_two c.operations.result c.args.words.now c.at_level.new.words c.operations.new.words (at_level (c.level_in-level.result + 1) (printed c.get.result.now)) (flat_map (operation_by printed c.level_in-level.result) c.as_slice-in-Chain-2.result.now)
    (printed_form c.args.e.now.form).words c.in_ok-at_level-in-Chain.ensures c.operations.ensures
    (chain_in_two c.args.e.now.form c.in-Chain.first c.get.result.now c.in-Chain.more c.as_slice-in-Chain.result.now c.as_slice-in-Chain-2.result.now c.level_in-level.result
    c.in-Chain.is c.get.ensures c.as_slice-in-Chain.ensures c.as_slice-in-Chain-2.ensures c.level_in-level.ensures.value)

pub expr-returns-in_ok-at_level-in-Select : goal.expr-returns-in_ok-at_level-in-Select
expr-returns-in_ok-at_level-in-Select t c =
    in_two c.selection.result c.args.words.now c.at_level-in-Select.new.words c.selection.new.words (at_level 8 (printed c.get-in-Select.result.now)) (sign (codes "?") ++ in_braces (listed (choice_by printed) c.as_slice-in-Select.result.now))
    (printed_form c.args.e.now.form).words c.in_ok-at_level-in-Select.ensures c.selection.ensures
    (select_in_two c.args.e.now.form c.in-Select.base c.get-in-Select.result.now c.in-Select.choices c.as_slice-in-Select.result.now c.in-Select.is c.get-in-Select.ensures c.as_slice-in-Select.ensures)

pub expr-returns-in_ok-indexed-in-Index : goal.expr-returns-in_ok-indexed-in-Index
expr-returns-in_ok-indexed-in-Index t c =
    in_two c.index.result c.args.words.now c.indexed.new.words c.index.new.words (indexed (printed c.get-in-Index.result.now)) (in_tight (expr_words c.get-in-Index-2.result.now))
    (printed_form c.args.e.now.form).words c.in_ok-indexed-in-Index.ensures c.index.ensures
    (index_in_two c.args.e.now.form c.in-Index.base c.in-Index.key c.get-in-Index.result.now c.get-in-Index-2.result.now c.in-Index.is c.get-in-Index.ensures c.get-in-Index-2.ensures)
