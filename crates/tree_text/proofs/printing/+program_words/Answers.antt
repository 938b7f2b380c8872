use Rattle.std.proofs.Common.{◌≡◌, ◌++◌, OnOk, rules, ap, subst}
use Rattle.fs_lang.specs.Meaning.{program_of}
use Rattle.fs_lang.specs.Sizes.{program_size}
use Rattle.fs_lang.proofs.SizeLaws.{item_smaller, if_size}
use Rattle.tree_text.proofs.PrintLaws.{if_printed}
use Rattle.tree_text.proofs.printing.+program_words.Goals as goal

pub put_program-put_choice-requires : goal.put_program-put_choice-requires
put_program-put_choice-requires t c =
    let size = if_size c.args.program.now c.in-If.a c.in-If.e c.in-If.f c.in-If.is in
    let left = ap (λ x. program_size (program_of x)) c.get.ensures in
    let right = ap (λ x. program_size (program_of x)) c.get-in-If.ensures in
    search rules

pub put_more-put_program-requires : goal.put_more-put_program-requires
put_more-put_program-requires t c =
    let smaller = item_smaller c.args.programs.now c.loop-program.program-index c.program-item.result c.loop-program-test.true c.program-item.is in
    search rules

pub put_program-returns-in-If : goal.put_program-returns-in-If
put_program-returns-in-If t c =
    subst (λ s. OnOk c.put_choice.result (c.put_choice.new.into ≡ c.args.into.now ++ s))
    (if_printed c.args.program.now c.in-If.a c.in-If.e c.in-If.f c.get.result.now c.get-in-If.result.now c.in-If.is c.get.ensures c.get-in-If.ensures) c.put_choice.ensures
