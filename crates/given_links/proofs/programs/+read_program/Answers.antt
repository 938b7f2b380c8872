use Rattle.std.proofs.Common.{rules, ap}
use Rattle.fs_lang.specs.Meaning.{program_of}
use Rattle.fs_lang.specs.Sizes.{program_size}
use Rattle.fs_lang.proofs.SizeLaws.{item_smaller, if_size}
use Rattle.given_links.proofs.BuiltLaws.{if_read}
use Rattle.given_links.proofs.programs.+read_program.Goals as goal

pub read_program-choice-requires : goal.read_program-choice-requires
read_program-choice-requires t c =
    let size = if_size c.args.program.now c.in-If.a c.in-If.e c.in-If.f c.in-If.is in
    let left = ap (λ x. program_size (program_of x)) c.get.ensures in
    let right = ap (λ x. program_size (program_of x)) c.get-in-If.ensures in
    search rules

pub read_programs-read_program-requires : goal.read_programs-read_program-requires
read_programs-read_program-requires t c =
    let smaller = item_smaller c.args.programs.now c.loop-program.program-index c.program-item.result c.loop-program-test.true c.program-item.is in
    search rules

pub read_program-returns-in-If : goal.read_program-returns-in-If
read_program-returns-in-If t c =
    if_read c.args.links.now c.args.program.now c.in-If.a c.in-If.e c.in-If.f c.get.result.now c.get-in-If.result.now c.choice.result c.in-If.is c.get.ensures c.get-in-If.ensures c.choice.ensures
