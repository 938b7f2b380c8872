use Rattle.std.proofs.Common.{rules, ap}
use Rattle.fs_lang.specs.Meaning.{program_of}
use Rattle.fs_lang.specs.Sizes.{program_size}
use Rattle.fs_lang.proofs.SizeLaws.{item_smaller, if_size}
use Rattle.tried_trees.proofs.used.+program.Goals as goal

pub use_one-use_choice-requires : goal.use_one-use_choice-requires
use_one-use_choice-requires t c =
    let size = if_size c.args.program.now c.in-If.a c.in-If.e c.in-If.f c.in-If.is in
    let left = ap (λ x. program_size (program_of x)) c.get.ensures in
    let right = ap (λ x. program_size (program_of x)) c.get-in-If.ensures in
    search rules

pub use_all-use_one-requires : goal.use_all-use_one-requires
use_all-use_one-requires t c =
    let smaller = item_smaller c.args.programs.now c.loop-program.program-index c.program-item.result c.loop-program-test.true c.program-item.is in
    search rules
