use Rattle.std.proofs.Common.{◌∙◌, sym, arith}
use Rattle.compiled_catalog.proofs.HolderLaws.{holder_within}
use Rattle.compiled_catalog.proofs.compiling.holder_of.Goals as goal

pub overflow_cast-result : goal.overflow_cast-result
overflow_cast-result c =
    let below = holder_within c.args.catalog.now c.args.place c.in-Some.holder c.edges.ensures.sound (sym c.holder.ensures ∙ c.in-Some.is) in
    let few = c.requires.few in
    omega arith
