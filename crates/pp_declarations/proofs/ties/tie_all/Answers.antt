use Rattle.std.proofs.Common.{ap, sym, ◌∙◌, arith}
use Rattle.std.proofs.lemmas.List.{drop_all}
use Rattle.catalog_semantics.specs.States.{tied}
use Rattle.catalog_semantics.specs.Effects.{ties_of}
use Rattle.pp_declarations.proofs.TieLaws.{none_left}
use Rattle.pp_declarations.proofs.ties.tie_all.Goals as goal

pub returns : goal.returns
returns c =
    let over = c.loop-arrow-test.false in
    sym (none_left c.args.at c.loop-arrow.rest.now c.loop-arrow.state)
    ∙ (ap (λ arrows. tied (ties_of c.args.at c.loop-arrow.rest.now arrows) c.loop-arrow.state) (sym (drop_all c.loop-arrow.arrow-index c.args.arrows.now (omega arith)))
    ∙ c.loop-arrow.invariant)
