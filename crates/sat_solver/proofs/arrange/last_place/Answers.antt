use Rattle.std.proofs.Common.{ap, ◌∙◌, arith}
use Rattle.unit_propagation.specs.Literals.{has}
use Rattle.unit_propagation.proofs.Marks.{has_at}
use Rattle.sat_solver.proofs.arrange.last_place.Goals as goal

pub is_later-later-requires-clause-below : goal.is_later-later-requires-clause-below
is_later-later-requires-clause-below c =
    let list = c.args.literals.now.items in
    c.requires.below c.literal_at-literal.result (ap (has list) c.literal_at-literal.ensures ∙ has_at list c.rest.k (omega arith))

pub is_later-later-requires-clause-other_below : goal.is_later-later-requires-clause-other_below
is_later-later-requires-clause-other_below c =
    let list = c.args.literals.now.items in
    let within = c.rest.invariant.within in
    c.requires.below c.literal_at-so_far.result (ap (has list) c.literal_at-so_far.ensures ∙ has_at list c.rest.last (omega arith))
