use Rattle.std.proofs.Common.{map, length}
use Rattle.fs_semantics.specs.Orders.{up_from}
use Rattle.fs_lang.specs.Meaning.{program_of}
use Rattle.orders.specs.Relation.{comes}
use Rattle.kept_graph.proofs.KeptLaws.{deterministic, nothing_deterministic}
use Rattle.kept_graph.proofs.kept.keep.Goals as goal

pub returns-clause-enough : goal.returns-clause-enough
returns-clause-enough c = λ d.
    let es = map program_of c.args.plan.now.programs.now in
    let before = comes c.args.plan.now.order.now in
    let kept = c.in_ok-kept.kept in
    let moves = c.in_ok-kept.ensures.pruned in
    c.pruning.ensures.enough es c.are_proper.ensures before moves.moves kept.pruned.kept
    (c.pruning.ensures.leads es before moves.moves (up_from 0 (length es)) kept.pruned.kept moves.prunes) ((deterministic es c.args.plan.now.order.now kept c.in_ok-kept.ensures).0 d)

pub returns-clause-nothing : goal.returns-clause-nothing
returns-clause-nothing c = λ e. returns-clause-enough c (nothing_deterministic c.in_ok-kept.kept.programs (comes c.in_ok-kept.kept.order) e)
