use Rattle.std.proofs.Common.{◌≡◌, ◌<◌, length, map, sym, subst, ◌∙◌, arith}
use Rattle.std.specs.List.{AllByRecursion}
use Rattle.std.proofs.lemmas.List.{length-map}
use Rattle.fs_semantics.specs.Orders.{Told, up_from}
use Rattle.fs_lang.specs.Meaning.{program_of}
use Rattle.orders.specs.Relation.{comes}
use Rattle.kept_graph.proofs.ContractedLaws.{firsts_below, lasts_below}
use Rattle.kept_graph.proofs.contracted.contract.Goals as goal
use Rattle.fs_semantics.proofs.Ground.{up_below}

pub contracted_programs-requires-clause-first : goal.contracted_programs-requires-clause-first
contracted_programs-requires-clause-first c =
    let es = map program_of c.args.plan.now.programs.now in
    let before = Told (comes c.args.plan.now.order.now) in
    let n = length c.args.plan.now.programs.now in
    let is = c.requires.kept.pruned in
    let kept = c.args.kept.now.pruned.kept in
    let long : length es ≡ n = length-map c.args.plan.now.programs.now program_of in
    let leads = c.pruning.ensures.leads es (comes c.args.plan.now.order.now) is.moves (up_from 0 (length es)) kept is.prunes in
    subst (AllByRecursion (λ k. k < n)) (sym is.first_is) (firsts_below es before n is.moves (up_from 0 (length es)) kept leads (up_below 0 (length es) n (omega (arith, long))))

pub contracted_programs-requires-clause-last : goal.contracted_programs-requires-clause-last
contracted_programs-requires-clause-last c =
    let es = map program_of c.args.plan.now.programs.now in
    let before = Told (comes c.args.plan.now.order.now) in
    let n = length c.args.plan.now.programs.now in
    let is = c.requires.kept.pruned in
    let kept = c.args.kept.now.pruned.kept in
    let long : length es ≡ n = length-map c.args.plan.now.programs.now program_of in
    let leads = c.pruning.ensures.leads es (comes c.args.plan.now.order.now) is.moves (up_from 0 (length es)) kept is.prunes in
    subst (AllByRecursion (λ k. k < n)) (sym is.last_is) (lasts_below es before n is.moves (up_from 0 (length es)) kept leads (up_below 0 (length es) n (omega (arith, long))))

pub order_around-requires-clause-within : goal.order_around-requires-clause-within
order_around-requires-clause-within c =
    let long = length-map c.args.plan.now.programs.now program_of ∙ c.args.plan.now.count in
    subst (AllByRecursion (λ k. k < c.args.plan.now.order.now.count)) (sym c.as_slice.ensures)
    (subst (λ m. AllByRecursion (λ k. k < m) c.args.kept.now.pruned.kept) long c.requires.kept.some.below)
