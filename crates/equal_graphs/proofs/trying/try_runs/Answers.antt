use Rattle.std.proofs.Common.{length, map, sym, subst, ◌<◌}
use Rattle.std.proofs.lemmas.Result.{IfOk-weaker}
use Rattle.std.specs.List.{AllByRecursion}
use Rattle.fs_lang.specs.Meaning.{program_of}
use Rattle.equal_graphs.proofs.TryLaws.{below, parting_found}
use Rattle.equal_graphs.proofs.trying.try_runs.Goals as goal

pub first_parting-requires-clause-nodes : goal.first_parting-requires-clause-nodes
first_parting-requires-clause-nodes c =
    subst (λ o. AllByRecursion (λ k. k < length c.args.left.now.programs.now) o) (sym c.as_slice.ensures) (below _ _ c.in_ok-one.one c.args.left.now.count c.in_ok-one.ensures.allowed.below)

pub first_parting-requires-clause-others : goal.first_parting-requires-clause-others
first_parting-requires-clause-others c =
    subst (λ o. AllByRecursion (λ k. k < length c.args.right.now.programs.now) o) (sym c.as_slice-2.ensures) (below _ _ c.in_ok-second.second c.args.right.now.count c.in_ok-second.ensures.allowed.below)

pub returns : goal.returns
returns c = IfOk-weaker c.first_parting.result _ _ (λ found is.
    parting_found (map program_of c.args.left.now.programs.now) c.args.left.now.order.now (map program_of c.args.right.now.programs.now) c.args.right.now.order.now c.in_ok-one.one c.in_ok-second.second c.as_slice.result.now c.as_slice-2.result.now
    c.as_slice.ensures c.as_slice-2.ensures
    (record { allowed = c.in_ok-one.ensures.allowed; least = c.in_ok-one.ensures.least }) (record { allowed = c.in_ok-second.ensures.allowed; least = c.in_ok-second.ensures.least })
    found is) c.first_parting.ensures
