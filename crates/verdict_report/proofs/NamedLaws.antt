-- Orders of the programs of a named plan.
use Rattle.std.proofs.Common.{◌<◌, ℕ, List, length, sym, subst, ◌∙◌}
use Rattle.std.specs.List.{AllByRecursion}
use Rattle.verdict_report.specs.declared.named.NamedPlan.{NamedPlan}

-- each program has a name, so numbers of names are numbers of programs
pub are_places : (n : NamedPlan) (order : List ℕ) → AllByRecursion (λ i. i < length n.names.now) order
    → AllByRecursion (λ i. i < length n.plan.now.programs.now) order
are_places n order = subst (λ k. AllByRecursion (λ i. i < k) order) (n.named ∙ sym n.plan.now.count)
