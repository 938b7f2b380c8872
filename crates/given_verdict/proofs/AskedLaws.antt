-- Where folders are given, the graph that is asked about is the one with the guard in front.
use Rattle.std.proofs.Common.{◌≢◌, ℕ, List, [], ◌∷◌, refl}
use Rattle.fs_semantics.specs.FileTree.{Path}
use Rattle.fs_semantics.specs.Programs.{Program}
use Rattle.fs_semantics.specs.Orders.{Told}
use Rattle.finite_domain.specs.Layouts.{Layout, IsLayout}
use Rattle.given_hosts.specs.Guard.{guarded, guard_before}
use Rattle.orders.specs.Relation.{Relation, comes}
use Rattle.cnf.specs.Formulas.{Formula}
use Rattle.cnf.specs.declared.log.Step.{Step}
use Rattle.determinism.specs.First.{IsProof, IsSpent}
use Rattle.given_verdict.specs.Graphs.{asked_programs}
use Rattle.given_verdict.specs.First.{IsProofFrom, IsSpentFrom}

-- where folders are given, a layout of what is asked about is one of the programs with the guard
pub layout_of_guarded : (given : List Path) (es : List Program) → given ≢ [] → (l : Layout) → IsLayout (asked_programs given es) l → IsLayout (guarded given es) l
layout_of_guarded [] es some l h = absurd (some refl)
layout_of_guarded (p ∷ ps) es some l h = h

-- a proof about the graph with the guard is one from the given trees
pub proof_of_guarded : (given : List Path) (es : List Program) (order : Relation) → given ≢ [] → (f : Formula)
    → IsProof (guarded given es) (Told (guard_before order.count (comes order))) f → IsProofFrom given es order f
proof_of_guarded [] es order some f h = absurd (some refl)
proof_of_guarded (p ∷ ps) es order some f h = h

-- a budget spent on the graph with the guard is one spent on the question from the given trees
pub spent_of_guarded : (given : List Path) (es : List Program) (order : Relation) → given ≢ [] → (budget : ℕ) (f : Formula) (steps : List Step)
    → IsSpent (guarded given es) (Told (guard_before order.count (comes order))) budget f steps → IsSpentFrom given es order budget f steps
spent_of_guarded [] es order some budget f steps h = absurd (some refl)
spent_of_guarded (p ∷ ps) es order some budget f steps h = h
