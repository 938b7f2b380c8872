-- What refutes each property of a graph.
use Rattle.std.proofs.Common.{◌≡◌, ℕ, inl, inr, List, length, Some, None, refl, ◌∙◌}
use Rattle.std.specs.Prelude.{◌↔◌, IsSome}
use Rattle.std.specs.List.{AllByRecursion}
use Rattle.fs_semantics.specs.FileTree.{Tree, IsTree}
use Rattle.fs_semantics.specs.Programs.{Program, Outcome}
use Rattle.fs_semantics.specs.Changes.{IsProper}
use Rattle.fs_semantics.specs.Orders.{IsLinearExtension, outcome, IsDeterministic, IsIdempotent, Succeeds, IsCounterexample, IsSecondRunCounterexample}
use Rattle.fs_semantics.proofs.Commuting.{outcome_keeps_tree}
use Rattle.fs_semantics.proofs.Decided.{outcome_told}

-- a run that doesn't end in a tree ends in Error
none_or_some : (r : Outcome) → (IsSome r → ⊥) → r ≡ None
none_or_some None h = refl
none_or_some (Some u) h = absurd (h refl)

-- a run that ends in a tree doesn't end in Error
pub some_not_none : (r : Outcome) → IsSome r → r ≡ None → ⊥
some_not_none None h e = cc
some_not_none (Some u) h e = cc

module _ (es : List Program) (before : ℕ → ℕ → Type 0) where
  -- programs are deterministic exactly where no tree and no two orders are a counterexample
  pub deterministic_exactly : IsDeterministic es before ↔ ((t : Tree) (o p : List ℕ) → IsCounterexample es before t o p → ⊥)
  deterministic_exactly = (
    (λ h t o p c. c.differ (h t c.is_tree o p c.left_allowed c.right_allowed)),
    (λ h t tree o p a b. elim (outcome_told (outcome es o t) (outcome es p t)) [
      | inl e ↦ e
      | inr n ↦ absurd (h t o p (record { is_tree = tree; left_allowed = a; right_allowed = b; differ = n }))
    ]),
  )

  -- deterministic programs are idempotent exactly where no tree and no order are one for a second run
  pub idempotent_exactly : AllByRecursion IsProper es → IsDeterministic es before → IsIdempotent es before ↔ ((t : Tree) (o : List ℕ) → IsSecondRunCounterexample es before t o → ⊥)
  idempotent_exactly proper sure = (
    (λ h t o c. c.changes (h t c.is_tree o o c.allowed c.allowed c.after c.ends)),
    (λ h t tree o p a b u done. elim (outcome_told (outcome es o u) (Some u)) [
      | inl e ↦ sure u (outcome_keeps_tree es proper o t u tree done) p o b a ∙ e
      | inr n ↦ absurd (h t o (record { is_tree = tree; allowed = a; after = u; ends = done; changes = n }))
    ]),
  )

  -- programs don't succeed exactly where all orders fail from every tree
  pub fails_exactly : (Succeeds es before → ⊥) ↔ ((t : Tree) → IsTree t → (o : List ℕ) → IsLinearExtension (length es) before o → outcome es o t ≡ None)
  fails_exactly = (
    (λ h t tree o a. none_or_some (outcome es o t) (λ e. h (record { tree = t; is_tree = tree; order = o; allowed = a; ends = e }))),
    (λ h s. some_not_none (outcome es s.order s.tree) s.ends (h s.tree s.is_tree s.order s.allowed)),
  )
