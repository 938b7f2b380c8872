-- The question of a second run: over which domain it is asked doesn't matter, and one order stands for all.
use Rattle.std.proofs.Common.{◌≡◌, ℕ, Bool, List, length, ◌∙◌}
use Rattle.std.specs.Prelude.{◌↔◌}
use Rattle.std.specs.List.{AllByRecursion}
use Rattle.fs_semantics.specs.FileTree.{Tree}
use Rattle.fs_semantics.specs.Programs.{Program}
use Rattle.fs_semantics.specs.Changes.{IsProper}
use Rattle.fs_semantics.specs.Orders.{Told, IsDeterministic, IsIdempotent, IsSecondRunCounterexample}
use Rattle.finite_domain.specs.Domains as over
use Rattle.finite_domain.specs.Domains.{IsDomain}
use Rattle.finite_domain.specs.Shadows.{IsOver}
use Rattle.finite_domain.specs.Layouts.{Layout, domain_of, IsLayout}
use Rattle.path_domain.specs.declared.listed.Domain.{Domain}
use Rattle.path_domain.specs.Laid.{layout_of}
use Rattle.orders.specs.Relation.{Relation, comes, Comes}
use Rattle.cnf.specs.Formulas.{Formula, IsSatisfiable}
use Rattle.proof_check.specs.Refuted.{HasNoModel}
use Rattle.order_encode.specs.Witnesses.{IsFirstExtension, HasSecondChange, ShowsChange}
use Rattle.order_encode.specs.declared.witness.Witness.{Witness}
use Rattle.order_encode.specs.declared.witness.Witness.TheVariants as witness
use Rattle.second_runs.specs.Questions.{StatesSecond, IsSecondChange}
use Rattle.second_runs.proofs.FirstExtension.{LeavesTrees, ends_in_tree, allowed}

-- what is known of layouts, and of second runs over a domain
abbrev pub LaidOut : Type 0
LaidOut = (es : List Program) (l : Layout) → IsLayout es l → IsDomain es (domain_of l)

-- a second run that changes something does so from a tree over the domain too
abbrev pub Shadowed : Type 0
Shadowed = (es : List Program) (d : over.Domain) → IsDomain es d → (before : ℕ → ℕ → Bool) (t : Tree) (o : List ℕ) → IsSecondRunCounterexample es (Told before) t o
    → (s : Tree) × IsOver d s × IsSecondRunCounterexample es (Told before) s o

-- a graph is idempotent exactly where no second run refutes it
abbrev Refutable : List Program → (ℕ → ℕ → Type 0) → Type 0
Refutable es before = IsIdempotent es before ↔ ((t : Tree) (o : List ℕ) → IsSecondRunCounterexample es before t o → ⊥)

module _ (laid : LaidOut) (shadowed : Shadowed) (es : List Program) (order : Relation) where
  -- and so does one in the first extension
  pub change_over : (d : Domain) → IsLayout es (layout_of d) → (t : Tree) (first : List ℕ) → IsFirstExtension order first → IsSecondRunCounterexample es (Comes order) t first → HasSecondChange es order d
  change_over d is t first least c =
      let w = shadowed es (domain_of (layout_of d)) (laid es (layout_of d) is) (comes order) t first c in
      record { tree = w.0; first = first; changed = record { is_first = least; over = w.1; counterexample = w.2 } }

  module _ (d : Domain) (is : IsLayout es (layout_of d)) (f : Formula) (exact : IsSatisfiable f ↔ HasSecondChange es order d) where
    -- the formula states whether a second run changes anything
    pub states : StatesSecond es order f
    states e lay = (
      (λ h. let w = exact.0 h in change_over e lay w.tree w.first w.changed.is_first w.changed.counterexample),
      (λ w. exact.1 (change_over d is w.tree w.first w.changed.is_first w.changed.counterexample)),
    )

    -- without a model the first extension has no second run that changes anything, and so no allowed order has one
    module _ (leaves : LeavesTrees) (proper : AllByRecursion IsProper es) (long : length es ≡ order.count) (sure : IsDeterministic es (Told (comes order))) (first : List ℕ) (least : IsFirstExtension order first) where
      -- where a second run in an allowed order changes something, one in the first extension does from the same tree
      in_first : (t : Tree) (o : List ℕ) → IsSecondRunCounterexample es (Told (comes order)) t o → IsSecondRunCounterexample es (Told (comes order)) t first
      in_first t o c =
          let may = allowed es order first long least in
          let tree = ends_in_tree leaves es proper o t c.after c.is_tree c.ends in
          record {
            is_tree = c.is_tree;
            allowed = may;
            after = c.after;
            ends = sure t c.is_tree first o may c.allowed ∙ c.ends;
            changes = λ h. c.changes (sure c.after tree o first c.allowed may ∙ h);
          }

      -- where the formula has no model, no second run changes anything
      pub idempotent : Refutable es (Told (comes order)) → HasNoModel f → IsIdempotent es (Told (comes order))
      idempotent exactly no_model = exactly.1 (λ t o c. let v = exact.1 (change_over d is t first least (in_first t o c)) in no_model v.0 v.1)

-- what shows a change, over a domain, is a witness of a second run that changes something
pub change : (es : List Program) (order : Relation) (d : Domain) (w : Witness) → ShowsChange es order d w → IsSecondChange es order w
change es order d (witness.Orders tree left right) h = absurd h
change es order d (witness.Twice tree first) h = (h.is_first, h.counterexample)
change es order d (witness.Ends tree first) h = absurd h
