-- The formula of the question whether two orders end differently.
use Rattle.std.proofs.Common.{◌≡◌, List, ℕ, sym, subst}
use Rattle.std.specs.Prelude.{◌↔◌}
use Rattle.fs_semantics.specs.FileTree.{Tree}
use Rattle.fs_semantics.specs.Programs.{Program}
use Rattle.path_domain.specs.declared.listed.Domain.{Domain}
use Rattle.sym_run.specs.Trees.{IsTreeOver}
use Rattle.order_encode.specs.declared.witness.Witness.{Witness}
use Rattle.order_encode.specs.declared.witness.Witness.TheVariants as witness
use Rattle.order_encode.specs.Parting.{EndDifferently, PartFrom, HaveParting, ShowsParting}

module _ (es : List Program) (order : List ℕ) (fs : List Program) (other : List ℕ) (d : Domain) where
  -- a tree over the domain from which the two end differently shows that they part
  part_is : (t : Tree) → IsTreeOver d t → EndDifferently es order fs other t → PartFrom es order fs other d t
  part_is t over h = record { is_tree = over.is_tree; over = over.is_over; differ = h }

  -- the formula has a model exactly where the two part from some tree over the domain
  pub parting_exact : {S : Type 0} → S ↔ ((t : Tree) × IsTreeOver d t × EndDifferently es order fs other t) → S ↔ HaveParting es order fs other d
  parting_exact exact = (
    (λ s. let h = exact.0 s in record { tree = h.0; parts = part_is h.0 h.1 h.2 }),
    (λ h. exact.1 (h.tree, record { is_tree = h.parts.is_tree; is_over = h.parts.over }, h.parts.differ)),
  )

  -- and a witness with such a tree shows that they do
  pub parting_shown : (w : Witness) → (t : Tree) × (IsTreeOver d t × EndDifferently es order fs other t) × (w ≡ witness.Ends t order) → ShowsParting es order fs other d w
  parting_shown w h = subst (ShowsParting es order fs other d) (sym h.2) (part_is h.0 h.1.0 h.1.1)
