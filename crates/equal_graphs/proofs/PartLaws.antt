-- The question whether two deterministic graphs do the same: over which domain it is asked doesn't matter, and one order stands for all.
use Rattle.std.proofs.Common.{◌≡◌, ◌≢◌, inl, inr, ℕ, ◌<◌, List, ◌++◌, length, sym, subst, ◌∙◌}
use Rattle.std.specs.Prelude.{◌↔◌}
use Rattle.std.specs.List.{AllByRecursion}
use Rattle.fs_semantics.specs.FileTree.{Tree, IsTree}
use Rattle.fs_semantics.specs.Programs.{Program}
use Rattle.fs_semantics.specs.Orders.{Told, IsLinearExtension, IsDeterministic, outcome}
use Rattle.fs_semantics.proofs.Decided.{outcome_told}
use Rattle.finite_domain.specs.Layouts.{IsLayout}
use Rattle.path_domain.specs.declared.listed.Domain.{Domain}
use Rattle.path_domain.specs.Laid.{layout_of}
use Rattle.orders.specs.Relation.{Relation, comes, Comes}
use Rattle.cnf.specs.Formulas.{Formula, IsSatisfiable}
use Rattle.proof_check.specs.Refuted.{HasNoModel}
use Rattle.order_encode.specs.Witnesses.{IsFirstExtension}
use Rattle.order_encode.specs.Parting.{HaveParting, ShowsParting}
use Rattle.order_encode.specs.declared.witness.Witness.{Witness}
use Rattle.order_encode.specs.declared.witness.Witness.TheVariants as witness
use Rattle.equal_graphs.specs.Equal.{AreEqual, FirstsPart}
use Rattle.equal_graphs.specs.Questions.{StatesParting, IsParting, tree_in}
use Rattle.equal_graphs.proofs.RunLaws.{LaidOut, HaveShadows, TellTheSame, apart_over}

-- an order that is allowed of as many nodes as there are programs is allowed of the programs
pub allowed : (es : List Program) (order : Relation) (o : List ℕ) → length es ≡ order.count → IsLinearExtension order.count (Comes order) o → IsLinearExtension (length es) (Comes order) o
allowed es order o long is = subst (λ n. IsLinearExtension n (Comes order) o) (sym long) is

-- all allowed orders of a deterministic graph have one outcome
one_outcome : (es : List Program) (order : Relation) → length es ≡ order.count → IsDeterministic es (Told (comes order)) → (t : Tree) → IsTree t → (a b : List ℕ)
    → IsLinearExtension order.count (Comes order) a → IsLinearExtension order.count (Comes order) b → outcome es a t ≡ outcome es b t
one_outcome es order long sure t tree a b left right = sure t tree a b (allowed es order a long left) (allowed es order b long right)

module _ (es : List Program) (order : Relation) (fs : List Program) (other : Relation) (left_long : length es ≡ order.count) (right_long : length fs ≡ other.count)
    (left_sure : IsDeterministic es (Told (comes order))) (right_sure : IsDeterministic fs (Told (comes other))) (first second : List ℕ) (left_first : IsFirstExtension order first) (right_first : IsFirstExtension other second)
    (o p : List ℕ) (left_allowed : IsLinearExtension order.count (Comes order) o) (right_allowed : IsLinearExtension other.count (Comes other) p) where
  -- the order of the first graph has numbers of its programs alone
  low : AllByRecursion (λ k. k < length es) o
  low = (allowed es order o left_long left_allowed).below

  -- where the two orders end differently, the two first extensions do
  firsts_part : (t : Tree) → IsTree t → outcome es o t ≢ outcome fs p t → FirstsPart es order fs other t
  firsts_part t tree differ = record {
    is_tree = tree;
    left = first;
    right = second;
    left_first = left_first;
    right_first = right_first;
    differ = λ e. differ (one_outcome es order left_long left_sure t tree o first left_allowed left_first.allowed ∙ e ∙ one_outcome fs other right_long right_sure t tree second p right_first.allowed right_allowed);
  }

  -- where the two first extensions end differently, the two orders do
  turns_part : (t : Tree) → FirstsPart es order fs other t → outcome es o t ≢ outcome fs p t
  turns_part t h e = h.differ (one_outcome es order left_long left_sure t h.is_tree h.left o h.left_first.allowed left_allowed ∙ e ∙ one_outcome fs other right_long right_sure t h.is_tree p h.right right_allowed h.right_first.allowed)

  -- a witness of the two orders that end differently shows that the two first extensions do
  pub shown : (d : Domain) (w : Witness) → ShowsParting es o fs p d w → IsParting es order fs other w
  shown d (witness.Orders tree left right) h = absurd h
  shown d (witness.Twice tree turns) h = absurd h
  shown d (witness.Ends tree turns) h = firsts_part tree h.is_tree h.differ

  module _ (laid : LaidOut) (have : HaveShadows) (tell : TellTheSame) (d : Domain) (is : IsLayout (es ++ fs) (layout_of d)) (f : Formula) (exact : IsSatisfiable f ↔ HaveParting es o fs p d) where
    -- where the two orders end differently from any tree, the formula can be true
    found : (t : Tree) → IsTree t → outcome es o t ≢ outcome fs p t → IsSatisfiable f
    found t tree differ =
        let s = apart_over laid have tell es fs d is t tree o p low differ in
        exact.1 (record { tree = s.0; parts = record { is_tree = s.1; over = s.2; differ = s.3 } })

    -- the formula states whether the graphs do the same
    pub states : StatesParting es order fs other f
    states e lay = (
      (λ h.
          let m = exact.0 h in
          let s = apart_over laid have tell es fs e lay m.tree m.parts.is_tree o p low m.parts.differ in
          record { tree = s.0; over = s.2; part = firsts_part s.0 s.1 s.3 }),
      (λ h. found h.tree h.part.is_tree (turns_part h.tree h.part)),
    )

    -- where it has no model they do
    pub equal : HasNoModel f → AreEqual es (Told (comes order)) fs (Told (comes other))
    equal no_model t tree a b left right = elim (outcome_told (outcome es a t) (outcome fs b t)) [
      | inl e ↦ e
      | inr differ ↦ absurd (
          let v = found t tree (λ e. differ (left_sure t tree a o left (allowed es order o left_long left_allowed) ∙ e ∙ right_sure t tree p b (allowed fs other p right_long right_allowed) right)) in
          no_model v.0 v.1)
    ]

-- the tree of a witness that shows it
pub parts_in : (es : List Program) (order : Relation) (fs : List Program) (other : Relation) (w : Witness) → IsParting es order fs other w → FirstsPart es order fs other (tree_in w)
parts_in es order fs other (witness.Orders tree left right) h = absurd h
parts_in es order fs other (witness.Twice tree turns) h = absurd h
parts_in es order fs other (witness.Ends tree turns) h = h
