-- Runs of two graphs that end differently, with a guard in front of each and without.
use Rattle.std.proofs.Common.{◌≡◌, ◌≢◌, inl, inr, ℕ, List, [], ◌∷◌, ◌++◌, length, refl, sym, ◌∙◌}
use Rattle.std.specs.Prelude.{◌↔◌}
use Rattle.fs_semantics.specs.FileTree.{Path, Tree}
use Rattle.fs_semantics.specs.Programs.{Program}
use Rattle.fs_semantics.specs.Orders.{Told}
use Rattle.finite_domain.specs.Layouts.{Layout, IsLayout}
use Rattle.path_domain.specs.Laid.{layout_of}
use Rattle.given_hosts.specs.Given.{IsDeterministicFrom}
use Rattle.given_hosts.specs.Guard.{guarded, guard_before}
use Rattle.given_hosts.proofs.GuardLaws.{stand_told}
use Rattle.orders.specs.Relation.{Relation, comes}
use Rattle.cnf.specs.Formulas.{Formula}
use Rattle.order_encode.specs.Witnesses.{IsFirstExtension}
use Rattle.equal_graphs.specs.Equal.{FirstsPart}
use Rattle.equal_graphs.specs.Questions.{StatesParting}
use Rattle.given_verdict.proofs.SideLaws.{fails_from, ends_from}
use Rattle.given_equal.specs.Sizes.{joined}
use Rattle.given_equal.specs.Questions.{FirstsPartFrom, StatesPartingFrom}

-- where folders are given, the layout of both graphs is that of both with their guards
layout_of_both : (given : List Path) (es fs : List Program) → given ≢ [] → (l : Layout) → IsLayout (joined given es fs) l → IsLayout (guarded given es ++ guarded given fs) l
layout_of_both [] es fs some l h = absurd (some refl)
layout_of_both (p ∷ ps) es fs some l h = h

module _ (given : List Path) (es : List Program) (order : Relation) (long : length es ≡ order.count) (more : Relation) (before : comes more ≡ guard_before order.count (comes order))
    (count : length (guarded given es) ≡ more.count) (sure : IsDeterministicFrom given es (Told (comes order)))
    (fs : List Program) (other : Relation) (other_long : length fs ≡ other.count) (second : Relation) (other_before : comes second ≡ guard_before other.count (comes other))
    (other_count : length (guarded given fs) ≡ second.count) (other_sure : IsDeterministicFrom given fs (Told (comes other))) where
  -- first extensions that part with the guards part from a tree in which the folders stand
  pub part : (first other_first : List ℕ) → IsFirstExtension order first → IsFirstExtension other other_first → (t : Tree) → FirstsPart (guarded given es) more (guarded given fs) second t → FirstsPartFrom given es order fs other t
  part first other_first is_first is_other_first t p = elim (stand_told given t) [
    | inl g ↦
        let given_tree : _ = record { is_tree = p.is_tree; stand = g } in
        let a = ends_from given es order long more before count sure t given_tree p.left first p.left_first is_first in
        let b = ends_from given fs other other_long second other_before other_count other_sure t given_tree p.right other_first p.right_first is_other_first in
        record {
          stand = g;
          shows = record { is_tree = p.is_tree; left = first; right = other_first; left_first = is_first; right_first = is_other_first; differ = λ e. p.differ (a ∙ e ∙ sym b) };
        }
    | inr n ↦ absurd (p.differ (fails_from given es order long more before count t n p.left p.left_first ∙ sym (fails_from given fs other other_long second other_before other_count t n p.right p.right_first)))
  ]

  -- and where they do so from such a tree, they part with the guards
  part_back : (whole other_whole : List ℕ) → IsFirstExtension more whole → IsFirstExtension second other_whole → (t : Tree) → FirstsPartFrom given es order fs other t → FirstsPart (guarded given es) more (guarded given fs) second t
  part_back whole other_whole is_whole is_other_whole t p =
      let shows = p.shows in
      let given_tree : _ = record { is_tree = shows.is_tree; stand = p.stand } in
      let a = ends_from given es order long more before count sure t given_tree whole shows.left is_whole shows.left_first in
      let b = ends_from given fs other other_long second other_before other_count other_sure t given_tree other_whole shows.right is_other_whole shows.right_first in
      record { is_tree = shows.is_tree; left = whole; right = other_whole; left_first = is_whole; right_first = is_other_whole; differ = λ e. shows.differ (sym a ∙ e ∙ b) }

  module _ (some : given ≢ []) (first whole other_first other_whole : List ℕ) (is_first : IsFirstExtension order first) (is_whole : IsFirstExtension more whole)
      (is_other_first : IsFirstExtension other other_first) (is_other_whole : IsFirstExtension second other_whole) where
    -- a formula that states the question with the guards states it from these trees
    pub states : (f : Formula) → StatesParting (guarded given es) more (guarded given fs) second f → StatesPartingFrom given es order fs other f
    states f stated d lay =
        let exact = stated d (layout_of_both given es fs some (layout_of d) lay) in (
          (λ sat. let p = exact.0 sat in record { tree = p.tree; over = p.over; part = part first other_first is_first is_other_first p.tree p.part }),
          (λ p. exact.1 (record { tree = p.tree; over = p.over; part = part_back whole other_whole is_whole is_other_whole p.tree p.part })),
        )
