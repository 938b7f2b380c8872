-- What is said of arrows that repair the graph with the guard in front, said of the graph.
use Rattle.std.proofs.Common.{◌≡◌, ◌≢◌, ◌↔◌, inl, inr, ℕ, ◌+◌, List, [], ◌∷◌, ◌++◌, length, refl, sym, ap, subst, ◌∙◌}
use Rattle.std.specs.Prelude.{IsSome}
use Rattle.fs_semantics.specs.FileTree.{Path, Tree}
use Rattle.fs_semantics.specs.Programs.{Program}
use Rattle.fs_semantics.specs.Orders.{Told, outcome, IsDeterministic}
use Rattle.given_hosts.specs.Given.{Stand, IsDeterministicFrom}
use Rattle.given_hosts.specs.Guard.{guarded, guard_before}
use Rattle.given_hosts.proofs.GuardLaws.{stand_told, ends_where_stand, fails_elsewhere}
use Rattle.given_hosts.proofs.GraphLaws.{order_behind, deterministic, none_to_stand}
use Rattle.given_hosts.proofs.NoneGiven as none
use Rattle.orders.specs.Relation.{Relation, comes, Comes, IsStrictOrder}
use Rattle.cnf.specs.Formulas.{Formula}
use Rattle.cnf.specs.declared.log.Step.{Step}
use Rattle.repair.specs.Arrows.{ComesWith, CanBeAdded}
use Rattle.repair.specs.Repairs.{Repairs, AreNeeded, PointRight}
use Rattle.repair.specs.Answers.{IsSpentWith, IsRepaired}
use Rattle.repair.specs.declared.repaired.Repaired.{Repaired}
use Rattle.repair.specs.declared.repaired.Repaired.TheVariants as repaired
use Rattle.given_repair.specs.Repairs.{RepairsFrom, AreNeededFrom, PointRightFrom, IsSpentWithFrom, IsRepairedFrom}
use Rattle.given_repair.proofs.RunLaws.{Followed, goes, can_be_added, behind, deterministic_from, deterministic_with}
use Rattle.fs_semantics.proofs.Refuted.{some_not_none}

-- ---- where no folder is given
module _ (es : List Program) (order : Relation) where
  -- arrows that point the way that succeeds do so from the trees of no given folders
  right_of_none : (arrows : List (ℕ × ℕ)) → PointRight es order arrows → PointRightFrom [] es order arrows
  right_of_none arrows r = record {
    tree = r.tree;
    is_tree = none_to_stand r.tree r.is_tree;
    run = r.run;
    follows = r.follows;
    ends = r.ends;
    other = r.other;
    allowed = r.allowed;
    differ = r.differ;
  }

  -- and all that is said of an answer is said from these
  pub repaired_of_none : (budget : ℕ) (a : Repaired) → IsRepaired es order budget a → IsRepairedFrom [] es order budget a
  repaired_of_none budget (repaired.Done arrows) h = record {
    added = h.added;
    repairs = record { added = h.repairs.added; deterministic = (none.deterministic es (ComesWith order arrows)).1 h.repairs.deterministic };
    needed = λ front arrow back are sure. h.needed front arrow back are ((none.deterministic es (ComesWith order (front ++ back))).0 sure);
    right = λ some. right_of_none arrows (h.right some);
    nothing = (
      (λ e. (none.deterministic es (Told (comes order))).1 (h.nothing.0 e)),
      (λ sure. h.nothing.1 ((none.deterministic es (Told (comes order))).0 sure)),
    );
    spent = tt;
  }
  repaired_of_none budget (repaired.Spent arrows cnf log) h = record {
    added = h.added;
    repairs = tt;
    needed = tt;
    right = tt;
    nothing = tt;
    spent = record { asked = order; before = refl; spent = h.spent };
  }

-- ---- where some are
-- what the budget was spent on with the guard it was spent on from the trees in which the folders stand
spent_of_guarded : (given : List Path) (es : List Program) (order more : Relation) → given ≢ [] → comes more ≡ guard_before order.count (comes order) → (budget : ℕ) (arrows : List (ℕ × ℕ)) (f : Formula) (steps : List Step)
    → IsSpentWith (guarded given es) more budget arrows f steps → IsSpentWithFrom given es order budget arrows f steps
spent_of_guarded [] es order more some before budget arrows f steps h = absurd (some refl)
spent_of_guarded (p ∷ ps) es order more some before budget arrows f steps h = record { asked = more; before = before; spent = h }

module _ (given : List Path) (es : List Program) (order more : Relation) (long : length es ≡ order.count) (strict : IsStrictOrder order)
    (strict_more : IsStrictOrder more) (count : more.count ≡ order.count + 1) (before : comes more ≡ guard_before order.count (comes order)) (followed : Followed) where
  -- arrows that point the way that succeeds with the guard do so from these
  right_from : (arrows : List (ℕ × ℕ)) → PointRight (guarded given es) more arrows → PointRightFrom given es order arrows
  right_from arrows r =
      let l = behind given es order more long strict strict_more count before arrows r.run r.follows in
      let o = order_behind given es (comes order) (comes more) (goes given es order more long strict strict_more count before) r.other r.allowed in
      let left = ap (λ q. outcome (guarded given es) q r.tree) l.1 in
      let right = ap (λ q. outcome (guarded given es) q r.tree) o.1 in
      elim (stand_told given r.tree) [
        | inl g ↦
            let one = left ∙ ends_where_stand given es l.0 r.tree l.2.below g in
            let two = right ∙ ends_where_stand given es o.0 r.tree o.2.below g in
            record {
              tree = r.tree;
              is_tree = record { is_tree = r.is_tree; stand = g };
              run = l.0;
              follows = l.2;
              ends = subst IsSome one r.ends;
              other = o.0;
              allowed = o.2;
              differ = λ e. r.differ (one ∙ e ∙ sym two);
            }
        | inr n ↦ absurd (some_not_none (outcome (guarded given es) r.run r.tree) r.ends (left ∙ fails_elsewhere given es l.0 r.tree n))
      ]

  -- and all that is said of an answer with the guard is said from these
  pub repaired_of_guarded : given ≢ [] → (budget : ℕ) (a : Repaired) → IsRepaired (guarded given es) more budget a → IsRepairedFrom given es order budget a
  repaired_of_guarded some budget (repaired.Done arrows) h =
      let same = deterministic given es (comes order) (comes more) (goes given es order more long strict strict_more count before) in
      let added = can_be_added given es order more long strict strict_more count before arrows h.added in
      record {
        added = added;
        repairs = record { added = added; deterministic = deterministic_from given es order more long strict strict_more count before followed arrows h.added.free h.repairs.deterministic };
        needed = λ front arrow back are sure. h.needed front arrow back are (deterministic_with given es order more long strict strict_more count before (front ++ back) sure);
        right = λ any. right_from arrows (h.right any);
        nothing = ((λ e. same.0 (h.nothing.0 e)), (λ sure. h.nothing.1 (same.1 sure)));
        spent = tt;
      }
  repaired_of_guarded some budget (repaired.Spent arrows cnf log) h = record {
    added = can_be_added given es order more long strict strict_more count before arrows h.added;
    repairs = tt;
    needed = tt;
    right = tt;
    nothing = tt;
    spent = spent_of_guarded given es order more some before budget arrows cnf log.steps h.spent;
  }
