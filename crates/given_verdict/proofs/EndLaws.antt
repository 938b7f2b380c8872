-- A run that ends in a tree, with the guard in front and without it.
use Rattle.std.proofs.Common.{◌≡◌, ◌≢◌, ℕ, List, [], ◌∷◌, length, sym, ap, subst, ◌∙◌}
use Rattle.std.specs.Prelude.{◌↔◌, IsSome, is_some}
use Rattle.fs_semantics.specs.FileTree.{Path, Tree, IsTree}
use Rattle.fs_semantics.specs.Programs.{Program}
use Rattle.fs_semantics.specs.Orders.{Told, IsLinearExtension, outcome}
use Rattle.path_domain.specs.Laid.{layout_of}
use Rattle.given_hosts.specs.Given.{IsDeterministicFrom, SucceedsFrom}
use Rattle.given_hosts.specs.Guard.{guarded, guard_before, GoesFirst}
use Rattle.given_hosts.proofs.GuardLaws.{goes_first, ends_where_stand}
use Rattle.given_hosts.proofs.GraphLaws.{order_behind, ended}
use Rattle.orders.specs.Relation.{Relation, comes}
use Rattle.cnf.specs.Formulas.{Formula}
use Rattle.order_encode.specs.Witnesses.{IsFirstExtension}
use Rattle.order_encode.specs.declared.witness.Witness.{Witness}
use Rattle.order_encode.specs.declared.witness.Witness.TheVariants as witness
use Rattle.success.specs.Questions.{StatesEnd, IsEnd}
use Rattle.given_verdict.specs.Second.{IsChangeFrom}
use Rattle.given_verdict.specs.Ends.{IsRunFrom, StatesEndFrom, IsEndFrom, IsRunOf, HasOneOrder}
use Rattle.given_verdict.proofs.AskedLaws.{layout_of_guarded}
use Rattle.fs_semantics.proofs.Refuted.{some_not_none}

-- a witness of a run that ends in a tree has one order
pub one_order : (es : List Program) (order : Relation) (w : Witness) → IsEnd es order w → HasOneOrder w
one_order es order (witness.Orders tree left right) h = h
one_order es order (witness.Twice tree o) h = tt
one_order es order (witness.Ends tree o) h = tt

-- and so has a witness of a second run that changes something
pub one_order_of_change : (given : List Path) (es : List Program) (order : Relation) (w : Witness) → IsChangeFrom given es order w → HasOneOrder w
one_order_of_change given es order (witness.Orders tree left right) h = h
one_order_of_change given es order (witness.Twice tree o) h = tt
one_order_of_change given es order (witness.Ends tree o) h = tt

module _ (given : List Path) (es : List Program) (order : Relation) (long : length es ≡ order.count) (sure : IsDeterministicFrom given es (Told (comes order))) where
  -- the first extension is an allowed order
  allowed : (first : List ℕ) → IsFirstExtension order first → IsLinearExtension (length es) (Told (comes order)) first
  allowed first is = subst (λ n. IsLinearExtension n (Told (comes order)) first) (sym long) is.allowed

  -- where a witness shows a run that ends in a tree, the graph succeeds from a tree in which the given folders stand
  pub succeeds : (w : Witness) → IsEndFrom given es order w → SucceedsFrom given es (Told (comes order))
  succeeds (witness.Orders tree left right) h = absurd h
  succeeds (witness.Twice tree o) h = absurd h
  succeeds (witness.Ends tree first) h = record { tree = tree; is_tree = h.is_tree; order = first; allowed = allowed first h.is_first; ends = h.ends }

  -- the first of two runs ends in a tree, and so does the first extension
  pub end_of_change : (w v : Witness) → IsChangeFrom given es order w → IsRunOf order w v → IsEndFrom given es order v
  end_of_change (witness.Orders tree left right) v h is = absurd h
  end_of_change (witness.Twice tree o) v h is =
      let g : _ = record { is_tree = h.0.shows.is_tree; stand = h.0.stand } in
      subst (IsEndFrom given es order) (sym is.2) (record {
        is_first = is.1;
        is_tree = g;
        ends = ap is_some (sure tree g is.0 o (allowed is.0 is.1) h.0.shows.allowed ∙ h.0.shows.ends);
      })
  end_of_change (witness.Ends tree o) v h is = absurd h

  module _ (more : Relation) (count : length (guarded given es) ≡ more.count) (before : comes more ≡ guard_before order.count (comes order)) where
    -- the guard goes first in the order with the guard
    goes : GoesFirst (length es) (comes order) (comes more)
    goes = subst (GoesFirst (length es) (comes order)) (sym before) (subst (λ n. GoesFirst n (comes order) (guard_before order.count (comes order))) (sym long) (goes_first order.count (comes order)))

    -- the first extension with the guard is the guard, and then an allowed order of the programs
    behind : (o : List ℕ) → IsFirstExtension more o → (p : List ℕ) × (o ≡ length es ∷ p) × IsLinearExtension (length es) (Told (comes order)) p
    behind o is = order_behind given es (comes order) (comes more) goes o (subst (λ n. IsLinearExtension n (Told (comes more)) o) (sym count) is.allowed)

    -- where it ends in a tree the given folders stood, and the first extension without the guard ends in one too
    without : (t : Tree) (o first : List ℕ) → IsTree t → IsFirstExtension more o → IsSome (outcome (guarded given es) o t) → IsFirstExtension order first → IsRunFrom given es order t first
    without t o first tree is ends is_first =
        let l = behind o is in
        let e = ended given es (comes order) (comes more) goes o t l (some_not_none (outcome (guarded given es) o t) ends) in
        record {
          is_first = is_first;
          is_tree = record { is_tree = tree; stand = e.0 };
          ends = subst IsSome (e.1 ∙ sure t (record { is_tree = tree; stand = e.0 }) l.0 first l.2 (allowed first is_first)) ends;
        }

    -- and where that does so from a tree in which they stand, it does so with the guard
    with_it : (t : Tree) (o first : List ℕ) → IsFirstExtension more o → IsRunFrom given es order t first → IsSome (outcome (guarded given es) o t)
    with_it t o first is run =
        let l = behind o is in
        let same = ap (λ q. outcome (guarded given es) q t) l.1 ∙ ends_where_stand given es l.0 t l.2.below run.is_tree.stand ∙ sure t run.is_tree l.0 first l.2 (allowed first run.is_first) in
        subst IsSome (sym same) run.ends

    -- the tree of a run with the guard that ends, with the first extension without it, shows a run that ends
    pub shown : (w v : Witness) → IsEnd (guarded given es) more w → IsRunOf order w v → IsEndFrom given es order v
    shown (witness.Orders tree left right) v h is = absurd h
    shown (witness.Twice tree o) v h is = absurd h
    shown (witness.Ends tree o) v h is = subst (IsEndFrom given es order) (sym is.2) (without tree o is.0 h.1 h.0 h.2 is.1)

    -- a formula that states whether a run with the guard ends states whether one ends from the given trees
    pub states : given ≢ [] → (first whole : List ℕ) → IsFirstExtension order first → IsFirstExtension more whole → (f : Formula) → StatesEnd (guarded given es) more f → StatesEndFrom given es order f
    states some first whole is_first is_whole f stated d lay =
        let exact = stated d (layout_of_guarded given es some (layout_of d) lay) in (
          (λ sat.
              let w = exact.0 sat in
              record { tree = w.tree; first = first; over = w.ended.over; run = without w.tree w.first first w.ended.is_tree w.ended.is_first w.ended.ends is_first }),
          (λ h. exact.1 (record {
            tree = h.tree;
            first = whole;
            ended = record { is_first = is_whole; is_tree = h.run.is_tree.is_tree; over = h.over; ends = with_it h.tree whole h.first is_whole h.run };
          })),
        )
