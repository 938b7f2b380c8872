-- What holds of all that were looked at so far and of the next one.
use Rattle.std.proofs.Common.{◌≡◌, ◌≢◌, ℕ, zero, suc, ◌+◌, ◌<◌, List, [], ◌∷◌, length, take, get_or, Option, None, sym, ap, subst, ◌∙◌, add-one, arith}
use Rattle.std.specs.Prelude.{MatchOption}
use Rattle.std.specs.List.{AllByRecursion}
use Rattle.fs_semantics.specs.FileTree.{Tree, IsTree}
use Rattle.fs_semantics.specs.Programs.{Program}
use Rattle.fs_semantics.specs.Orders.{Told, IsLinearExtension, IsExchange, IsCounterexample, outcome}
use Rattle.orders.specs.Relation.{Relation, comes, Comes}
use Rattle.tried_trees.specs.declared.placing.Place.{Place}
use Rattle.tried_trees.specs.Placing.{IsPlaced}

-- what holds of the items so far and of the next one holds of all up to it
all_suc : {X : Type 0} (P : X → Type 0) (xs : List X) (i : ℕ) (d : X) → i < length xs → AllByRecursion P (take i xs) → P (get_or xs i d) → AllByRecursion P (take (suc i) xs)
all_suc P [] i d h all one = absurd (omega (arith, h))
all_suc P (x ∷ xs) zero d h all one = (one, tt)
all_suc P (x ∷ xs) (suc i) d h all one = (all.0, all_suc P xs i d (omega (arith, h)) all.1 one)

-- the same, with the number of items as loops count it
pub all_next : {X : Type 0} (P : X → Type 0) (xs : List X) (i : ℕ) (d : X) → i < length xs → AllByRecursion P (take i xs) → P (get_or xs i d) → AllByRecursion P (take (i + 1) xs)
all_next P xs i d h all one = subst (λ n. AllByRecursion P (take n xs)) (sym (add-one i)) (all_suc P xs i d h all one)

-- what is promised where nothing is found holds where nothing is
pub if_none : {D : Type 0} (found : Option D) (P : Type 0) (Q : D → Type 0) → found ≡ None → MatchOption found P Q → P
if_none found P Q e h = subst (λ f. MatchOption f P Q) e h

-- two programs next to one another that end differently in either order are a difference
pub differing : (place : Place) (es : List Program) (order : Relation) (t u : Tree) (a b : ℕ) (left right x y : List ℕ) → length es ≡ order.count → IsTree t → u ≡ t → left ≡ x → right ≡ y
    → IsPlaced place order a b x y → outcome es x t ≢ outcome es y t → IsCounterexample es (Told (comes order)) u left right × IsExchange (Told (comes order)) left right
differing place es order t u a b left right x y count tree same is_left is_right placed apart = (
  record {
    is_tree = subst IsTree (sym same) tree;
    left_allowed = subst (λ n. IsLinearExtension n (Comes order) left) (sym count) (subst (IsLinearExtension order.count (Comes order)) (sym is_left) placed.left_allowed);
    right_allowed = subst (λ n. IsLinearExtension n (Comes order) right) (sym count) (subst (IsLinearExtension order.count (Comes order)) (sym is_right) placed.right_allowed);
    differ = λ e. apart (sym (λ i. outcome es (is_left i) (same i)) ∙ e ∙ (λ i. outcome es (is_right i) (same i)));
  },
  subst (λ l. IsExchange (Comes order) l right) (sym is_left) (subst (IsExchange (Comes order) x) (sym is_right) placed.exchange),
)
