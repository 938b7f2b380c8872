-- What two runs from a tree tell.
use Rattle.std.proofs.Common.{◌≡◌, ℕ, ◌<◌, Bool, true, false, List, Option, Some, None, refl, sym, subst, subst₂, ◌∙◌}
use Rattle.std.specs.Prelude.{◌↔◌, not, IsTrue, IfSome}
use Rattle.std.specs.List.{AllByRecursion}
use Rattle.fs_semantics.specs.FileTree.{Tree, IsTree}
use Rattle.fs_semantics.specs.Programs.{Program, Outcome}
use Rattle.orders.specs.Relation.{Relation}
use Rattle.order_encode.specs.Witnesses.{IsFirstExtension}
use Rattle.order_encode.specs.Parting.{EndDifferently}
use Rattle.equal_graphs.specs.Equal.{FirstsPart}
use Rattle.equal_graphs.specs.Tried.{PartsFrom}

-- numbers below a count are below it in other words
pub below : (n m : ℕ) (order : List ℕ) → n ≡ m → AllByRecursion (λ k. k < m) order → AllByRecursion (λ k. k < n) order
below n m order e all = subst (λ c. AllByRecursion (λ k. k < c) order) (sym e) all

-- the runs from a tree ended so, and it was told whether they ended alike
pub apart_is : (same : Bool) (a b o u : Outcome) → a ≡ o → b ≡ u → IsTrue same ↔ (a ≡ b) → IsTrue (not same) ↔ (o ≡ u → ⊥)
apart_is true a b o u e h told = ((λ k. cc), (λ n. absurd (n (sym e ∙ told.0 refl ∙ h))))
apart_is false a b o u e h told = ((λ k eq. let bad : false ≡ true = told.1 (e ∙ eq ∙ sym h) in cc), (λ n. refl))

-- of a copy of the tree the same is told
pub parts_at : (es : List Program) (o : List ℕ) (fs : List Program) (p : List ℕ) (t copy : Tree) → copy ≡ t → IsTree t → EndDifferently es o fs p t → PartsFrom es o fs p copy
parts_at es o fs p t copy same tree differ = subst (PartsFrom es o fs p) (sym same) (tree, differ)

-- a tree from which the orders that are lent end differently, if one was found, is one for the two first extensions
pub parting_found : (es : List Program) (order : Relation) (fs : List Program) (other : Relation) (first second lent lent_too : List ℕ) → lent ≡ first → lent_too ≡ second
    → IsFirstExtension order first → IsFirstExtension other second → (found : Option Tree) → IfSome found (PartsFrom es lent fs lent_too) → IfSome found (FirstsPart es order fs other)
parting_found es order fs other first second lent lent_too e h left right None parts = tt
parting_found es order fs other first second lent lent_too e h left right (Some t) parts =
    let part = subst₂ (λ o p. PartsFrom es o fs p t) e h parts in
    record { is_tree = part.0; left = first; right = second; left_first = left; right_first = right; differ = part.1 }
