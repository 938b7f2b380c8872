-- What a run tells of a wanted entry.
use Rattle.std.proofs.Common.{◌≡◌, ℕ, ◌<◌, Bool, true, false, List, length, Option, Some, None, refl, sym, subst, ◌∙◌}
use Rattle.std.specs.Prelude.{◌↔◌, not, IsTrue}
use Rattle.std.specs.List.{AllByRecursion}
use Rattle.fs_semantics.specs.FileTree.{Tree, IsTree}
use Rattle.fs_semantics.specs.Programs.{Program, Outcome}
use Rattle.orders.specs.Relation.{Relation}
use Rattle.order_encode.specs.Missing.{EndsMissing}
use Rattle.order_encode.specs.Witnesses.{IsFirstExtension}
use Rattle.order_encode.specs.declared.witness.Witness.TheVariants as witness
use Rattle.wanted_entry.specs.declared.wanted.Wanted.{Wanted}
use Rattle.wanted_entry.specs.Entries.{HasWanted}
use Rattle.ensured_entry.specs.Questions.{IsMissed}
use Rattle.ensured_entry.specs.Tried.{MissesFrom}
use Rattle.ensured_entry.proofs.MissingLaws.{allowed}

-- the run ended in a tree, of which it is told whether it has the entry
pub ended : (o : Outcome) (u : Tree) (w : Wanted) (has : Bool) → Some u ≡ o → IsTrue has ↔ HasWanted u w → IsTrue (not has) ↔ ((v : Tree) × (o ≡ Some v) × (HasWanted v w → ⊥))
ended o u w true e told = ((λ h. cc), (λ m. let same : u ≡ m.0 = got (e ∙ m.1) in absurd (m.2 (subst (λ x. HasWanted x w) same (told.0 refl)))))
  where
    got : {a b : Tree} → ◌≡◌ {A = Option Tree} (Some a) (Some b) → a ≡ b
    got q = cc
ended o u w false e told = ((λ h. (u, sym e, (λ has. let bad : false ≡ true = told.1 has in cc))), (λ m. refl))

-- it ended in Error
pub failed : (o : Outcome) (w : Wanted) → None ≡ o → IsTrue false ↔ ((v : Tree) × (o ≡ Some v) × (HasWanted v w → ⊥))
failed o w e = ((λ h. cc), (λ m. let bad : ◌≡◌ {A = Option Tree} None (Some m.0) = e ∙ m.1 in cc))

-- of a copy of the tree the same is told
pub missed_at : (es : List Program) (o : List ℕ) (w : Wanted) (t copy : Tree) → copy ≡ t → IsTree t → EndsMissing es o w t → MissesFrom es o w copy
missed_at es o w t copy same tree missed = subst (MissesFrom es o w) (sym same) (tree, missed)

-- the numbers of an order of so many programs are below their count
pub below : (n m : ℕ) (order : List ℕ) → n ≡ m → AllByRecursion (λ k. k < m) order → AllByRecursion (λ k. k < n) order
below n m order e all = subst (λ c. AllByRecursion (λ k. k < c) order) (sym e) all

module _ (es : List Program) (order : Relation) (long : length es ≡ order.count) (first : List ℕ) (is_first : IsFirstExtension order first) where
  -- a tree from which the first extension misses the entry is a witness of that
  pub missed_from : (w : Wanted) (t : Tree) → MissesFrom es first w t → IsMissed es order w (witness.Ends t first)
  missed_from w t h = record { is_tree = h.0; allowed = allowed es order first long is_first; after = h.1.0; ends = h.1.1; misses = h.1.2 }
