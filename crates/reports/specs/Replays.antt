-- What is told of a run of a manifest's resources over a file tree.
use Rattle.std.specs.Prelude.{◌≡◌, ℕ, List, [], length, Option, Some, None, codes}
use Rattle.rh_base.specs.declared.fault.Refusal.{Refusal}
use Rattle.rh_base.specs.Refused.{IsRefusal}
use Rattle.orders.specs.Relation.{Comes}
use Rattle.orders.specs.Extensions.{TakesLeast}
use Rattle.fs_semantics.specs.FileTree.{Tree}
use Rattle.fs_semantics.specs.Programs.{Program}
use Rattle.fs_semantics.specs.Orders.{IsLinearExtension, outcome}
use Rattle.catalog_semantics.specs.Catalogs.{Catalog}
use Rattle.dep_graph.specs.declared.answer.Graph.{Graph}
use Rattle.allowed_order.specs.AllowedOrder.{IsOrderOf}
use Rattle.verdict_text.specs.Lines.{outcome_line}

-- This is the order that is asked: the one that a text names; and without a text the allowed one that takes at each step
-- the first resource that may come next.
abbrev pub IsOrderFor : Option (List ℕ) → Catalog → Graph → List ℕ → Type 0
IsOrderFor None c g o = IsLinearExtension (length g.plain) (Comes g.order) o × TakesLeast (length g.plain) (Comes g.order) [] o
IsOrderFor (Some bytes) c g o = IsOrderOf c g.plain (Comes g.order) bytes o

-- the text names no allowed order
pub record HasNoOrder (text : Option (List ℕ)) (c : Catalog) (g : Graph) (r : Refusal) : Type 0 where
  pub refusal : IsRefusal 63 0 (codes "order") r
  pub none : (o : List ℕ) → IsOrderFor text c g o → ⊥

-- the outcome of programs on a tree, in the order that is asked
pub record IsReplayed (asked : Option (List ℕ)) (t : Tree) (c : Catalog) (g : Graph) (es : List Program) (report : List ℕ) : Type 0 where
  pub order : List ℕ
  pub ordered : IsOrderFor asked c g order
  pub text : report ≡ outcome_line (outcome es order t)
