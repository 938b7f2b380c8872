-- A catalog has one graph, or a refusal, but not both.
use Rattle.std.proofs.Common.{◌≡◌, ℕ, ◌<◌, Bool, List, [], ◌∷◌, length, sym, subst, ◌∙◌}
use Rattle.std.specs.Prelude.{◌↔◌, MatchOption}
use Rattle.rh_base.specs.declared.fault.Refusal.{Refusal}
use Rattle.fs_semantics.specs.Orders.{Told}
use Rattle.catalog_semantics.specs.Catalogs.{Catalog}
use Rattle.graph_semantics.specs.Graphs.{Node, Before, Trail, IsCircleRefusal, IsGraphRefusal, IsGraphOf}

-- two graphs of a catalog have the same plain resources
pub places : (c : Catalog) (plain other : List ℕ) (before after : ℕ → ℕ → Bool) → IsGraphOf c plain (Told before) → IsGraphOf c other (Told after) → plain ≡ other
places c plain other before after g h = g.places ∙ sym h.places

-- and one comes before another in both alike
pub pairs : (c : Catalog) (plain : List ℕ) (before after : ℕ → ℕ → Bool) → IsGraphOf c plain (Told before) → IsGraphOf c plain (Told after)
    → (i j : ℕ) → i < length plain → j < length plain → Told before i j ↔ Told after i j
pairs c plain before after g h i j low small = (
  λ k. (h.paths i j low small).1 ((g.paths i j low small).0 k),
  λ k. (g.paths i j low small).1 ((h.paths i j low small).0 k),
)

-- a circle leads from its first node back to it
around : (c : Catalog) (a : Node) (nodes : List Node) (b : Node) → Trail c a nodes b → Before c a b
around c a [] b trail = Before.edge trail
around c a (n ∷ nodes) b trail = Before.and_on n trail.0 (around c n nodes b trail.1)

-- a catalog with a graph has no circle
no_circle : (c : Catalog) (plain : List ℕ) (before : ℕ → ℕ → Bool) (r : Refusal) → IsGraphOf c plain (Told before) → IsCircleRefusal c r → ⊥
no_circle c plain before r g circle = g.acyclic circle.first (around c circle.first circle.others circle.first circle.closed)

-- and isn't refused
pub refusals : (c : Catalog) (plain : List ℕ) (before : ℕ → ℕ → Bool) (r : Refusal) → IsGraphOf c plain (Told before) → IsGraphRefusal c r → ⊥
refusals c plain before r g refused = no_circle c plain before r g (subst (λ missing. MatchOption missing (IsCircleRefusal c r) (λ y. r ≡ y)) g.complete refused)
