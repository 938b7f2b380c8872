-- The allowed order that a text names.
use Rattle.std.specs.Prelude.{◌≡◌, ◌<◌, ℕ, List, length, map, slice_index, Option, Some, None}
use Rattle.fs_semantics.specs.Orders.{IsLinearExtension}
use Rattle.catalog_semantics.specs.Catalogs.{Catalog}
use Rattle.graph_semantics.specs.Graphs.{reference_at}
use Rattle.order_text.specs.OrderText.{IsOrderText}

-- the reference of the plain resource at a position, as it is shown
abbrev pub shown_at : Catalog → List ℕ → ℕ → List ℕ
shown_at c plain i = reference_at c (slice_index plain i)

-- No two plain resources are shown alike. It is so in each catalog whose references stand once, and whose plain resources are of
-- built-in types.
abbrev pub AreToldApart : Catalog → List ℕ → Type 0
AreToldApart c plain = (i j : ℕ) → i < length plain → j < length plain → shown_at c plain i ≡ shown_at c plain j → i ≡ j

-- These texts are the references of the plain resources in an allowed order.
pub record IsOrderNamed (c : Catalog) (plain : List ℕ) (before : ℕ → ℕ → Type 0) (texts : List (List ℕ)) (order : List ℕ) : Type 0 where
  pub shown : texts ≡ map (shown_at c plain) order
  pub allowed : IsLinearExtension (length plain) before order

-- The bytes are the text of an order, whose references name the plain resources in this allowed order.
pub record IsOrderOf (c : Catalog) (plain : List ℕ) (before : ℕ → ℕ → Type 0) (bytes : List ℕ) (order : List ℕ) : Type 0 where
  pub texts : List (List ℕ)
  pub text : IsOrderText bytes texts
  pub named : IsOrderNamed c plain before texts order

-- the one order that these texts name, or none where they name none, if each of them can name one alone
abbrev pub IsOnlyOrder : Catalog → List ℕ → (ℕ → ℕ → Type 0) → List (List ℕ) → Option (List ℕ) → Type 0
IsOnlyOrder c plain before texts None = AreToldApart c plain → (o : List ℕ) → IsOrderNamed c plain before texts o → ⊥
IsOnlyOrder c plain before texts (Some found) =
    IsOrderNamed c plain before texts found × (AreToldApart c plain → (o : List ℕ) → IsOrderNamed c plain before texts o → found ≡ o)
