-- How many paths the domain of programs has.
use Rattle.std.specs.Prelude.{◌≡◌, ℕ, List, length}
use Rattle.fs_semantics.specs.Programs.{Program}
use Rattle.finite_domain.specs.Layouts.{Layout, IsLayout}

-- the domain has so many paths
pub record HasPaths (es : List Program) (n : ℕ) : Type 0 where
  pub layout : Layout
  pub is_layout : IsLayout es layout
  pub count : n ≡ length layout.paths
