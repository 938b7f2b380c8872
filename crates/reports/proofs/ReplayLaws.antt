-- From the order that is asked to what is told.
use Rattle.std.proofs.Common.{◌≡◌, ◌<◌, ℕ, List, length, sym, subst}
use Rattle.std.specs.List.{AllByRecursion}
use Rattle.std.specs.Prelude.{Option, Some, None}
use Rattle.fs_lang.specs.declared.program.Program as code
use Rattle.catalog_semantics.specs.Catalogs.{Catalog}
use Rattle.dep_graph.specs.declared.answer.Graph.{Graph}
use Rattle.reports.specs.Replays.{IsOrderFor}

-- the order that is asked is of the graph's resources
below : (text : Option (List ℕ)) (c : Catalog) (g : Graph) (o : List ℕ) → IsOrderFor text c g o → AllByRecursion (λ i. i < length g.plain) o
below None c g o is = is.0.below
below (Some bytes) c g o is = is.named.allowed.below

-- the order that is asked has a program for each of its numbers
pub has_programs : (text : Option (List ℕ)) (c : Catalog) (g : Graph) (o turns : List ℕ) (programs : List code.Program) → turns ≡ o → length programs ≡ length g.plain
    → IsOrderFor text c g o → AllByRecursion (λ i. i < length programs) turns
has_programs text c g o turns programs same count is =
    subst (AllByRecursion (λ i. i < length programs)) (sym same) (subst (λ n. AllByRecursion (λ i. i < n) o) (sym count) (below text c g o is))
