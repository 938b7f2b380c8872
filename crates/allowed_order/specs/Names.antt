-- References as they are shown, and the positions that they name.
use Rattle.std.specs.Prelude.{ℕ, ◌+◌, if◌then◌else◌, List, [], ◌∷◌, ◌++◌, Option, Some, None, option_map, is_some}
use Rattle.std.specs.Str.{bytes_eq}
use Rattle.rh_base.specs.Reading.{◌>>=◌}
use Rattle.catalog_semantics.specs.Catalogs.{Catalog}
use Rattle.graph_semantics.specs.Graphs.{reference_at}

-- the position of a text, if it has one
abbrev pub position_of : List ℕ → List (List ℕ × ℕ) → Option ℕ
position_of text [] = None
position_of text (n ∷ names) = if bytes_eq text n.0 then Some n.1 else position_of text names

-- with a position for one text more, unless it has one
abbrev pub with_name : List (List ℕ × ℕ) → List ℕ → ℕ → List (List ℕ × ℕ)
with_name names text i = if is_some (position_of text names) then names else names ++ (text, i) ∷ []

-- with positions, from n on, for the references of the resources at these places
abbrev pub with_names : Catalog → ℕ → List ℕ → List (List ℕ × ℕ) → List (List ℕ × ℕ)
with_names c n [] names = names
with_names c n (place ∷ plain) names = with_names c (n + 1) plain (with_name names (reference_at c place) n)

-- the positions of texts, where each has one
abbrev pub positions_of : List (List ℕ × ℕ) → List (List ℕ) → Option (List ℕ)
positions_of names [] = Some []
positions_of names (text ∷ texts) = position_of text names >>= (λ i. option_map (λ is. i ∷ is) (positions_of names texts))
