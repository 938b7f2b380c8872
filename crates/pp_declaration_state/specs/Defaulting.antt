-- Defaults of one type, put one after the other.
use Rattle.std.specs.Prelude.{ℕ, Bool, true, if◌then◌else◌, List, map}
use Rattle.std.specs.Str.{bytes_eq}
use Rattle.pp_value.specs.Keys.{with_pairs, HasDistinctKeys}
use Rattle.pp_value.specs.Values.{Pair}
use Rattle.catalog_semantics.specs.declared.state.Default.{Default}
use Rattle.catalog_semantics.specs.States.{defaults_of}

-- pairs with the attributes of a default behind them, where it is of this type
abbrev pub with_those_of : List ℕ → Default → List Pair → List Pair
with_those_of kind d pairs = if bytes_eq d.kind kind then with_pairs pairs d.attributes else pairs

-- Of the attributes that defaults give to one type no two have one name.
abbrev pub AreApart : List Default → Type 0
AreApart defaults = (kind : List ℕ) → HasDistinctKeys (defaults_of kind defaults)

-- the name of an attribute, as it is noted
abbrev pub noted : Pair → List ℕ × Bool
noted p = (p.0, true)

-- the names of the attributes that defaults give to a type, in order
abbrev pub names_noted : List ℕ → List Default → List (List ℕ × Bool)
names_noted kind defaults = map noted (defaults_of kind defaults)
