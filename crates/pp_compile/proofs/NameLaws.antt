-- The names that defaults gave to a type.
use Rattle.std.proofs.Common.{◌≡◌, ℕ, List, [], ◌∷◌, ◌++◌, map, Ok, refl, sym, ap, subst, ◌∙◌}
use Rattle.pp_syntax.specs.declared.tree.Attr.{Attr}
use Rattle.pp_value.specs.Keys.{HasDistinctKeys}
use Rattle.pp_value.specs.Values.{Pair}
use Rattle.pp_eval.specs.Scoping.{Scoped}
use Rattle.catalog_semantics.specs.declared.state.Default.{Default}
use Rattle.catalog_semantics.specs.States.{defaults_of}
use Rattle.catalog_semantics.specs.Attributes.{attributes_behind, names_of, AreFit}
use Rattle.catalog_semantics.specs.Frames.{Each}
use Rattle.catalog_semantics.proofs.DistinctNames.{all_fit, distinct_behind}
use Rattle.pp_declared_values.specs.Named.{keys_of}
use Rattle.pp_declaration_state.specs.Defaulting.{noted, names_noted}

-- the keys of noted names are the names
keys_are : (pairs : List Pair) → keys_of (map noted pairs) ≡ names_of pairs
keys_are [] = refl
keys_are (p ∷ pairs) = ap (λ (names : List (List ℕ)). p.0 ∷ names) (keys_are pairs)

-- so are those of the names that defaults gave to a type
pub keys_noted : (kind : List ℕ) (defaults : List Default) → keys_of (names_noted kind defaults) ≡ names_of (defaults_of kind defaults)
keys_noted kind defaults = keys_are (defaults_of kind defaults)

-- attributes that are given behind these have distinct names with them
pub still_distinct : (s : Scoped) (kind : List ℕ) (defaults : List Default) (attrs : List Attr) (pairs : List Pair) → HasDistinctKeys (defaults_of kind defaults)
    → attributes_behind s (keys_of (names_noted kind defaults)) attrs ≡ Ok pairs → HasDistinctKeys (defaults_of kind defaults ++ pairs)
still_distinct s kind defaults attrs pairs h is =
    let as_named : attributes_behind s (names_of (defaults_of kind defaults)) attrs ≡ Ok pairs = ap (λ (names : List (List ℕ)). attributes_behind s names attrs) (sym (keys_noted kind defaults)) ∙ is in
    distinct_behind (defaults_of kind defaults) pairs h (subst (Each (AreFit (names_of (defaults_of kind defaults)))) as_named (all_fit s (names_of (defaults_of kind defaults)) attrs)).1
