-- Where definitions stand, by their names, and the names of nodes that stand.
use Rattle.std.specs.Prelude.{◌≡◌, ℕ, zero, suc, Bool, true, false, is_none, codes, if◌then◌else◌, List, [], ◌∷◌, ◌++◌, Option, Some, None, option_and_then, Result, Ok, Err}
use Rattle.std.specs.List.{list_any}
use Rattle.rh_base.specs.declared.fault.Refusal.{Refusal}
use Rattle.pp_value.specs.Texts.{lowered}
use Rattle.pp_value.specs.Keys.{value_at}
use Rattle.pp_eval.specs.Evaluating.{◌>>=◌}
use Rattle.catalog_semantics.specs.Sites.{Definition, definition_of, is_same_node, stands_twice}
use Rattle.pp_definitions.specs.declared.nodes.NodeNames.{NodeNames}

-- the names of nodes in lower case, but for `default`
abbrev pub keyed_names : List (Option (List ℕ)) → List (List ℕ × Bool)
keyed_names [] = []
keyed_names (None ∷ names) = keyed_names names
keyed_names (Some name ∷ names) = (lowered name, true) ∷ keyed_names names

-- names of nodes as they are noted
abbrev pub noted : List (Option (List ℕ)) → NodeNames
noted names = record { named = keyed_names names; has_default = list_any (is_same_node None) names }

-- one more name, unless it is noted already
abbrev pub noted_one : ℕ → Option (List ℕ) → NodeNames → Result NodeNames Refusal
noted_one at None names = if names.has_default then Err (stands_twice at (codes "default")) else Ok (record names { has_default = true })
noted_one at (Some name) names =
    if is_none (value_at (lowered name) names.named) then Ok (record names { named = names.named ++ (lowered name, true) ∷ [] })
    else Err (stands_twice at name)

-- more names, one after the other
abbrev pub noted_all : ℕ → List (Option (List ℕ)) → NodeNames → Result NodeNames Refusal
noted_all at [] names = Ok names
noted_all at (name ∷ more) names = do
  next ← noted_one at name names
  noted_all at more next

abbrev pub has_some : {X : Type 0} → List X → Bool
has_some [] = false
has_some (x ∷ xs) = true

-- each key is the name of what it has
abbrev pub AreNamed : List (List ℕ × Definition) → Type 0
AreNamed [] = Unit {0}
AreNamed (p ∷ pairs) = (p.0 ≡ p.1.name) × AreNamed pairs

-- ---- parents

-- the class that is the parent
abbrev pub parent_in : List Definition → Definition → Option Definition
parent_in classes d = option_and_then (λ parent. definition_of parent classes) d.parent

abbrev pub if_some : (Definition → Bool) → Option Definition → Bool
if_some f None = false
if_some f (Some d) = f d

-- The chain of parents goes on for so many steps.
abbrev pub goes_on : ℕ → List Definition → Definition → Bool
goes_on zero classes d = true
goes_on (suc n) classes d = if_some (goes_on n classes) (parent_in classes d)
