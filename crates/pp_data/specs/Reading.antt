-- The levels that JSON gives, as they are read; none, where it has another form.
use Rattle.std.specs.Prelude.{ℕ, Bool, true, ◌&&◌, ◌||◌, if◌then◌else◌, List, [], ◌∷◌, Option, Some, None, option_map, option_and_then, codes}
use Rattle.std.specs.Str.{bytes_eq}
use Rattle.serde_json.specs.Data.{Data, Items, no_items, item, Members, no_members, member}
use Rattle.serde_json.specs.Find.{get_member, as_object, as_array}
use Rattle.pp_value.specs.Values.{Pair}
use Rattle.pp_eval.specs.Facts.{pairs_of}
use Rattle.pp_data.specs.declared.data.Level.{Level}

-- each key of the object is one of two
abbrev pub has_only : List ℕ → List ℕ → Members → Bool
has_only a b no_members = true
has_only a b (member key d members) = (bytes_eq key a || bytes_eq key b) && has_only a b members

-- the pairs of an object
abbrev pub pairs_in : Data → Option (List Pair)
pairs_in d = option_map pairs_of (as_object d)

abbrev pub when_in : Option Data → Option (List Pair)
when_in None = Some []
when_in (Some d) = pairs_in d

abbrev pub level_of : List Pair → List Pair → Level
level_of when values = record { when = when; values = values }

abbrev pub level_with : Option (List Pair) → List Pair → Option Level
level_with when values = option_map (λ w. level_of w values) when

abbrev pub level_among : Members → Option Level
level_among members = if has_only (codes "when") (codes "values") members then option_and_then (level_with (when_in (get_member (codes "when") members))) (option_and_then pairs_in (get_member (codes "values") members)) else None

abbrev pub level_in : Data → Option Level
level_in d = option_and_then level_among (as_object d)

abbrev pub level_before : Option (List Level) → Level → Option (List Level)
level_before levels level = option_map (λ more. level ∷ more) levels

abbrev pub levels_in : Items → Option (List Level)
levels_in no_items = Some []
levels_in (item d items) = option_and_then (level_before (levels_in items)) (level_in d)

abbrev pub levels_among : Members → Option (List Level)
levels_among members = if has_only (codes "levels") (codes "levels") members then option_and_then levels_in (option_and_then as_array (get_member (codes "levels") members)) else None

abbrev pub data_in : Data → Option (List Level)
data_in d = option_and_then levels_among (as_object d)
