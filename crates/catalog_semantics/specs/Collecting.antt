-- Collectors: what is looked for, and which resources match.
use Rattle.std.specs.Prelude.{ℕ, Bool, true, ◌||◌, ◌&&◌, not, if◌then◌else◌, List, [], ◌∷◌, codes, Option, Some, None, Result, Ok, Err}
use Rattle.std.specs.List.{list_any, list_all}
use Rattle.std.specs.Str.{bytes_eq}
use Rattle.rh_base.specs.declared.fault.Refusal.{Refusal}
use Rattle.pp_syntax.specs.declared.tree.Expr.{Expr}
use Rattle.pp_syntax.specs.declared.tree.Search.{Search, Search-F, fold-Search}
use Rattle.pp_syntax.specs.declared.tree.Search.TheOpen as search
use Rattle.pp_value.specs.declared.value.Value.{Value}
use Rattle.pp_value.specs.declared.value.Value.TheVariants as v
use Rattle.pp_value.specs.Values.{value_at, has_opaque, same, on_list, passes}
use Rattle.pp_eval.specs.References.{plain_name}
use Rattle.pp_eval.specs.Evaluating.{◌>>=◌, no_result}
use Rattle.pp_eval.specs.Scoping.{Scoped}
use Rattle.pp_eval.specs.Evaluation.{value_of}
use Rattle.catalog_semantics.specs.declared.catalog.Resource.{Resource}
use Rattle.catalog_semantics.specs.declared.state.Wish.{Wish, Wish-F, fold-Wish}
use Rattle.catalog_semantics.specs.declared.state.Wish.TheVariants as wish
use Rattle.catalog_semantics.specs.declared.state.Wish.TheOpen as open_wish
use Rattle.catalog_semantics.specs.declared.state.Collector.{Collector}
use Rattle.catalog_semantics.specs.Sites.{Site}
use Rattle.catalog_semantics.specs.Declaring.{named_type}
use Rattle.catalog_semantics.specs.States.{State, is_class}

-- ---- searches

-- a value that may be compared
abbrev pub comparable : Scoped → Expr → Result Value Refusal
comparable s e = do
  x ← value_of s e
  if has_opaque x then Err (no_result e.at) else Ok x

-- all of these, from the left
abbrev pub all_of : {X : Type 0} → List (Result X Refusal) → Result (List X) Refusal
all_of [] = Ok []
all_of (r ∷ results) = do
  x ← r
  xs ← all_of results
  Ok (x ∷ xs)

abbrev pub wish_by : Scoped → Search-F (Result Wish Refusal) → Result Wish Refusal
wish_by s (search.Or all) = do
  wishes ← all_of all
  Ok (wish.Or wishes)
wish_by s (search.And all) = do
  wishes ← all_of all
  Ok (wish.And wishes)
wish_by s (search.Equal name value) = do
  x ← comparable s value
  Ok (wish.Equal name x)
wish_by s (search.Differ name value) = do
  x ← comparable s value
  Ok (wish.Differ name x)

-- The values of a search are evaluated where the collector stands.
unfoldable pub wish_in : Scoped → Search → Result Wish Refusal
wish_in s x = fold-Search (Result Wish Refusal) (wish_by s) x

-- ---- matching

-- what a resource has under a name; `title` is its title
abbrev pub value_under : List ℕ → Resource → Option Value
value_under name r = if bytes_eq name (codes "title") then Some (v.Str r.id.title) else value_at name r.attrs

-- equal to the value, or a list with a member that is
abbrev pub is_or_has : Value → Value → Bool
is_or_has x own = same own x || on_list (list_any (λ member. same member x)) own

abbrev pub has_value : List ℕ → Value → Resource → Bool
has_value name x r = passes (is_or_has x) (value_under name r)

abbrev pub meets_by : Resource → Wish-F Bool → Bool
meets_by r (open_wish.Or all) = list_any (λ b. b) all
meets_by r (open_wish.And all) = list_all (λ b. b) all
meets_by r (open_wish.Equal name x) = has_value name x r
meets_by r (open_wish.Differ name x) = not (has_value name x r)

-- a resource meets a search
unfoldable pub meets : Resource → Wish → Bool
meets r w = fold-Wish Bool (meets_by r) w

abbrev pub meets_any : Resource → Option Wish → Bool
meets_any r None = true
meets_any r (Some w) = meets r w

-- a resource of the collector's type that meets the search
abbrev pub matches : Collector → Resource → Bool
matches c r = not (is_class r) && bytes_eq r.id.kind c.kind && meets_any r c.wish

-- ---- collectors

abbrev pub maybe_wish : Scoped → Option Search → Result (Option Wish) Refusal
maybe_wish s None = Ok None
maybe_wish s (Some x) = do
  w ← wish_in s x
  Ok (Some w)

-- a collector of a known type, with the values of its search
abbrev pub collector_of : Site → ℕ → List ℕ → Option Search → State → Result Collector Refusal
collector_of site at kind x s = do
  known ← named_type site at (plain_name kind)
  w ← maybe_wish s.scopes x
  Ok (record { kind = known; wish = w })
