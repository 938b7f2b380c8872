-- What the functions do: `include`, `require`, `contain`, `realize`, `fail`, `notice` and `warning`.
use Rattle.std.specs.Prelude.{ℕ, if◌then◌else◌, List, [], ◌∷◌, ◌++◌, map, slice_get, codes, Option, Some, None, option_map, option_and_then}
use Rattle.std.specs.Prelude.{Result, Ok, Err}
use Rattle.std.specs.Str.{bytes_eq}
use Rattle.rh_base.specs.declared.fault.Refusal.{Refusal}
use Rattle.pp_syntax.specs.declared.tree.Expr.{Expr}
use Rattle.pp_syntax.specs.declared.tree.Func.{Func}
use Rattle.pp_syntax.specs.declared.tree.Func.TheVariants as func
use Rattle.pp_value.specs.declared.value.Ref.{Ref}
use Rattle.pp_value.specs.declared.value.Value.{Value, items-the_row-Value}
use Rattle.pp_value.specs.declared.value.Value.TheVariants as v
use Rattle.pp_eval.specs.References.{plain_name}
use Rattle.pp_eval.specs.Evaluating.{◌>>=◌, refusal, if_there}
use Rattle.pp_eval.specs.Scoping.{Scoped}
use Rattle.pp_eval.specs.Evaluation.{evaluated, values_in, shown_of, limited_text}
use Rattle.catalog_semantics.specs.declared.catalog.Resource.{Resource}
use Rattle.catalog_semantics.specs.declared.state.Side.TheVariants as side
use Rattle.catalog_semantics.specs.Sites.{Site}
use Rattle.catalog_semantics.specs.States.{State, Effect, in_turn, place_of, held, tied, with_pending}
use Rattle.catalog_semantics.specs.Attributes.{references_in}
use Rattle.catalog_semantics.specs.Declaring.{Bodies, class_ref, class_included}

-- an argument: its place and its value
abbrev pub Argument : Type 0
Argument = ℕ × Value

-- the places of some expressions, each with its value
abbrev pub placed : List Expr → List Value → List Argument
placed [] xs = []
placed (e ∷ args) [] = []
placed (e ∷ args) (x ∷ xs) = (e.at, x) ∷ placed args xs

-- all arguments, from the left
abbrev pub arguments : Scoped → List Expr → Result (List Argument) Refusal
arguments s args = do
  xs ← values_in (map (evaluated s) args)
  Ok (placed args xs)

-- ---- classes

-- a text, or a reference to a class
abbrev pub class_name : Value → Option (List ℕ)
class_name (v.Str text) = Some (plain_name text)
class_name (v.Refer r) = if bytes_eq r.kind (codes "class") then Some r.title else None
class_name _ = None

abbrev pub all_names : List Value → Option (List (List ℕ))
all_names [] = Some []
all_names (x ∷ xs) = option_and_then (λ name. option_map (λ names. name ∷ names) (all_names xs)) (class_name x)

-- one class, or a list of them
abbrev pub class_names : Value → Option (List (List ℕ))
class_names (v.List' shape row) = all_names (items-the_row-Value _ row)
class_names x = option_map (λ name. name ∷ []) (class_name x)

-- The container whose body runs holds the class.
abbrev pub held_in : Option ℕ → Option ℕ → State → State
held_in (Some outer) (Some class) s = held outer class s
held_in None class s = s
held_in (Some outer) None s = s

-- The class comes before the container whose body runs.
abbrev pub before_container : ℕ → Ref → Option Resource → State → State
before_container at class None s = s
before_container at class (Some container) s =
    tied (record { from = side.Named (class ∷ []); to = side.Named (container.id ∷ []); at = at } ∷ []) s

abbrev pub contained : List ℕ → State → State
contained name s = held_in s.running (place_of (class_ref name) s.resources) s

abbrev pub required : ℕ → List ℕ → State → State
required at name s = before_container at (class_ref name) (option_and_then (slice_get s.resources) s.running) s

-- `include` a class, and then do something with it
abbrev pub included_then : (List ℕ → State → State) → Site → Bodies → ℕ → List ℕ → Effect
included_then next site bodies at name s = do
  t ← class_included site bodies at name s
  Ok (next name t)

-- each class of an argument, once all of it is known to be classes
abbrev pub each_class : (List ℕ → Effect) → Argument → Effect
each_class f x s = do
  names ← if_there x.0 (class_names x.1)
  in_turn (map f names) s

-- ---- the others

-- the references of an argument are to be realized
abbrev pub realizes : ℕ → Argument → Effect
realizes at x s = do
  refs ← if_there x.0 (references_in x.1)
  Ok (with_pending (map (λ ref. record { target = ref; at = at }) refs) s)

-- a shown argument, unless it is too large
abbrev pub shown_argument : Argument → Result (List ℕ) Refusal
shown_argument x = do
  text ← if_there x.0 (shown_of x.1)
  limited_text x.0 text

abbrev pub shown_arguments : List Argument → Result (List (List ℕ)) Refusal
shown_arguments [] = Ok []
shown_arguments (x ∷ xs) = do
  text ← shown_argument x
  texts ← shown_arguments xs
  Ok (text ∷ texts)

-- texts with a space between them
abbrev pub spaced : List (List ℕ) → List ℕ
spaced [] = []
spaced (text ∷ []) = text
spaced (text ∷ other ∷ texts) = text ++ (codes " " ++ spaced (other ∷ texts))

-- `fail` refuses, with the text of its arguments
abbrev pub fails : ℕ → List Argument → Effect
fails at xs s = do
  texts ← shown_arguments xs
  Err (refusal 30 at (spaced texts))

-- A function does what it does to each argument in order.
abbrev pub calls : Site → Bodies → ℕ → Func → List Argument → Effect
calls site bodies at func.Include xs s = in_turn (map (each_class (included_then (λ name t. t) site bodies at)) xs) s
calls site bodies at func.Contain xs s = in_turn (map (each_class (included_then contained site bodies at)) xs) s
calls site bodies at func.Require xs s = in_turn (map (each_class (included_then (required at) site bodies at)) xs) s
calls site bodies at func.Realize xs s = in_turn (map (realizes at) xs) s
calls site bodies at func.Fail xs s = fails at xs s
calls site bodies at func.Notice xs s = Ok s
calls site bodies at func.Warning xs s = Ok s
