-- The parents that aren't declared yet, the nearest first.
use Rattle.std.specs.Prelude.{ℕ, zero, suc, if◌then◌else◌, List, [], ◌∷◌, ◌++◌, Option, Some, None, Result, Ok}
use Rattle.rh_base.specs.declared.fault.Refusal.{Refusal}
use Rattle.pp_eval.specs.Evaluating.{◌>>=◌}
use Rattle.catalog_semantics.specs.declared.state.State.{State}
use Rattle.catalog_semantics.specs.Sites.{Definition, Site}
use Rattle.catalog_semantics.specs.States.{is_declared}
use Rattle.catalog_semantics.specs.Declaring.{class_ref, class_named}

-- the parent, if there is one that isn't declared yet
abbrev pub next_by : Site → State → ℕ → Option (List ℕ) → Result (Option Definition) Refusal
next_by site s at None = Ok None
next_by site s at (Some parent) = if is_declared (class_ref parent) s then Ok None else do
  d ← class_named site at parent
  Ok (Some d)

-- so of a class
abbrev pub next_parent : Site → State → Definition → Result (Option Definition) Refusal
next_parent site s d = next_by site s d.at d.parent

-- a parent, if there is one, and those above it
abbrev pub and_above : (Definition → Result (List Definition) Refusal) → Option Definition → Result (List Definition) Refusal
and_above above None = Ok []
and_above above (Some p) = do
  more ← above p
  Ok (p ∷ more)

-- at most so many of them
abbrev pub nearest_first : ℕ → Site → State → Definition → Result (List Definition) Refusal
nearest_first zero site s d = Ok []
nearest_first (suc n) site s d = do
  next ← next_parent site s d
  and_above (nearest_first n site s) next

abbrev pub backwards : List Definition → List Definition
backwards [] = []
backwards (d ∷ ds) = backwards ds ++ d ∷ []

-- the topmost first
abbrev pub turned : Result (List Definition) Refusal → Result (List Definition) Refusal
turned r = do
  ds ← r
  Ok (backwards ds)

-- some of them, and then others
abbrev pub with_front : List Definition → Result (List Definition) Refusal → Result (List Definition) Refusal
with_front front r = do
  more ← r
  Ok (front ++ more)
