-- The statements that a condition or a `case` chooses. A choice changes no state.
use Rattle.std.specs.Prelude.{ℕ, is_none, if◌then◌else◌, List, [], ◌∷◌, map, Option, Some, None, option_map, Result, Ok}
use Rattle.std.specs.Option.{option_or}
use Rattle.std.specs.List.{list_any}
use Rattle.rh_base.specs.declared.fault.Refusal.{Refusal}
use Rattle.pp_syntax.specs.declared.tree.Expr.{Expr}
use Rattle.pp_syntax.specs.declared.tree.Stmt.{Stmt}
use Rattle.pp_syntax.specs.declared.tree.Arm.{Arm, out-Arm}
use Rattle.pp_syntax.specs.declared.tree.CaseArm.{CaseArm, out-CaseArm}
use Rattle.pp_value.specs.declared.value.Value.{Value}
use Rattle.pp_eval.specs.Evaluating.{◌>>=◌}
use Rattle.pp_eval.specs.Scoping.{Scoped}
use Rattle.pp_eval.specs.declared.blame.Blame.TheVariants as blame
use Rattle.pp_eval.specs.Evaluation.{value_of, evaluated, is_among}
use Rattle.catalog_semantics.specs.Sites.{Site}
use Rattle.catalog_semantics.specs.States.{Effect}
use Rattle.catalog_semantics.specs.Declaring.{Bodies}
use Rattle.catalog_semantics.specs.Effects.{test_of, block_with}

-- the block of the first arm whose test is true, or else the last
abbrev pub chosen_arm : Scoped → List Arm → List Stmt → Result (List Stmt) Refusal
chosen_arm s [] other = Ok other
chosen_arm s (a ∷ arms) other = do
  b ← test_of s (out-Arm a).test
  if b then Ok (out-Arm a).body else chosen_arm s arms other

-- the block of the first arm with an equal option
abbrev pub equal_arm : Scoped → ℕ → Value → List CaseArm → Result (Option (List Stmt)) Refusal
equal_arm s at x [] = Ok None
equal_arm s at x (a ∷ arms) = do
  b ← is_among (blame.Case at) x (map (option_map (evaluated s)) (out-CaseArm a).options)
  if b then Ok (Some (out-CaseArm a).body) else equal_arm s at x arms

-- the block of the first arm with `default`
abbrev pub default_arm : List CaseArm → Option (List Stmt)
default_arm [] = None
default_arm (a ∷ arms) = if list_any is_none (out-CaseArm a).options then Some (out-CaseArm a).body else default_arm arms

-- the block of an equal option, or else that of `default`, or none
abbrev pub chosen_option : Scoped → Expr → List CaseArm → Result (Option (List Stmt)) Refusal
chosen_option s e arms = do
  x ← value_of s e
  equal ← equal_arm s e.at x arms
  Ok (option_or equal (default_arm arms))

-- the statements of a block, if there is one
abbrev pub maybe_block : Site → Bodies → Option (List Stmt) → Effect
maybe_block site bodies None s = Ok s
maybe_block site bodies (Some body) s = block_with site bodies body s

-- ---- what runs

-- a condition
abbrev pub chosen_runs : Site → Bodies → List Arm → List Stmt → Effect
chosen_runs site bodies arms other s = do
  body ← chosen_arm s.scopes arms other
  block_with site bodies body s

-- a `case`
abbrev pub option_runs : Site → Bodies → Expr → List CaseArm → Effect
option_runs site bodies e arms s = do
  found ← chosen_option s.scopes e arms
  maybe_block site bodies found s
