-- One block is chosen, and it alone runs.
use Rattle.std.proofs.Common.{◌≡◌, ℕ, Bool, true, false, cond, List, [], ◌∷◌, ◌++◌, map, refl, ap, ◌∙◌}
use Rattle.std.specs.Prelude.{is_none, Option, Some, None, option_map, Result, Ok, Err}
use Rattle.std.specs.Option.{option_or}
use Rattle.std.specs.List.{list_any, flat_map}
use Rattle.rh_base.specs.declared.fault.Refusal.{Refusal}
use Rattle.pp_syntax.specs.declared.tree.Expr.{Expr}
use Rattle.pp_syntax.specs.declared.tree.Stmt.{Stmt}
use Rattle.pp_syntax.specs.declared.tree.Arm.{Arm, out-Arm}
use Rattle.pp_syntax.specs.declared.tree.CaseArm.{CaseArm, out-CaseArm}
use Rattle.pp_value.specs.declared.value.Value.{Value}
use Rattle.pp_eval.specs.Evaluating.{Evaluation, ◌>>=◌}
use Rattle.pp_eval.specs.Scoping.{Scoped}
use Rattle.pp_eval.specs.declared.blame.Blame.TheVariants as blame
use Rattle.pp_eval.specs.Evaluation.{value_of, evaluated, is_among}
use Rattle.catalog_semantics.specs.declared.state.State.{State}
use Rattle.catalog_semantics.specs.Sites.{Site}
use Rattle.catalog_semantics.specs.States.{Effect}
use Rattle.catalog_semantics.specs.Declaring.{Bodies}
use Rattle.catalog_semantics.specs.Effects.{test_of, first_true, is_option, first_option, default_block, chosen_block, selected_block, block_with, arm_with, options_with}
use Rattle.pp_declarations.specs.Choosing.{chosen_arm, equal_arm, default_arm, chosen_option, maybe_block}

-- ---- options

module _ (s : Scoped) (at : ℕ) (x : Value) (f : Effect) (rest : List (Option Expr × Effect)) where
  -- the block, if an option of its arm is equal, and else what the others choose
  abbrev if_among : Result Bool Refusal → Result (Option Effect) Refusal
  if_among r = r >>= λ b. cond b (Ok (Some f)) (first_option s at x rest)

  -- one option more is asked before the others of the arm
  by_same : (r : Result Bool Refusal) (more : Result Bool Refusal) (found : Result (Option Effect) Refusal) → found ≡ if_among more
      → (r >>= λ b. cond b (Ok (Some f)) found) ≡ if_among (r >>= λ b. cond b (Ok true) more)
  by_same (Ok true) more found h = refl
  by_same (Ok false) more found h = h
  by_same (Err e) more found h = refl

  -- the options of an arm choose its block where one is equal
  pub arm_options : (options : List (Option Expr)) → first_option s at x (map (λ (o : Option Expr). (o, f)) options ++ rest) ≡ if_among (is_among (blame.Case at) x (map (option_map (evaluated s)) options))
  arm_options [] = refl
  arm_options (o ∷ options) =
      by_same (is_option s at x o) (is_among (blame.Case at) x (map (option_map (evaluated s)) options)) (first_option s at x (map (λ (p : Option Expr). (p, f)) options ++ rest)) (arm_options options)

-- an arm with `default` has the block of `default`
default_option : (f : Effect) (rest : List (Option Expr × Effect)) (options : List (Option Expr))
    → default_block (map (λ (o : Option Expr). (o, f)) options ++ rest) ≡ cond (list_any is_none options) (Some f) (default_block rest)
default_option f rest [] = refl
default_option f rest (None ∷ options) = refl
default_option f rest (Some e ∷ options) = default_option f rest options

-- ---- arms

module _ (site : Site) (bodies : Bodies) where
  -- what a block does
  abbrev run : List Stmt → Effect
  run body = block_with site bodies body

  -- what the block that is found does, if there is one
  abbrev run_option : Result (Option (List Stmt)) Refusal → Result (Option Effect) Refusal
  run_option r = r >>= λ found. Ok (option_map run found)

  -- the block of an equal option does what it does
  by_equal : (body : List Stmt) (r : Result Bool Refusal) (more : Result (Option (List Stmt)) Refusal) (found : Result (Option Effect) Refusal) → found ≡ run_option more
      → (r >>= λ b. cond b (Ok (Some (run body))) found) ≡ run_option (r >>= λ b. cond b (Ok (Some body)) more)
  by_equal body (Ok true) more found h = refl
  by_equal body (Ok false) more found h = h
  by_equal body (Err e) more found h = refl

  -- the first equal option chooses the block of the first arm with one
  equal_is : (s : Scoped) (at : ℕ) (x : Value) (arms : List CaseArm) → first_option s at x (flat_map (options_with site bodies) arms) ≡ run_option (equal_arm s at x arms)
  equal_is s at x [] = refl
  equal_is s at x (a ∷ arms) =
      arm_options s at x (run (out-CaseArm a).body) (flat_map (options_with site bodies) arms) (out-CaseArm a).options
      ∙ by_equal (out-CaseArm a).body (is_among (blame.Case at) x (map (option_map (evaluated s)) (out-CaseArm a).options)) (equal_arm s at x arms)
      (first_option s at x (flat_map (options_with site bodies) arms)) (equal_is s at x arms)

  -- the block of `default`, here or further on, does what it does
  by_default : (body : List Stmt) (b : Bool) (more : Option (List Stmt)) (found : Option Effect) → found ≡ option_map run more
      → cond b (Some (run body)) found ≡ option_map run (cond b (Some body) more)
  by_default body true more found h = refl
  by_default body false more found h = h

  -- the block of `default` is that of the first arm with it
  default_is : (arms : List CaseArm) → default_block (flat_map (options_with site bodies) arms) ≡ option_map run (default_arm arms)
  default_is [] = refl
  default_is (a ∷ arms) =
      default_option (run (out-CaseArm a).body) (flat_map (options_with site bodies) arms) (out-CaseArm a).options
      ∙ by_default (out-CaseArm a).body (list_any is_none (out-CaseArm a).options) (default_arm arms) (default_block (flat_map (options_with site bodies) arms)) (default_is arms)

  -- the block of an equal option runs, or else that of `default`
  one_runs : (found default : Option (List Stmt)) (s : State) → chosen_block (option_map run found) (option_map run default) s ≡ maybe_block site bodies (option_or found default) s
  one_runs (Some body) default s = refl
  one_runs None (Some body) s = refl
  one_runs None None s = refl

  -- so it is where the options are asked
  by_found : (default : Option (List Stmt)) (s : State) (r : Result (Option (List Stmt)) Refusal)
      → (run_option r >>= λ found. chosen_block found (option_map run default) s) ≡ ((r >>= λ equal. Ok (option_or equal default)) >>= λ found. maybe_block site bodies found s)
  by_found default s (Ok found) = one_runs found default s
  by_found default s (Err e) = refl

  -- and where the value is asked for before
  by_value : (at : ℕ) (arms : List CaseArm) (s : State) (r : Evaluation)
      → (r >>= λ x. first_option s.scopes at x (flat_map (options_with site bodies) arms) >>= λ found. chosen_block found (default_block (flat_map (options_with site bodies) arms)) s)
      ≡ ((r >>= λ x. equal_arm s.scopes at x arms >>= λ equal. Ok (option_or equal (default_arm arms))) >>= λ found. maybe_block site bodies found s)
  by_value at arms s (Ok x) =
      ap (λ (w : Result (Option Effect) Refusal). w >>= λ found. chosen_block found (default_block (flat_map (options_with site bodies) arms)) s) (equal_is s.scopes at x arms)
      ∙ (ap (λ (d : Option Effect). run_option (equal_arm s.scopes at x arms) >>= λ found. chosen_block found d s) (default_is arms)
      ∙ by_found (default_arm arms) s (equal_arm s.scopes at x arms))
  by_value at arms s (Err e) = refl

  -- a `case` runs the one block that it chooses
  pub case_runs : (e : Expr) (arms : List CaseArm) (s : State)
      → selected_block e (flat_map (options_with site bodies) arms) s ≡ (chosen_option s.scopes e arms >>= λ found. maybe_block site bodies found s)
  case_runs e arms s = by_value e.at arms s (value_of s.scopes e)

  -- the block of an arm runs where its test is true, and else what the others choose
  by_test : (body : List Stmt) (s : State) (r : Result Bool Refusal) (more : Result (List Stmt) Refusal) (found : Result State Refusal) → found ≡ (more >>= λ b. run b s)
      → (r >>= λ b. cond b (run body s) found) ≡ ((r >>= λ b. cond b (Ok body) more) >>= λ b. run b s)
  by_test body s (Ok true) more found h = refl
  by_test body s (Ok false) more found h = h
  by_test body s (Err e) more found h = refl

  -- a condition runs the one block that it chooses
  pub condition_runs : (arms : List Arm) (other : List Stmt) (s : State)
      → first_true (map (arm_with site bodies) arms) (block_with site bodies other) s ≡ (chosen_arm s.scopes arms other >>= λ body. block_with site bodies body s)
  condition_runs [] other s = refl
  condition_runs (a ∷ arms) other s =
      by_test (out-Arm a).body s (test_of s.scopes (out-Arm a).test) (chosen_arm s.scopes arms other) (first_true (map (arm_with site bodies) arms) (block_with site bodies other) s)
      (condition_runs arms other s)
