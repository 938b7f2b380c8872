-- A block that is chosen is one of those that stand there.
use Rattle.std.proofs.Common.{◌≡◌, ℕ, Bool, true, false, cond, List, [], ◌∷◌, subst, refl}
use Rattle.std.specs.Prelude.{is_none, Option, Some, None, Result, Ok, Err}
use Rattle.std.specs.Option.{option_or}
use Rattle.std.specs.List.{list_any, AllByRecursion}
use Rattle.rh_base.specs.declared.fault.Refusal.{Refusal}
use Rattle.pp_syntax.specs.declared.tree.Expr.{Expr}
use Rattle.pp_syntax.specs.declared.tree.Stmt.{Stmt}
use Rattle.pp_syntax.specs.declared.tree.Arm.{Arm, out-Arm}
use Rattle.pp_syntax.specs.declared.tree.CaseArm.{CaseArm, out-CaseArm}
use Rattle.pp_value.specs.declared.value.Value.{Value}
use Rattle.pp_eval.specs.Evaluating.{Evaluation, ◌>>=◌}
use Rattle.pp_eval.specs.Scoping.{Scoped}
use Rattle.pp_eval.specs.declared.blame.Blame.TheVariants as blame
use Rattle.pp_eval.specs.Evaluation.{value_of, evaluated, is_among}
use Rattle.std.specs.Prelude.{map, option_map}
use Rattle.catalog_semantics.specs.Effects.{test_of}
use Rattle.pp_declarations.specs.Choosing.{chosen_arm, equal_arm, default_arm, chosen_option}

-- equal results have equal blocks
same_body : (x y : List Stmt) → ◌≡◌ {A = Result (List Stmt) Refusal} (Ok x) (Ok y) → x ≡ y
same_body x y h = cc

-- and so are results of them
same_found : (x y : Option (List Stmt)) → ◌≡◌ {A = Result (Option (List Stmt)) Refusal} (Ok x) (Ok y) → x ≡ y
same_found x y h = cc

module _ (P : List Stmt → Type 0) (s : Scoped) (b : List Stmt) where
  -- the block that an arm chooses, or those behind it, is one that stands there
  by_arm : (body : List Stmt) (r : Result Bool Refusal) (more : Result (List Stmt) Refusal) → P body → (more ≡ Ok b → P b) → (r >>= λ t. cond t (Ok body) more) ≡ Ok b → P b
  by_arm body (Ok true) more p f e = subst P (same_body body b e) p
  by_arm body (Ok false) more p f e = f e
  by_arm body (Err x) more p f e = cc

  -- the block that a condition chooses is one that stands there
  pub arm_is_own : (arms : List Arm) (other : List Stmt) → AllByRecursion (λ a. P (out-Arm a).body) arms → P other → chosen_arm s arms other ≡ Ok b → P b
  arm_is_own [] other h k e = subst P (same_body other b e) k
  arm_is_own (a ∷ arms) other h k e = by_arm (out-Arm a).body (test_of s (out-Arm a).test) (chosen_arm s arms other) h.0 (arm_is_own arms other h.1 k) e

  -- so of the block, if there is one
  abbrev Own : Option (List Stmt) → Type 0
  Own None = Unit {0}
  Own (Some body) = P body

  -- the block that an option chooses, or those behind it, is one that stands there
  by_option : (body : List Stmt) (found : Option (List Stmt)) (r : Result Bool Refusal) (more : Result (Option (List Stmt)) Refusal) → P body → (more ≡ Ok found → Own found)
      → (r >>= λ t. cond t (Ok (Some body)) more) ≡ Ok found → Own found
  by_option body found (Ok true) more p f e = subst Own (same_found (Some body) found e) p
  by_option body found (Ok false) more p f e = f e
  by_option body found (Err x) more p f e = cc

  -- so is that of an equal option
  equal_own : (at : ℕ) (x : Value) (arms : List CaseArm) (found : Option (List Stmt)) → AllByRecursion (λ a. P (out-CaseArm a).body) arms → equal_arm s at x arms ≡ Ok found → Own found
  equal_own at x [] found h e = subst Own (same_found None found e) tt
  equal_own at x (a ∷ arms) found h e =
      by_option (out-CaseArm a).body found (is_among (blame.Case at) x (map (option_map (evaluated s)) (out-CaseArm a).options)) (equal_arm s at x arms) h.0 (equal_own at x arms found h.1) e

  -- so is one of two that do
  own_head : (body : List Stmt) (t : Bool) (more : Option (List Stmt)) → P body → Own more → Own (cond t (Some body) more)
  own_head body true more p k = p
  own_head body false more p k = k

  -- so is the block of `default`
  default_own : (arms : List CaseArm) → AllByRecursion (λ a. P (out-CaseArm a).body) arms → Own (default_arm arms)
  default_own [] h = tt
  default_own (a ∷ arms) h = own_head (out-CaseArm a).body (list_any is_none (out-CaseArm a).options) (default_arm arms) h.0 (default_own arms h.1)

  -- so is the first of two that is there
  own_either : (found default : Option (List Stmt)) → Own found → Own default → Own (option_or found default)
  own_either (Some body) default h k = h
  own_either None default h k = k

  -- so is what a `case` chooses by its options
  by_equal : (arms : List CaseArm) (r : Result (Option (List Stmt)) Refusal) → ((found : Option (List Stmt)) → r ≡ Ok found → Own found) → Own (default_arm arms)
      → (r >>= λ equal. Ok (option_or equal (default_arm arms))) ≡ Ok (Some b) → P b
  by_equal arms (Ok found) h k e = subst Own (same_found (option_or found (default_arm arms)) (Some b) e) (own_either found (default_arm arms) (h found refl) k)
  by_equal arms (Err x) h k e = cc

  -- and by its value
  by_value : (at : ℕ) (arms : List CaseArm) (r : Evaluation) → AllByRecursion (λ a. P (out-CaseArm a).body) arms
      → (r >>= λ x. equal_arm s at x arms >>= λ equal. Ok (option_or equal (default_arm arms))) ≡ Ok (Some b) → P b
  by_value at arms (Ok x) h e = by_equal arms (equal_arm s at x arms) (λ found k. equal_own at x arms found h k) (default_own arms h) e
  by_value at arms (Err x) h e = cc

  -- the block that a `case` chooses is one that stands there
  pub option_is_own : (e : Expr) (arms : List CaseArm) → AllByRecursion (λ a. P (out-CaseArm a).body) arms → chosen_option s e arms ≡ Ok (Some b) → P b
  option_is_own e arms h k = by_value e.at arms (value_of s e) h k
