-- What each statement does, by the block that it chooses, and what the functions do.
use Rattle.std.proofs.Common.{◌≡◌, ◌⊎◌, inl, inr, IsErrAnd, subst, ℕ, Bool, true, false, cond, List, map, Option, Some, None, Result, Ok, Err, refl, sym, ap, ◌∙◌}
use Rattle.rh_base.specs.declared.fault.Fault.{Fault}
use Rattle.rh_base.specs.declared.fault.Fault.TheVariants as fault
use Rattle.rh_base.specs.declared.fault.Refusal.{Refusal}
use Rattle.pp_value.specs.declared.value.Value.{Value}
use Rattle.pp_syntax.specs.declared.tree.Expr.{Expr}
use Rattle.pp_syntax.specs.declared.tree.Func.{Func}
use Rattle.pp_syntax.specs.declared.tree.Func.TheVariants as func
use Rattle.pp_syntax.specs.declared.tree.Arm.{Arm}
use Rattle.pp_syntax.specs.declared.tree.CaseArm.{CaseArm}
use Rattle.pp_syntax.specs.declared.tree.Operand.{Operand}
use Rattle.pp_syntax.specs.declared.tree.Arrow.{Arrow}
use Rattle.pp_syntax.specs.declared.tree.Stmt.{Stmt}
use Rattle.pp_syntax.specs.declared.tree.Stmt.TheVariants as stmt
use Rattle.pp_eval.specs.Evaluating.{◌>>=◌, AnswersBy, Refuses}
use Rattle.pp_eval.specs.Scoping.{Scoped}
use Rattle.pp_eval.specs.Evaluation.{evaluated, values_in}
use Rattle.catalog_semantics.specs.declared.state.State.{State}
use Rattle.catalog_semantics.specs.Sites.{Site}
use Rattle.catalog_semantics.specs.States.{Effect, in_turn}
use Rattle.catalog_semantics.specs.declared.room.Room.{Room}
use Rattle.catalog_semantics.specs.Rooms.{whole_room, in_block}
use Rattle.catalog_semantics.specs.Declaring.{Bodies, within}
use Rattle.catalog_semantics.specs.Functions.{Argument, placed, contained, required, each_class, included_then, calls}
use Rattle.catalog_semantics.specs.Effects.{assigned, chained, called, test_of, effect_with, block_with, effect_at, bodies_at, effect_of}
use Rattle.catalog_semantics.proofs.Statements.{effect_chain, effect_assign, effect_call, effect_if, effect_unless, effect_case}
use Rattle.pp_declarations.specs.Choosing.{chosen_arm, chosen_option, maybe_block}
use Rattle.pp_declarations.proofs.ChoiceLaws.{condition_runs, case_runs}
use Rattle.pp_declarations.specs.Including.{after_include}

-- the statements of a block in turn, where there is so much room
abbrev pub block_at : Room → Site → List Stmt → Effect
block_at n site body = in_turn (map (effect_at n site) body)

-- the statements of a block that may not stand there
abbrev pub if_block : Room → Site → Option (List Stmt) → Effect
if_block n site None s = Ok s
if_block n site (Some body) s = block_at n site body s

module _ (n : Room) (site : Site) (s : State) where
  -- what a statement does where there is so much room is what it does by that
  one_more : (x : Stmt) (f : Effect) → effect_with site (bodies_at n site) x ≡ f → effect_at n site x s ≡ f s
  one_more x f h = ap (λ (g : Effect). g s) h

  -- a block one further in has one level less of room
  same_block : (body : List Stmt) → block_with site (within (bodies_at n site)) body s ≡ block_at (in_block n) site body s
  same_block body = refl

  -- what a chain does
  pub chain_is : (at : ℕ) (operands : List Operand) (arrows : List Arrow) → effect_at n site (stmt.Chain at operands arrows) s ≡ chained site (bodies_at n site) at operands arrows s
  chain_is at operands arrows = one_more (stmt.Chain at operands arrows) _ (effect_chain site (bodies_at n site) at operands arrows)

  -- what an assignment does
  pub assign_is : (at : ℕ) (name : List ℕ) (value : Expr) → effect_at n site (stmt.Assign at name value) s ≡ assigned at name value s
  assign_is at name value = one_more (stmt.Assign at name value) _ (effect_assign site (bodies_at n site) at name value)

  -- what a call does
  pub call_is : (at : ℕ) (f : Func) (args : List Expr) → effect_at n site (stmt.Call at f args) s ≡ called site (bodies_at n site) at f args s
  call_is at f args = one_more (stmt.Call at f args) _ (effect_call site (bodies_at n site) at f args)

  -- the block that an arm chooses has one level less of room
  by_arm : (r : Result (List Stmt) Refusal) → (r >>= λ body. block_with site (within (bodies_at n site)) body s) ≡ (r >>= λ body. block_at (in_block n) site body s)
  by_arm (Ok body) = same_block body
  by_arm (Err e) = refl

  -- an `if` does what the block does that it chooses
  pub if_is : (at : ℕ) (arms : List Arm) (other : List Stmt) → effect_at n site (stmt.If at arms other) s ≡ (chosen_arm s.scopes arms other >>= λ body. block_at (in_block n) site body s)
  if_is at arms other =
      one_more (stmt.If at arms other) _ (effect_if site (bodies_at n site) at arms other)
      ∙ (condition_runs site (within (bodies_at n site)) arms other s ∙ by_arm (chosen_arm s.scopes arms other))

  -- a block that is found, or none, has one level less of room
  by_maybe : (found : Option (List Stmt)) → maybe_block site (within (bodies_at n site)) found s ≡ if_block (in_block n) site found s
  by_maybe None = refl
  by_maybe (Some body) = same_block body

  -- so has one that a `case` chooses
  by_option : (r : Result (Option (List Stmt)) Refusal) → (r >>= λ found. maybe_block site (within (bodies_at n site)) found s) ≡ (r >>= λ found. if_block (in_block n) site found s)
  by_option (Ok found) = by_maybe found
  by_option (Err e) = refl

  -- a `case` does what the block does that it chooses
  pub case_is : (at : ℕ) (value : Expr) (arms : List CaseArm) → effect_at n site (stmt.Case at value arms) s ≡ (chosen_option s.scopes value arms >>= λ found. if_block (in_block n) site found s)
  case_is at value arms =
      one_more (stmt.Case at value arms) _ (effect_case site (bodies_at n site) at value arms)
      ∙ (case_runs site (within (bodies_at n site)) value arms s ∙ by_option (chosen_option s.scopes value arms))

  -- the two blocks of an `unless` have one level less of room
  by_test : (body other : List Stmt) (r : Result Bool Refusal) → (r >>= λ b. cond b (block_with site (within (bodies_at n site)) other s) (block_with site (within (bodies_at n site)) body s))
      ≡ (r >>= λ b. cond b (block_at (in_block n) site other s) (block_at (in_block n) site body s))
  by_test body other (Ok true) = same_block other
  by_test body other (Ok false) = same_block body
  by_test body other (Err e) = refl

  -- an `unless` does what one of its blocks does
  pub unless_is : (at : ℕ) (test : Expr) (body other : List Stmt) → effect_at n site (stmt.Unless at test body other) s ≡ (test_of s.scopes test >>= λ b. cond b (block_at (in_block n) site other s) (block_at (in_block n) site body s))
  unless_is at test body other =
      one_more (stmt.Unless at test body other) _ (effect_unless site (bodies_at n site) at test body other) ∙ by_test body other (test_of s.scopes test)

-- ---- functions that include

-- the function includes classes
abbrev Includes : Func → Type 0
Includes f = (f ≡ func.Include) ⊎ ((f ≡ func.Contain) ⊎ (f ≡ func.Require))

module _ (site : Site) (bodies : Bodies) (at : ℕ) (xs : List Argument) (s : State) where
  -- each class of the arguments is included, and then something is done with it
  abbrev with_next : (List ℕ → State → State) → Result State Refusal
  with_next next = in_turn (map (each_class (included_then next site bodies at)) xs) s

  -- `include` does nothing more
  include_is : with_next (after_include func.Include at) ≡ calls site bodies at func.Include xs s
  include_is = ap with_next (λ i. λ (name : List ℕ) (t : State). t)

  -- `contain` puts it into the container that runs
  contain_is : with_next (after_include func.Contain at) ≡ calls site bodies at func.Contain xs s
  contain_is = ap with_next (λ i. λ (name : List ℕ) (t : State). contained name t)

  -- `require` puts it before that
  require_is : with_next (after_include func.Require at) ≡ calls site bodies at func.Require xs s
  require_is = ap with_next (λ i. λ (name : List ℕ) (t : State). required at name t)

  -- so does each of the three
  includes_are : (f : Func) → Includes f → with_next (after_include f at) ≡ calls site bodies at f xs s
  includes_are f (inl e) = subst (λ (g : Func). with_next (after_include g at) ≡ calls site bodies at g xs s) (sym e) include_is
  includes_are f (inr (inl e)) = subst (λ (g : Func). with_next (after_include g at) ≡ calls site bodies at g xs s) (sym e) contain_is
  includes_are f (inr (inr e)) = subst (λ (g : Func). with_next (after_include g at) ≡ calls site bodies at g xs s) (sym e) require_is

-- a call of one of the three does so with its arguments
pub includes_by : (site : Site) (bodies : Bodies) (at : ℕ) (f : Func) (args : List Expr) (s : State) (scopes : Scoped) (xs ys : List Value) → Includes f → scopes ≡ s.scopes → values_in (map (evaluated scopes) args) ≡ Ok xs → ys ≡ xs
    → in_turn (map (each_class (included_then (after_include f at) site bodies at)) (placed args ys)) s ≡ called site bodies at f args s
includes_by site bodies at f args s scopes xs ys includes same h k =
    includes_are site bodies at (placed args ys) s f includes
    ∙ (ap (λ (zs : List Value). calls site bodies at f (placed args zs) s) k
    ∙ sym (ap (λ (r : Result (List Value) Refusal). r >>= (λ zs. Ok (placed args zs)) >>= λ zs. calls site bodies at f zs s) (ap (λ (t : Scoped). values_in (map (evaluated t) args)) (sym same) ∙ h)))

-- an answer to what is due is one to what is the same
pub answers_as : {X : Type 0} (view : X → State) (v w : Result State Refusal) (r : Result X Fault) → v ≡ w → AnswersBy view v r → AnswersBy view w r
answers_as view v w r e h = subst (λ (x : Result State Refusal). AnswersBy view x r) e h

-- ---- refusals

-- an error is an answer where it is due
pub answered : {X : Type 0} (view : X → State) (w : Result State Refusal) (r : Result X Fault) (e : Fault) → IsErrAnd r (λ d. d ≡ e) → Refuses w e → AnswersBy view w r
answered view w (Ok x) e h k = absurd h
answered view w (Err d) e h k = subst (Refuses w) (sym h) k

-- a refusal of the one is due of the other, where it refuses alike
pub refuses_too : (v w : Result State Refusal) (e : Fault) → ((x : Refusal) → v ≡ Err x → w ≡ Err x) → Refuses v e → Refuses w e
refuses_too v w (fault.Refused x) f h = f x h
refuses_too v w (fault.Memory m) f h = tt

-- ---- from outside

-- with all room a statement does what it does
pub whole : (site : Site) → effect_at whole_room site ≡ effect_of site
unfolding effect_of
whole site = refl

-- so does one from a state on
pub whole_statement : (site : Site) (x : Stmt) (s : State) → effect_at whole_room site x s ≡ effect_of site x s
whole_statement site x s = ap (λ (f : Stmt → Effect). f x s) (whole site)

-- so does a block
pub whole_block : (site : Site) (body : List Stmt) (s : State) → in_turn (map (effect_at whole_room site) body) s ≡ in_turn (map (effect_of site) body) s
whole_block site body s = ap (λ (f : Stmt → Effect). in_turn (map f body) s) (whole site)
