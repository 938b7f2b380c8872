-- What each statement does to a state.
use Rattle.std.specs.Prelude.{ℕ, suc, zero, ◌-◌, Bool, nat_lt, if◌then◌else◌, List, [], ◌∷◌, ◌++◌, map, length, codes, Option, Some, None, option_map, Result}
use Rattle.std.specs.Prelude.{Ok}
use Rattle.std.specs.List.{flat_map}
use Rattle.std.specs.Str.{bytes_eq}
use Rattle.rh_base.specs.declared.fault.Refusal.{Refusal}
use Rattle.pp_syntax.specs.declared.tree.Expr.{Expr}
use Rattle.pp_syntax.specs.declared.tree.Func.{Func}
use Rattle.pp_syntax.specs.declared.tree.Body.{Body}
use Rattle.pp_syntax.specs.declared.tree.Operand.{Operand}
use Rattle.pp_syntax.specs.declared.tree.Operand.TheVariants as operand
use Rattle.pp_syntax.specs.declared.tree.Arrow.{Arrow}
use Rattle.pp_syntax.specs.declared.tree.Arrow.TheVariants as arrow
use Rattle.pp_syntax.specs.declared.tree.Stmt.{Stmt, Stmt-F, fold-Stmt}
use Rattle.pp_syntax.specs.declared.tree.Stmt.TheOpen as stmt
use Rattle.pp_syntax.specs.declared.tree.Stmt.TheOpen.{Arm-F, CaseArm-F}
use Rattle.pp_syntax.specs.declared.tree.Arm.{Arm, out-Arm}
use Rattle.pp_syntax.specs.declared.tree.CaseArm.{CaseArm, out-CaseArm}
use Rattle.pp_value.specs.declared.value.Ref.{Ref}
use Rattle.pp_value.specs.declared.value.Value.{Value}
use Rattle.pp_eval.specs.Evaluating.{◌>>=◌, if_there}
use Rattle.pp_eval.specs.Scoping.{Scoped}
use Rattle.pp_eval.specs.declared.blame.Blame.TheVariants as blame
use Rattle.pp_eval.specs.Evaluation.{value_of, evaluated, truth_at, is_equal}
use Rattle.catalog_semantics.specs.declared.state.Side.{Side}
use Rattle.catalog_semantics.specs.declared.state.Side.TheVariants as side
use Rattle.catalog_semantics.specs.declared.state.Tie.{Tie}
use Rattle.catalog_semantics.specs.Sites.{Site}
use Rattle.catalog_semantics.specs.States.{State, Effect, in_turn, bound, tied, collected}
use Rattle.catalog_semantics.specs.Attributes.{references_in}
use Rattle.catalog_semantics.specs.Rooms.{Room, block_depth, whole_room}
use Rattle.catalog_semantics.specs.Declaring.{Bodies, within, resources_declared, classes_declared}
use Rattle.catalog_semantics.specs.Functions.{arguments, calls}
use Rattle.catalog_semantics.specs.Collecting.{collector_of}

-- ---- assignments

-- a variable is bound to the value of an expression
abbrev pub assigned : ℕ → List ℕ → Expr → Effect
assigned at name e s = do
  x ← value_of s.scopes e
  bound at name x s

-- ---- conditions

-- the truth of a test
abbrev pub test_of : Scoped → Expr → Result Bool Refusal
test_of s e = do
  x ← value_of s e
  truth_at e.at x

-- the first block whose test is true, or else the last
abbrev pub first_true : List (Expr × Effect) → Effect → Effect
first_true [] other s = other s
first_true (arm ∷ arms) other s = do
  b ← test_of s.scopes arm.0
  if b then arm.1 s else first_true arms other s

-- the body where the test is false, and else the other block
abbrev pub unless_true : Expr → Effect → Effect → Effect
unless_true e body other s = do
  b ← test_of s.scopes e
  if b then other s else body s

-- An option is evaluated where it is compared. An opaque value is refused at what holds it, that of the `case` first.
abbrev pub is_option : Scoped → ℕ → Value → Option Expr → Result Bool Refusal
is_option s at x option = is_equal (blame.Case at) x (option_map (evaluated s) option)

-- the block of the first option that is equal
abbrev pub first_option : Scoped → ℕ → Value → List (Option Expr × Effect) → Result (Option Effect) Refusal
first_option s at x [] = Ok None
first_option s at x (c ∷ choices) = do
  b ← is_option s at x c.0
  if b then Ok (Some c.1) else first_option s at x choices

-- the block of `default`
abbrev pub default_block : List (Option Expr × Effect) → Option Effect
default_block [] = None
default_block ((None, block) ∷ choices) = Some block
default_block ((Some e, block) ∷ choices) = default_block choices

-- the block of an equal option, or else that of `default`, or else nothing
abbrev pub chosen_block : Option Effect → Option Effect → Effect
chosen_block (Some equal) default s = equal s
chosen_block None (Some default) s = default s
chosen_block None None s = Ok s

-- each option with the block of its arm
abbrev pub options_of : List (Option Expr) × Effect → List (Option Expr × Effect)
options_of arm = map (λ option. (option, arm.1)) arm.0

-- the block that a `case` chooses
abbrev pub selected_block : Expr → List (Option Expr × Effect) → Effect
selected_block e choices s = do
  x ← value_of s.scopes e
  found ← first_option s.scopes e.at x choices
  chosen_block found (default_block choices) s

-- ---- chains

-- the references of some expressions, from the left
abbrev pub named_refs : Scoped → List Expr → Result (List Ref) Refusal
named_refs s [] = Ok []
named_refs s (e ∷ es) = do
  x ← value_of s e
  refs ← if_there e.at (references_in x)
  more ← named_refs s es
  Ok (refs ++ more)

abbrev pub as_named : Result (List Ref × State) Refusal → Result (Side × State) Refusal
as_named r = do
  x ← r
  Ok (side.Named x.0, x.1)

-- The word `class` declares classes.
abbrev pub declared_by : Site → Bodies → ℕ → Bool → List ℕ → List Body → State → Result (List Ref × State) Refusal
declared_by site bodies at is_virtual kind declared s =
    if bytes_eq kind (codes "class") then classes_declared site bodies declared s else resources_declared site at is_virtual kind declared s

-- An operand is one side of an arrow: the resources that it declares or names, or a collector by its place in the list.
abbrev pub side_of : Site → Bodies → Operand → State → Result (Side × State) Refusal
side_of site bodies (operand.Declare at is_virtual kind declared) s = as_named (declared_by site bodies at is_virtual kind declared s)
side_of site bodies (operand.Collect at kind sought) s = do
  c ← collector_of site at kind sought s
  Ok (side.Matched (length s.collectors), collected c s)
side_of site bodies (operand.Named es) s = do
  refs ← named_refs s.scopes es
  Ok (side.Named refs, s)

abbrev pub sides_of : Site → Bodies → List Operand → State → Result (List Side × State) Refusal
sides_of site bodies [] s = Ok ([], s)
sides_of site bodies (x ∷ operands) s = do
  first ← side_of site bodies x s
  more ← sides_of site bodies operands first.1
  Ok (first.0 ∷ more.0, more.1)

-- `->` and `~>` relate left to right, `<-` and `<~` right to left
abbrev pub tie_of : ℕ → Side → Arrow → Side → Tie
tie_of at left arrow.Before right = record { from = left; to = right; at = at }
tie_of at left arrow.Notify right = record { from = left; to = right; at = at }
tie_of at left arrow.After right = record { from = right; to = left; at = at }
tie_of at left arrow.Follow right = record { from = right; to = left; at = at }

-- a tie for each arrow between two neighbours
abbrev pub ties_of : ℕ → List Side → List Arrow → List Tie
ties_of at [] arrows = []
ties_of at (left ∷ []) arrows = []
ties_of at (left ∷ right ∷ sides) [] = []
ties_of at (left ∷ right ∷ sides) (a ∷ arrows) = tie_of at left a right ∷ ties_of at (right ∷ sides) arrows

-- the operands of a chain, and the ties between them
abbrev pub chained : Site → Bodies → ℕ → List Operand → List Arrow → Effect
chained site bodies at operands arrows s = do
  x ← sides_of site bodies operands s
  Ok (tied (ties_of at x.0 arrows) x.1)

-- ---- functions

-- a function with its arguments
abbrev pub called : Site → Bodies → ℕ → Func → List Expr → Effect
called site bodies at func args s = do
  xs ← arguments s.scopes args
  calls site bodies at func xs s

-- ---- statements, each by the effects of those that stand in it

-- what is done, by what may be open within
abbrev pub Inner : Type 0
Inner = Bodies → Effect

-- a test, or the options of a `case`, and the block behind it
abbrev pub Arms : Type 0
Arms = Expr × Effect

abbrev pub CaseArms : Type 0
CaseArms = List (Option Expr) × Effect

abbrev pub InnerArms : Type 0
InnerArms = Expr × Inner

abbrev pub InnerCaseArms : Type 0
InnerCaseArms = List (Option Expr) × Inner

-- the statements of a block, one after the other
abbrev pub block_by : List Inner → Inner
block_by body bodies = in_turn (map (λ f. f bodies) body)

abbrev pub arm_by : Arm-F Inner InnerArms InnerCaseArms → InnerArms
arm_by arm = (arm.test, block_by arm.body)

abbrev pub case_arm_by : CaseArm-F Inner InnerArms InnerCaseArms → InnerCaseArms
case_arm_by arm = (arm.options, block_by arm.body)

abbrev pub arm_in : Bodies → InnerArms → Arms
arm_in bodies arm = (arm.0, arm.1 bodies)

abbrev pub case_arm_in : Bodies → InnerCaseArms → CaseArms
case_arm_in bodies arm = (arm.0, arm.1 bodies)

-- each form of a statement; its blocks are one further in
abbrev pub effect_by : Site → Stmt-F Inner InnerArms InnerCaseArms → Inner
effect_by site (stmt.Chain at operands arrows) bodies = chained site bodies at operands arrows
effect_by site (stmt.Assign at name value) bodies = assigned at name value
effect_by site (stmt.Call at func args) bodies = called site bodies at func args
effect_by site (stmt.If at arms other) bodies = first_true (map (arm_in (within bodies)) arms) (block_by other (within bodies))
effect_by site (stmt.Unless at test body other) bodies =
    unless_true test (block_by body (within bodies)) (block_by other (within bodies))
effect_by site (stmt.Case at value arms) bodies = selected_block value (flat_map options_of (map (case_arm_in (within bodies)) arms))

-- a statement, by what may be open within
unfoldable pub effect_in : Site → Stmt → Inner
effect_in site s = fold-Stmt Inner InnerArms InnerCaseArms (effect_by site) arm_by case_arm_by s

-- a statement, where it is told what may be open within
abbrev pub effect_with : Site → Bodies → Stmt → Effect
effect_with site bodies s = effect_in site s bodies

-- the statements of a block, one after the other
abbrev pub block_with : Site → Bodies → List Stmt → Effect
block_with site bodies body = in_turn (map (effect_with site bodies) body)

-- a test, and the block behind it
abbrev pub arm_with : Site → Bodies → Arm → Arms
arm_with site bodies a = ((out-Arm a).test, block_with site bodies (out-Arm a).body)

-- the options of an arm of a `case`, each with the block behind them
abbrev pub options_with : Site → Bodies → CaseArm → List (Option Expr × Effect)
options_with site bodies a = options_of ((out-CaseArm a).options, block_with site bodies (out-CaseArm a).body)

-- ---- how much may be open

-- How bodies run, where at most so many more of them run within one another: one is open with its deepest block, or not at all.
abbrev pub runs_within : ℕ → Site → ℕ → List Stmt → Option (Stmt → Effect)
runs_within zero site left body = None
runs_within (suc n) site left body =
    if nat_lt (block_depth body) left then Some (effect_with site (record { left = left - 1; run = runs_within n site })) else None

-- what may be open where there is so much room
abbrev pub bodies_at : Room → Site → Bodies
bodies_at room site = record { left = room.levels; run = runs_within room.bodies site }

-- a statement, where there is so much room
abbrev pub effect_at : Room → Site → Stmt → Effect
effect_at room site = effect_with site (bodies_at room site)

-- what a statement does
unfoldable pub effect_of : Site → Stmt → Effect
effect_of site s = effect_at whole_room site s
