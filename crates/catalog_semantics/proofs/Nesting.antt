-- What needs less room for open bodies and blocks is the same where there is more.
use Rattle.std.proofs.Common.{◌≡◌, inl, inr, ℕ, zero, suc, ◌+◌, ◌-◌, ◌≤◌, arith, Bool, true, false, cond, List, [], ◌∷◌, ◌++◌, map, length, Option, Some, None}
use Rattle.std.proofs.Common.{Result, Ok, Err, refl, sym, ap, subst}
use Rattle.std.specs.Prelude.{codes, nat_lt}
use Rattle.std.proofs.lemmas.Bool.{ltb-true, ltb-false}
use Rattle.std.specs.Str.{bytes_eq}
use Rattle.std.specs.List.{flat_map}
use Rattle.rh_base.specs.declared.fault.Refusal.{Refusal}
use Rattle.pp_syntax.specs.declared.tree.Expr.{Expr}
use Rattle.pp_syntax.specs.declared.tree.Func.{Func}
use Rattle.pp_syntax.specs.declared.tree.Func.TheVariants as func
use Rattle.pp_syntax.specs.declared.tree.Body.{Body}
use Rattle.pp_syntax.specs.declared.tree.Operand.{Operand}
use Rattle.pp_syntax.specs.declared.tree.Operand.TheVariants as operand
use Rattle.pp_syntax.specs.declared.tree.Arrow.{Arrow}
use Rattle.pp_syntax.specs.declared.tree.Stmt.{Stmt, Stmt-F, roll-Stmt, map-Stmt, ind-Stmt}
use Rattle.pp_syntax.specs.declared.tree.Stmt.TheOpen as plain
use Rattle.pp_syntax.specs.declared.tree.Stmt.TheOpen.{Arm-F, CaseArm-F}
use Rattle.pp_syntax.specs.declared.tree.Arm.{Arm, roll-Arm, map-Arm}
use Rattle.pp_syntax.specs.declared.tree.CaseArm.{CaseArm, roll-CaseArm, map-CaseArm}
use Rattle.pp_value.specs.declared.value.Ref.{Ref}
use Rattle.pp_value.specs.declared.value.Value.{Value}
use Rattle.pp_value.specs.Values.{Pair}
use Rattle.pp_eval.specs.declared.scope.Scope.{Scope}
use Rattle.pp_eval.specs.References.{plain_name}
use Rattle.pp_eval.specs.Evaluating.{◌>>=◌, if_there}
use Rattle.pp_eval.specs.Scoping.{class_scope}
use Rattle.pp_eval.specs.Evaluation.{value_of}
use Rattle.catalog_semantics.specs.declared.catalog.Resource.{Resource}
use Rattle.catalog_semantics.specs.Sites.{Definition, Site}
use Rattle.catalog_semantics.specs.Rooms.{Room, block_depth}
use Rattle.catalog_semantics.specs.States.{State, Effect, in_turn, is_declared, is_new, added}
use Rattle.catalog_semantics.specs.Attributes.{titles_at, attributes_at}
use Rattle.catalog_semantics.specs.Declaring.{Bodies, within, body_in, body_begins, body_runs, class_ref, class_resource, class_named}
use Rattle.catalog_semantics.specs.Declaring.{class_runs, no_circle, parents_of, class_declared, class_included, body_declared}
use Rattle.catalog_semantics.specs.Declaring.{bodies_declared, resources_declared, classes_declared}
use Rattle.catalog_semantics.specs.Functions.{Argument, arguments, class_names, contained, required, included_then, each_class, calls}
use Rattle.catalog_semantics.specs.Effects.{test_of, is_option, first_true, unless_true, first_option, default_block, chosen_block}
use Rattle.catalog_semantics.specs.Effects.{options_of, selected_block, declared_by, side_of, sides_of, chained, called, Inner, InnerArms, InnerCaseArms}
use Rattle.catalog_semantics.specs.Effects.{block_by, arm_in, case_arm_in, effect_in, effect_with, runs_within, bodies_at, effect_at}
use Rattle.catalog_semantics.proofs.Rolled.{in_arm, in_case_arm, layer_of, rolled, rolled_arm, rolled_case_arm}
use Rattle.catalog_semantics.specs.Nesting.{Deeper}

-- from each state on, the second is the first unless that is too deep
abbrev AreDeeper : Effect → Effect → Type 0
AreDeeper f g = (s : State) → Deeper (f s) (g s)

-- a result that goes on alike unless too deep is so
on_deeper : {A B : Type 0} (x : Result A Refusal) (f g : A → Result B Refusal) → ((a : A) → Deeper (f a) (g a)) → Deeper (x >>= f) (x >>= g)
on_deeper (Ok a) f g h = h a
on_deeper (Err e) f g h = inl refl

-- so is one that is already so, and goes on so
then_deeper : {A B : Type 0} (x y : Result A Refusal) (f g : A → Result B Refusal) → Deeper x y → ((a : A) → Deeper (f a) (g a))
    → Deeper (x >>= f) (y >>= g)
then_deeper x y f g (inl e) h = subst (λ (z : Result _ Refusal). Deeper (x >>= f) (z >>= g)) e (on_deeper x f g h)
then_deeper x y f g (inr deep) h = inr (deep.0, ap (λ r. r >>= f) deep.1)

-- so is a choice of two that are
if_deeper : {A : Type 0} (b : Bool) (x y x' y' : Result A Refusal) → Deeper x x' → Deeper y y' → Deeper (cond b x y) (cond b x' y')
if_deeper true x y x' y' h k = h
if_deeper false x y x' y' h k = k

-- so are effects in turn
all_deeper : {A : Type 0} (f g : A → Effect) → ((x : A) → AreDeeper (f x) (g x)) → (xs : List A)
    → AreDeeper (in_turn (map f xs)) (in_turn (map g xs))
all_deeper f g h [] s = inl refl
all_deeper f g h (x ∷ xs) s = then_deeper (f x s) (g x s) (in_turn (map f xs)) (in_turn (map g xs)) (h x s) (all_deeper f g h xs)

-- so is a body that runs
body_deeper : (run more : Stmt → Effect) → ((x : Stmt) → AreDeeper (run x) (more x))
    → (d : Definition) (place : ℕ) (r : Resource) (scope : Scope)
    → AreDeeper (body_runs run d place r scope) (body_runs more d place r scope)
body_deeper run more h d place r scope s =
    on_deeper (body_begins d place r scope s) _ _ (λ t.
    then_deeper (in_turn (map run d.body) t) (in_turn (map more d.body) t) _ _ (all_deeper run more h d.body t) (λ u. inl refl))

-- where the first runs, the second runs alike, unless the first is too deep
abbrev MayDeeper : Option (Stmt → Effect) → Option (Stmt → Effect) → Type 0
MayDeeper None more = Unit {0}
MayDeeper (Some run) None = ⊥
MayDeeper (Some run) (Some more) = (x : Stmt) → AreDeeper (run x) (more x)

-- so of each body, here and further in
abbrev pub BodiesDeeper : Bodies → Bodies → Type 0
BodiesDeeper bodies more = (k : ℕ) (body : List Stmt) → MayDeeper (bodies.run (bodies.left - k) body) (more.run (more.left - k) body)

-- a class whose body runs alike, or not at all, is the same, unless too deep
class_deeper : (bodies more : Option (Stmt → Effect)) → MayDeeper bodies more → (d : Definition) (r : Resource)
    → AreDeeper (class_runs bodies d r) (class_runs more d r)
class_deeper None more h d r s = on_deeper (is_new r s) _ _ (λ new. inr (r.at, refl))
class_deeper (Some run) None h d r s = absurd h
class_deeper (Some run) (Some more) h d r s =
    on_deeper (is_new r s) _ _ (λ new. on_deeper (added r s) _ _
    (λ t. body_deeper run more h d (length s.resources) r (class_scope t.scopes.0 d.name d.parent) t))

-- a number less none is the number
none_less : (n : ℕ) → n - 0 ≡ n
none_less n = omega arith

module _ (site : Site) (bodies more : Bodies) (deep : BodiesDeeper bodies more) where
  -- a body that runs here runs alike in both, unless too deep
  here : (body : List Stmt) → MayDeeper (body_in bodies body) (body_in more body)
  here body =
      subst (λ n. MayDeeper (bodies.run n body) (body_in more body)) (none_less bodies.left)
      (subst (λ n. MayDeeper (bodies.run (bodies.left - 0) body) (more.run n body)) (none_less more.left) (deep 0 body))

  -- a class that is declared is the same in both, unless too deep
  declared_deeper : (at : ℕ) (attributes : List Pair) (name : List ℕ)
      → AreDeeper (class_declared site bodies at attributes name) (class_declared site more at attributes name)
  declared_deeper at attributes name s =
      on_deeper (class_named site at name) _ _ (λ d. on_deeper (no_circle site d) _ _
      (λ fine. on_deeper (parents_of site s d) _ _ (λ parents.
      then_deeper (in_turn (map (λ e. class_runs (body_in bodies e.body) e (class_resource at e.name [])) parents) s)
      (in_turn (map (λ e. class_runs (body_in more e.body) e (class_resource at e.name [])) parents) s) _ _
      (all_deeper (λ (e : Definition). class_runs (body_in bodies e.body) e (class_resource at e.name []))
      (λ (e : Definition). class_runs (body_in more e.body) e (class_resource at e.name []))
      (λ e. class_deeper (body_in bodies e.body) (body_in more e.body) (here e.body) e (class_resource at e.name [])) parents s)
      (class_deeper (body_in bodies d.body) (body_in more d.body) (here d.body) d (class_resource at d.name attributes)))))

  -- so is one that is included
  included_deeper : (at : ℕ) (name : List ℕ) → AreDeeper (class_included site bodies at name) (class_included site more at name)
  included_deeper at name s =
      if_deeper (is_declared (class_ref name) s) (Ok s) (class_declared site bodies at [] name s) (Ok s)
      (class_declared site more at [] name s) (inl refl) (declared_deeper at [] name s)

  -- from each state on, the second gives what the first does, unless that is too deep
  abbrev ShowDeeper : {A : Type 0} → (State → Result (A × State) Refusal) → (State → Result (A × State) Refusal) → Type 0
  ShowDeeper f g = (s : State) → Deeper (f s) (g s)

  -- a body that is declared gives the same in both, unless too deep
  one_body_deeper : (declare other : ℕ → List Pair → List ℕ → Effect) (refer : List ℕ → Ref)
      → ((at : ℕ) (attributes : List Pair) (title : List ℕ) → AreDeeper (declare at attributes title) (other at attributes title))
      → (b : Body) → ShowDeeper (body_declared declare refer b) (body_declared other refer b)
  one_body_deeper declare other refer h b s =
      on_deeper (titles_at s.scopes b.title) _ _ (λ titles. on_deeper (attributes_at s.scopes b.attrs) _ _ (λ attributes.
      then_deeper (in_turn (map (declare b.title.at attributes) titles) s) (in_turn (map (other b.title.at attributes) titles) s) _ _
      (all_deeper (declare b.title.at attributes) (other b.title.at attributes) (h b.title.at attributes) titles s) (λ t. inl refl)))

  -- so do bodies
  bodies_deeper : (declare other : ℕ → List Pair → List ℕ → Effect) (refer : List ℕ → Ref)
      → ((at : ℕ) (attributes : List Pair) (title : List ℕ) → AreDeeper (declare at attributes title) (other at attributes title))
      → (bs : List Body) → ShowDeeper (bodies_declared declare refer bs) (bodies_declared other refer bs)
  bodies_deeper declare other refer h [] s = inl refl
  bodies_deeper declare other refer h (b ∷ bs) s =
      then_deeper (body_declared declare refer b s) (body_declared other refer b s) _ _ (one_body_deeper declare other refer h b s)
      (λ first.
      then_deeper (bodies_declared declare refer bs first.1) (bodies_declared other refer bs first.1) _ _
      (bodies_deeper declare other refer h bs first.1) (λ rest. inl refl))

  -- so do classes that are declared
  classes_deeper : (bs : List Body) → ShowDeeper (classes_declared site bodies bs) (classes_declared site more bs)
  classes_deeper bs =
      bodies_deeper (λ here attributes title. class_declared site bodies here attributes (plain_name title))
      (λ here attributes title. class_declared site more here attributes (plain_name title)) (λ title. class_ref (plain_name title))
      (λ here attributes title. declared_deeper here attributes (plain_name title)) bs

  -- ---- functions

  -- including a class and then doing something is the same in both, unless too deep
  include_deeper : (next : List ℕ → State → State) (at : ℕ) (name : List ℕ)
      → AreDeeper (included_then next site bodies at name) (included_then next site more at name)
  include_deeper next at name s =
      then_deeper (class_included site bodies at name s) (class_included site more at name s) _ _ (included_deeper at name s)
      (λ t. inl refl)

  -- so is doing it with each class of an argument
  argument_deeper : (next : List ℕ → State → State) (at : ℕ) (x : Argument)
      → AreDeeper (each_class (included_then next site bodies at) x) (each_class (included_then next site more at) x)
  argument_deeper next at x s =
      on_deeper (if_there x.0 (class_names x.1)) _ _
      (λ names. all_deeper (included_then next site bodies at) (included_then next site more at) (include_deeper next at) names s)

  -- so is each function
  calls_deeper : (at : ℕ) (f : Func) (xs : List Argument) → AreDeeper (calls site bodies at f xs) (calls site more at f xs)
  calls_deeper at func.Include xs =
      all_deeper (each_class (included_then (λ name t. t) site bodies at)) (each_class (included_then (λ name t. t) site more at))
      (argument_deeper (λ name t. t) at) xs
  calls_deeper at func.Contain xs =
      all_deeper (each_class (included_then contained site bodies at)) (each_class (included_then contained site more at))
      (argument_deeper contained at) xs
  calls_deeper at func.Require xs =
      all_deeper (each_class (included_then (required at) site bodies at)) (each_class (included_then (required at) site more at))
      (argument_deeper (required at) at) xs
  calls_deeper at func.Realize xs = λ s. inl refl
  calls_deeper at func.Fail xs = λ s. inl refl
  calls_deeper at func.Notice xs = λ s. inl refl
  calls_deeper at func.Warning xs = λ s. inl refl

  -- ---- chains

  -- one side of a chain gives the same in both, unless too deep
  side_deeper : (x : Operand) → ShowDeeper (side_of site bodies x) (side_of site more x)
  side_deeper (operand.Declare at is_virtual kind declared) s =
      then_deeper (declared_by site bodies at is_virtual kind declared s) (declared_by site more at is_virtual kind declared s) _ _
      (if_deeper (bytes_eq kind (codes "class")) (classes_declared site bodies declared s)
      (resources_declared site at is_virtual kind declared s) (classes_declared site more declared s)
      (resources_declared site at is_virtual kind declared s) (classes_deeper declared s) (inl refl)) (λ x. inl refl)
  side_deeper (operand.Collect at kind sought) s = inl refl
  side_deeper (operand.Named es) s = inl refl

  -- so do all sides
  sides_deeper : (xs : List Operand) → ShowDeeper (sides_of site bodies xs) (sides_of site more xs)
  sides_deeper [] s = inl refl
  sides_deeper (x ∷ xs) s = then_deeper (side_of site bodies x s) (side_of site more x s) _ _ (side_deeper x s) (λ first.
      then_deeper (sides_of site bodies xs first.1) (sides_of site more xs first.1) _ _ (sides_deeper xs first.1) (λ rest. inl refl))

  -- a chain is the same in both, unless too deep
  chained_deeper : (at : ℕ) (xs : List Operand) (arrows : List Arrow)
      → AreDeeper (chained site bodies at xs arrows) (chained site more at xs arrows)
  chained_deeper at xs arrows s = then_deeper (sides_of site bodies xs s) (sides_of site more xs s) _ _ (sides_deeper xs s) (λ x. inl refl)

  -- so is a call
  called_deeper : (at : ℕ) (f : Func) (args : List Expr) → AreDeeper (called site bodies at f args) (called site more at f args)
  called_deeper at f args s = on_deeper (arguments s.scopes args) _ _ (λ xs. calls_deeper at f xs s)

  -- so is an `unless`
  unless_deeper : (e : Expr) (body other body' other' : Effect) → AreDeeper body body' → AreDeeper other other'
      → AreDeeper (unless_true e body other) (unless_true e body' other')
  unless_deeper e body other body' other' h k s =
      on_deeper (test_of s.scopes e) _ _ (λ b. if_deeper b (other s) (body s) (other' s) (body' s) (k s) (h s))

  -- ---- choices

  -- the same options, each with a block that is the same unless too deep
  abbrev ChoicesDeeper : List (Option Expr × Effect) → List (Option Expr × Effect) → Type 0
  ChoicesDeeper [] [] = Unit {0}
  ChoicesDeeper [] (d ∷ ds) = ⊥
  ChoicesDeeper (c ∷ cs) [] = ⊥
  ChoicesDeeper (c ∷ cs) (d ∷ ds) = ((c.0 ≡ d.0) × AreDeeper c.1 d.1) × ChoicesDeeper cs ds

  -- a block on both sides that is the same unless too deep, or none on either
  abbrev OptionDeeper : Option Effect → Option Effect → Type 0
  OptionDeeper None None = Unit {0}
  OptionDeeper None (Some g) = ⊥
  OptionDeeper (Some f) None = ⊥
  OptionDeeper (Some f) (Some g) = AreDeeper f g

  -- an option with either block before such choices makes such
  same_options : (o : Option Expr) (options : List (Option Expr)) (f g : Effect) → AreDeeper f g → (cs ds : List (Option Expr × Effect))
      → ChoicesDeeper cs ds → ChoicesDeeper (map (λ (option : Option Expr). (option, f)) options ++ cs)
      (map (λ (option : Option Expr). (option, g)) options ++ ds)
  same_options o [] f g h cs ds k = k
  same_options o (p ∷ options) f g h cs ds k = ((refl, h), same_options o options f g h cs ds k)

  -- the blocks of `default` are the same unless too deep
  default_deeper : (cs ds : List (Option Expr × Effect)) → ChoicesDeeper cs ds → OptionDeeper (default_block cs) (default_block ds)
  default_deeper [] [] h = tt
  default_deeper [] (d ∷ ds) h = absurd h
  default_deeper (c ∷ cs) [] h = absurd h
  default_deeper ((None, f) ∷ cs) ((None, g) ∷ ds) h = h.0.1
  default_deeper ((None, f) ∷ cs) ((Some e, g) ∷ ds) h = cc (h.0.0)
  default_deeper ((Some e, f) ∷ cs) ((None, g) ∷ ds) h = cc (h.0.0)
  default_deeper ((Some e, f) ∷ cs) ((Some d, g) ∷ ds) h = default_deeper cs ds h.1

  -- so is what is chosen without an equal option
  chosen_deeper : (o p : Option Effect) → OptionDeeper o p → AreDeeper (chosen_block None o) (chosen_block None p)
  chosen_deeper None None h s = inl refl
  chosen_deeper None (Some g) h s = absurd h
  chosen_deeper (Some f) None h s = absurd h
  chosen_deeper (Some f) (Some g) h s = h s

  -- so is what is chosen by the options
  found_deeper : (s : State) (at : ℕ) (x : Value) (cs ds : List (Option Expr × Effect)) → ChoicesDeeper cs ds → (o p : Option Effect)
      → OptionDeeper o p
      → Deeper (first_option s.scopes at x cs >>= λ found. chosen_block found o s)
      (first_option s.scopes at x ds >>= λ found. chosen_block found p s)
  found_deeper s at x [] [] h o p k = chosen_deeper o p k s
  found_deeper s at x [] (d ∷ ds) h o p k = absurd h
  found_deeper s at x (c ∷ cs) [] h o p k = absurd h
  found_deeper s at x (c ∷ cs) (d ∷ ds) h o p k =
      subst (λ (w : Option Expr). Deeper (first_option s.scopes at x (c ∷ cs) >>= λ found. chosen_block found o s)
      ((is_option s.scopes at x w >>= λ b. cond b (Ok (Some d.1)) (first_option s.scopes at x ds)) >>= λ found. chosen_block found p s))
      h.0.0 (tested (is_option s.scopes at x c.0) (found_deeper s at x cs ds h.1 o p k))
    where
      tested : (r : Result Bool Refusal) → Deeper (first_option s.scopes at x cs >>= λ found. chosen_block found o s)
          (first_option s.scopes at x ds >>= λ found. chosen_block found p s)
          → Deeper ((r >>= λ b. cond b (Ok (Some c.1)) (first_option s.scopes at x cs)) >>= λ found. chosen_block found o s)
          ((r >>= λ b. cond b (Ok (Some d.1)) (first_option s.scopes at x ds)) >>= λ found. chosen_block found p s)
      tested (Ok true) rest = h.0.1 s
      tested (Ok false) rest = rest
      tested (Err e) rest = inl refl

  -- so is a `case`
  selected_deeper : (e : Expr) (cs ds : List (Option Expr × Effect)) → ChoicesDeeper cs ds
      → AreDeeper (selected_block e cs) (selected_block e ds)
  selected_deeper e cs ds h s =
      on_deeper (value_of s.scopes e) _ _ (λ x. found_deeper s e.at x cs ds h (default_block cs) (default_block ds)
      (default_deeper cs ds h))

-- ---- every statement

-- so whatever may be open, if it is so of the bodies
abbrev AlwaysDeeper : Inner → Inner → Type 0
AlwaysDeeper f g = (bodies more : Bodies) → BodiesDeeper bodies more → AreDeeper (f bodies) (g more)

-- bodies that run alike do so one block further in
within_deeper : (bodies more : Bodies) → BodiesDeeper bodies more → BodiesDeeper (within bodies) (within more)
within_deeper bodies more deep k body =
    subst (λ n. MayDeeper (bodies.run n body) (more.run (more.left - 1 - k) body)) (one_less bodies.left k)
    (subst (λ n. MayDeeper (bodies.run (bodies.left - (k + 1)) body) (more.run n body)) (one_less more.left k) (deep (k + 1) body))
  where
    one_less : (n k : ℕ) → n - (k + 1) ≡ n - 1 - k
    one_less n k = omega arith

module _ (site : Site) where
  -- a statement of which it is known
  abbrev KnownStmt : Type 0
  KnownStmt = (x : Stmt) × AlwaysDeeper (effect_in site x) (effect_in site x)

  -- an arm of which it is known
  abbrev KnownArm : Type 0
  KnownArm = (a : Arm) × AlwaysDeeper (in_arm site a).1 (in_arm site a).1

  -- an arm of a `case` of which it is known
  abbrev KnownCaseArm : Type 0
  KnownCaseArm = (a : CaseArm) × AlwaysDeeper (in_case_arm site a).1 (in_case_arm site a).1

  -- a block is the same whatever may be open, unless too deep
  block_deeper : (xs : List KnownStmt) → AlwaysDeeper (block_by (map (effect_in site) (map (λ (x : KnownStmt). x.0) xs)))
      (block_by (map (effect_in site) (map (λ (x : KnownStmt). x.0) xs)))
  block_deeper [] bodies more deep s = inl refl
  block_deeper (x ∷ xs) bodies more deep s =
      then_deeper (effect_in site x.0 bodies s) (effect_in site x.0 more s) _ _ (x.1 bodies more deep s) (block_deeper xs bodies more deep)

  module _ (bodies more : Bodies) (deep : BodiesDeeper bodies more) where
    -- the arms of an `if` choose the same, unless too deep
    if_arms_deeper : (xs : List KnownArm) (other other' : Effect) → AreDeeper other other'
        → AreDeeper (first_true (map (arm_in bodies) (map (in_arm site) (map (λ (x : KnownArm). x.0) xs))) other)
        (first_true (map (arm_in more) (map (in_arm site) (map (λ (x : KnownArm). x.0) xs))) other')
    if_arms_deeper [] other other' h s = h s
    if_arms_deeper (x ∷ xs) other other' h s =
        on_deeper (test_of s.scopes (in_arm site x.0).0) _ _ (λ b.
        if_deeper b ((in_arm site x.0).1 bodies s) _ ((in_arm site x.0).1 more s) _ (x.1 bodies more deep s) (if_arms_deeper xs other other' h s))

    -- those of a `case` are the same, unless too deep
    choices_deeper : (xs : List KnownCaseArm)
        → ChoicesDeeper site bodies more deep (flat_map options_of (map (case_arm_in bodies) (map (in_case_arm site) (map (λ (x : KnownCaseArm). x.0) xs))))
        (flat_map options_of (map (case_arm_in more) (map (in_case_arm site) (map (λ (x : KnownCaseArm). x.0) xs))))
    choices_deeper [] = tt
    choices_deeper (x ∷ xs) =
        same_options site bodies more deep None (in_case_arm site x.0).0 ((in_case_arm site x.0).1 bodies) ((in_case_arm site x.0).1 more) (x.1 bodies more deep) _ _ (choices_deeper xs)

  -- the statement by itself, of which it is known what stands in it
  abbrev inner : Stmt-F KnownStmt KnownArm KnownCaseArm → Stmt-F Stmt Arm CaseArm
  inner y = map-Stmt KnownStmt KnownArm KnownCaseArm Stmt Arm CaseArm (λ x. x.0) (λ a. a.0) (λ c. c.0) y

  -- a statement is the same, unless too deep, where what stands in it is
  layer_deeper : (y : Stmt-F KnownStmt KnownArm KnownCaseArm) → AlwaysDeeper (layer_of site (inner y)) (layer_of site (inner y))
  layer_deeper (plain.Chain at operands arrows) bodies more deep = chained_deeper site bodies more deep at operands arrows
  layer_deeper (plain.Assign at name value) bodies more deep = λ s. inl refl
  layer_deeper (plain.Call at f args) bodies more deep = called_deeper site bodies more deep at f args
  layer_deeper (plain.If at arms other) bodies more deep =
      let further = within_deeper bodies more deep in
      if_arms_deeper (within bodies) (within more) further arms _ _ (block_deeper other (within bodies) (within more) further)
  layer_deeper (plain.Unless at test body other) bodies more deep =
      let further = within_deeper bodies more deep in
      unless_deeper site bodies more deep test _ _ _ _ (block_deeper body (within bodies) (within more) further) (block_deeper other (within bodies) (within more) further)
  layer_deeper (plain.Case at value arms) bodies more deep =
      let further = within_deeper bodies more deep in
      selected_deeper site (within bodies) (within more) further value _ _ (choices_deeper (within bodies) (within more) further arms)

  -- so of one statement with less open and with more
  abbrev AloneDeeper : Inner → Type 0
  AloneDeeper f = AlwaysDeeper f f

  -- each statement is the same whatever may be open, unless too deep
  effects_deeper : (x : Stmt) → AloneDeeper (effect_in site x)
  effects_deeper =
      ind-Stmt (λ x. AloneDeeper (effect_in site x)) (λ a. AloneDeeper (in_arm site a).1) (λ c. AloneDeeper (in_case_arm site c).1)
      (λ x y is. subst (λ (z : Stmt-F Stmt Arm CaseArm). AloneDeeper (effect_in site (roll-Stmt z))) is
      (subst (λ (f : Inner). AloneDeeper f) (sym (rolled site (inner y))) (layer_deeper y)))
      (λ x y is. subst (λ (z : Arm-F Stmt Arm CaseArm). AloneDeeper (in_arm site (roll-Arm z)).1) is
      (subst (λ (a : InnerArms). AloneDeeper a.1) (sym (rolled_arm site
      (map-Arm KnownStmt KnownArm KnownCaseArm Stmt Arm CaseArm (λ x. x.0) (λ a. a.0) (λ c. c.0) y)))
      (block_deeper y.body)))
      (λ x y is. subst (λ (z : CaseArm-F Stmt Arm CaseArm). AloneDeeper (in_case_arm site (roll-CaseArm z)).1) is
      (subst (λ (a : InnerCaseArms). AloneDeeper a.1) (sym
      (rolled_case_arm site (map-CaseArm KnownStmt KnownArm KnownCaseArm Stmt Arm CaseArm (λ x. x.0) (λ a. a.0) (λ c. c.0) y)))
      (block_deeper y.body)))

  -- a body for which there is room, or not, runs alike, unless too deep
  may_by : (n m left most depth : ℕ) → left ≤ most
      → ((j : ℕ) (body : List Stmt) → MayDeeper (runs_within n site (left - 1 - j) body) (runs_within m site (most - 1 - j) body))
      → (b : Bool) → nat_lt depth left ≡ b → (c : Bool) → nat_lt depth most ≡ c
      → MayDeeper (cond b (Some (effect_with site (record { left = left - 1; run = runs_within n site }))) None)
      (cond c (Some (effect_with site (record { left = most - 1; run = runs_within m site }))) None)
  may_by n m left most depth k f false is c fits = tt
  may_by n m left most depth k f true is false fits =
      let low = ltb-true depth left is in let high = ltb-false depth most fits in absurd (omega arith)
  may_by n m left most depth k f true is true fits =
      λ x. effects_deeper x (record { left = left - 1; run = runs_within n site }) (record { left = most - 1; run = runs_within m site }) f

  -- What runs with less room runs with more.
  run_deeper : (n m left most : ℕ) (body : List Stmt) → n ≤ m → left ≤ most → MayDeeper (runs_within n site left body) (runs_within m site most body)
  run_deeper zero m left most body h k = tt
  run_deeper (suc n) zero left most body h k = absurd (omega arith)
  run_deeper (suc n) (suc m) left most body h k =
      may_by n m left most (block_depth body) k (λ j inner_body. run_deeper n m (left - 1 - j) (most - 1 - j) inner_body (omega arith) (omega arith))
      (nat_lt (block_depth body) left) refl (nat_lt (block_depth body) most) refl

-- More room changes nothing but what was too deep.
pub more_room : (room more : Room) (site : Site) (x : Stmt) (s : State) → room.bodies ≤ more.bodies → room.levels ≤ more.levels → Deeper (effect_at room site x s) (effect_at more site x s)
more_room room more site x s h k =
    effects_deeper site x (bodies_at room site) (bodies_at more site) (λ j body. run_deeper site room.bodies more.bodies (room.levels - j) (more.levels - j) body h (omega arith)) s
