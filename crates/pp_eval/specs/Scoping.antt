-- The look-up of a variable in scopes, each an association list.
use Rattle.std.specs.Prelude.{◌≡◌, ℕ, zero, suc, ◌+◌, ◌-◌, ◌<◌, Bool, true, false, ◌&&◌, ◌||◌, ◌==◌, codes, take, is_none, unwrap_or, if◌then◌else◌, List, [], ◌∷◌, ◌++◌, length, slice_get, Option, Some, None, option_and_then, Result, Ok, Err}
use Rattle.std.specs.List.{list_all, AllByRecursion}
use Rattle.rh_base.specs.declared.fault.Refusal.{Refusal}
use Rattle.std.specs.Char.{is_ascii_lowercase, is_ascii_uppercase, is_ascii_digit}
use Rattle.pp_value.specs.declared.value.Value.{Value}
use Rattle.pp_value.specs.declared.value.Value.TheVariants as v
use Rattle.pp_value.specs.Values.{Pair, keyed, value_at}
use Rattle.pp_value.specs.Levels.{keyed_is}
use Rattle.pp_value.specs.Texts.{same_text}
use Rattle.pp_eval.specs.declared.scope.Scope.{Scope}
use Rattle.pp_eval.specs.declared.scope.Sort.{Sort}
use Rattle.pp_eval.specs.declared.scope.Sort.TheVariants as sort
use Rattle.pp_eval.specs.declared.scopes.BindFault.{BindFault}
use Rattle.pp_eval.specs.declared.scopes.BindFault.TheVariants as fault
use Rattle.pp_eval.specs.Inheriting.{ParentsStandBefore}
use Rattle.pp_eval.specs.Names.{variable_in, scope_in, is_qualified}
use Rattle.pp_eval.specs.Evaluating.{bound_again}

-- all scopes, the top first, and the places of the open ones, the current one last
abbrev pub Scoped : Type 0
Scoped = List Scope × List ℕ

-- ---- what all scopes are

-- the first scope is the top
abbrev pub HasTop : List Scope → Type 0
HasTop [] = ⊥
HasTop (s ∷ scopes) = s.sort ≡ sort.Top

-- the first place is that of the top
abbrev pub BeginsWithTop : List ℕ → Type 0
BeginsWithTop [] = ⊥
BeginsWithTop (place ∷ places) = place ≡ 0

-- The first scope is the top, the first open one is that, the open ones are among all, and a parent stands before the classes that inherit it.
pub record AreScopes (scopes : List Scope) (open_ones : List ℕ) : Type 0 where
  pub top : HasTop scopes
  pub begins : BeginsWithTop open_ones
  pub below : AllByRecursion (λ place. place < length scopes) open_ones
  pub parents : ParentsStandBefore scopes

-- ---- looking up

-- the first of two that is there
abbrev pub or_else : Option Value → Option Value → Option Value
or_else None y = y
or_else (Some x) y = Some x

abbrev pub in_scope : List ℕ → Option Scope → Option Value
in_scope name None = None
in_scope name (Some scope) = value_at name scope.bindings

-- In a scope, then in those of the inherited classes from the nearest, which were entered before it; at most n of them.
abbrev pub in_class : ℕ → List Scope → List ℕ → Option Scope → Option Value
in_class zero scopes name scope = None
in_class (suc n) scopes name None = None
in_class (suc n) scopes name (Some scope) = or_else (value_at name scope.bindings)
    (in_class n scopes name (option_and_then (slice_get scopes) scope.parent))

-- there are no more inherited classes than scopes
abbrev pub in_lineage : List Scope → List ℕ → Option Scope → Option Value
in_lineage scopes name scope = in_class (length scopes) scopes name scope

-- the scope of a class, ASCII case aside
abbrev pub is_class_of : List ℕ → Sort → Bool
is_class_of name sort.Top = false
is_class_of name sort.Node = false
is_class_of name (sort.Class class) = same_text class name
is_class_of name sort.Defined = false

abbrev pub class_of : List Scope → List ℕ → Option Scope
class_of [] name = None
class_of (c ∷ scopes) name = if is_class_of name c.sort then Some c else class_of scopes name

-- the current scope's place, and the current scope
abbrev pub current_place : List ℕ → Option ℕ
current_place open_ones = slice_get open_ones (length open_ones - 1)

abbrev pub current_scope : Scoped → Option Scope
current_scope s = option_and_then (slice_get s.0) (current_place s.1)

-- the node's scope, which is the second one that was opened, if a node's was
abbrev pub if_node : Option Scope → Sort → Option Scope
if_node scope sort.Node = scope
if_node scope sort.Top = None
if_node scope (sort.Class class) = None
if_node scope sort.Defined = None

abbrev pub node_in : Option Scope → Option Scope
node_in None = None
node_in (Some scope) = if_node (Some scope) scope.sort

abbrev pub node_scope : Scoped → Option Scope
node_scope s = node_in (option_and_then (slice_get s.0) (slice_get s.1 1))

abbrev pub top_scope : Scoped → Option Scope
top_scope s = slice_get s.0 0

-- `$x`: in the current scope, in those of the inherited classes, in the node's, at the top
abbrev pub find_plain : Scoped → List ℕ → Option Value
find_plain s name = or_else (in_lineage s.0 name (current_scope s)) (or_else (in_scope name (node_scope s)) (in_scope name (top_scope s)))

abbrev pub is_top : List ℕ → Bool
is_top [] = true
is_top (c ∷ name) = false

-- `$::x`: at the top alone; `$a::b`: `b` in the scope of the class `a`, or else in those of its inherited classes
abbrev pub find_qualified : Scoped → List ℕ → List ℕ → Option Value
find_qualified s class name = if is_top class then in_scope name (top_scope s) else in_lineage s.0 name (class_of s.0 class)

-- the value of a variable, named without `$`
abbrev pub find_in : Scoped → List ℕ → Option Value
find_in s name = if is_qualified name then find_qualified s (scope_in name) (variable_in name) else find_plain s name

-- ---- binding

-- Binding a name in one scope: it is new there and goes into its list, or it stands there and nothing changes; nor does it without memory.
abbrev pub Binds : List Pair → List ℕ → Value → List Pair → Result (Unit {0}) BindFault → Type 0
Binds old name x new (Ok done) = (value_at name old ≡ None) × (new ≡ old ++ (name, x) ∷ [])
Binds old name x new (Err fault.Again) = ((value_at name old ≡ None) → ⊥) × (new ≡ old)
Binds old name x new (Err (fault.Memory m)) = (value_at name old ≡ None) × (new ≡ old)

-- the scopes with other bindings in the one at a place
abbrev pub with_bindings_at : ℕ → List Pair → List Scope → List Scope
with_bindings_at place bindings [] = []
with_bindings_at zero bindings (s ∷ scopes) = record { sort = s.sort; parent = s.parent; bindings = bindings } ∷ scopes
with_bindings_at (suc place) bindings (s ∷ scopes) = s ∷ with_bindings_at place bindings scopes

abbrev pub bindings_at : ℕ → List Scope → List Pair
bindings_at place [] = []
bindings_at zero (s ∷ scopes) = s.bindings
bindings_at (suc place) (s ∷ scopes) = bindings_at place scopes

-- binding in the scope at a place, where the others stay
abbrev pub BindsAt : ℕ → List Scope → List ℕ → Value → List Scope → Result (Unit {0}) BindFault → Type 0
BindsAt place old name x new (Ok done) = (value_at name (bindings_at place old) ≡ None)
    × (new ≡ with_bindings_at place (bindings_at place old ++ (name, x) ∷ []) old)
BindsAt place old name x new (Err fault.Again) = ((value_at name (bindings_at place old) ≡ None) → ⊥) × (new ≡ old)
BindsAt place old name x new (Err (fault.Memory m)) = (value_at name (bindings_at place old) ≡ None) × (new ≡ old)

abbrev pub place_now : List ℕ → ℕ
place_now open_ones = unwrap_or (current_place open_ones) 0

-- what is bound in the current scope
abbrev pub bindings_now : Scoped → List Pair
bindings_now s = bindings_at (place_now s.1) s.0

-- one more binding in the current scope
abbrev pub with_binding : List ℕ → Value → Scoped → Scoped
with_binding name x s = (with_bindings_at (place_now s.1) (bindings_now s ++ (name, x) ∷ []) s.0, s.1)

-- Binding in the current scope: one more binding where the name has none there, and else none; without memory all stays as it is.
abbrev pub BindsNow : Scoped → List ℕ → Value → Scoped → Result (Unit {0}) BindFault → Type 0
BindsNow old name x new (Ok done) = (value_at name (bindings_now old) ≡ None) × (new ≡ with_binding name x old)
BindsNow old name x new (Err fault.Again) = ((value_at name (bindings_now old) ≡ None) → ⊥) × (new ≡ old)
BindsNow old name x new (Err (fault.Memory m)) = (value_at name (bindings_now old) ≡ None) × (new ≡ old)

-- the same as an evaluation, where the name stands at a place
abbrev pub bound : ℕ → List ℕ → Value → Scoped → Result Scoped Refusal
bound at name x s = if is_none (value_at name (bindings_now s)) then Ok (with_binding name x s) else Err (bound_again at name)

-- ---- entering and leaving

-- one more scope, which is the current one
abbrev pub entered : Scoped → Scope → Scoped
entered s scope = (s.0 ++ scope ∷ [], s.1 ++ length s.0 ∷ [])

-- the scope that was current before is current again
abbrev pub left : Scoped → Scoped
left s = (s.0, take (length s.1 - 1) s.1)

-- the place of a class's scope, where those given are counted from n on
abbrev pub class_place : ℕ → List Scope → List ℕ → Option ℕ
class_place n [] name = None
class_place n (c ∷ scopes) name = if is_class_of name c.sort then Some n else class_place (n + 1) scopes name

-- the scope of a class, which inherits its parent's, if that has one
abbrev pub class_scope : List Scope → List ℕ → Option (List ℕ) → Scope
class_scope scopes name parent = record { sort = sort.Class name; parent = option_and_then (class_place 0 scopes) parent; bindings = [] }

abbrev pub defined_scope : Scope
defined_scope = record { sort = sort.Defined; parent = None; bindings = [] }

abbrev pub node_scope_new : Scope
node_scope_new = record { sort = sort.Node; parent = None; bindings = [] }

-- the scope of a class or of a defined resource
abbrev pub IsInnerSort : Sort → Type 0
IsInnerSort sort.Top = ⊥
IsInnerSort sort.Node = ⊥
IsInnerSort (sort.Class class) = Unit {0}
IsInnerSort sort.Defined = Unit {0}

-- there is such a scope
abbrev pub IsInner : Option Scope → Type 0
IsInner None = ⊥
IsInner (Some scope) = IsInnerSort scope.sort

-- ---- the top

abbrev pub is_name_byte : ℕ → Bool
is_name_byte c = is_ascii_lowercase c || is_ascii_uppercase c || is_ascii_digit c || c == 95

-- the name of a variable without `::`
abbrev pub is_variable : List ℕ → Bool
is_variable [] = false
is_variable (c ∷ name) = (is_ascii_lowercase c || c == 95) && list_all is_name_byte name

-- the bindings, and those of the pairs whose keys are names of variables; a name that stands already stays as it is
abbrev pub with_facts : List Pair → List Pair → List Pair
with_facts bindings [] = bindings
with_facts bindings (p ∷ pairs) = if is_variable p.0 && is_none (value_at p.0 bindings) then with_facts
    (bindings ++ p ∷ []) pairs else with_facts bindings pairs

-- the pairs of a map, and none of any other value
abbrev pub pairs_in : Value → List Pair
pairs_in (v.Map' keys row) = keyed keys row
pairs_in _ = []

pub pairs_in_map : (pairs : List Pair) → pairs_in (v.Map pairs) ≡ pairs
pairs_in_map pairs = keyed_is pairs

-- the top begins with `facts`, the whole map, and a binding for each fact
abbrev pub top_of : Value → List Pair
top_of facts = with_facts ((codes "facts", facts) ∷ []) (pairs_in facts)

-- the top alone, with the facts in it
abbrev pub at_start : Value → Scoped
at_start facts = (record { sort = sort.Top; parent = None; bindings = top_of facts } ∷ [], 0 ∷ [])
