-- What a manifest defines: its classes, defined types and nodes, and the parameters that class data give.
use Rattle.std.specs.Prelude.{ℕ, suc, zero, ◌+◌, Bool, true, false, ◌||◌, not, nat_lt, if◌then◌else◌, List, [], ◌∷◌, ◌++◌, map, length}
use Rattle.std.specs.Prelude.{is_none, codes, Option, Some, None, option_map, option_and_then, Result, Ok, Err}
use Rattle.std.specs.Option.{option_or}
use Rattle.std.specs.List.{list_any, IsDistinct}
use Rattle.std.specs.Str.{bytes_eq}
use Rattle.rh_base.specs.declared.fault.Refusal.{Refusal}
use Rattle.pp_syntax.specs.declared.tree.Expr.{Expr}
use Rattle.pp_syntax.specs.declared.tree.Stmt.{Stmt}
use Rattle.pp_syntax.specs.declared.tree.TypeName.{TypeName}
use Rattle.pp_syntax.specs.declared.tree.Param.{Param}
use Rattle.pp_syntax.specs.declared.tree.Item.{Item}
use Rattle.pp_syntax.specs.declared.tree.Item.TheVariants as item
use Rattle.pp_syntax.specs.declared.tree.Manifest.{Manifest}
use Rattle.pp_value.specs.declared.value.Value.{Value}
use Rattle.pp_value.specs.Values.{Pair}
use Rattle.pp_value.specs.Texts.{same_text}
use Rattle.pp_eval.specs.References.{plain_name}
use Rattle.pp_eval.specs.Evaluating.{◌>>=◌, refusal}
use Rattle.pp_data.specs.declared.data.Level.{Level}
use Rattle.pp_data.specs.Lookup.{key_of, lookup}

-- a parameter of a class or of a defined type; class data may have a value for a class's
pub record Parameter : Type 0 where
  pub name : List ℕ
  pub kind : Option TypeName
  pub default : Option Expr
  pub from_data : Option Value

-- a class or a defined type; names are lowered and lose a leading `::`
pub record Definition : Type 0 where
  pub at : ℕ
  pub name : List ℕ
  pub parameters : List Parameter
  pub parent : Option (List ℕ)
  pub body : List Stmt

-- a node block; `default` has no name
pub record Node : Type 0 where
  pub names : List (Option (List ℕ))
  pub body : List Stmt

-- what holds while the manifest is gone through
pub record Site : Type 0 where
  pub classes : List Definition
  pub defined_types : List Definition
  pub nodes : List Node
  pub node_name : List ℕ

abbrev pub no_definitions : List ℕ → Site
no_definitions node_name = record { classes = []; defined_types = []; nodes = []; node_name = node_name }

-- ---- looking up

-- the definition of a name
abbrev pub definition_of : List ℕ → List Definition → Option Definition
definition_of name [] = None
definition_of name (d ∷ definitions) = if bytes_eq d.name name then Some d else definition_of name definitions

abbrev pub is_defined : List ℕ → List Definition → Bool
is_defined name definitions = not (is_none (definition_of name definitions))

-- the types that no manifest defines
abbrev pub built_in_types : List (List ℕ)
built_in_types =
    codes "exec" ∷ codes "file" ∷ codes "package" ∷ codes "user" ∷ codes "group" ∷ codes "service" ∷ codes "cron" ∷ codes
    "ssh_authorized_key" ∷ []

abbrev pub is_built_in : List ℕ → Bool
is_built_in name = list_any (bytes_eq name) built_in_types

-- The name of a built-in type is none of a defined one, nor is `class`, whose resources would be mistaken for classes.
abbrev pub is_reserved : List ℕ → Bool
is_reserved name = is_built_in name || bytes_eq name (codes "class")

-- a type of which resources are declared
abbrev pub is_type : Site → List ℕ → Bool
is_type site name = is_built_in name || is_defined name site.defined_types

-- ---- nodes

-- equal, ASCII case aside; `default` is equal to `default` alone
abbrev pub is_same_node : Option (List ℕ) → Option (List ℕ) → Bool
is_same_node None None = true
is_same_node None (Some name) = false
is_same_node (Some name) None = false
is_same_node (Some a) (Some b) = same_text a b

abbrev pub stands_for : Option (List ℕ) → Node → Bool
stands_for name node = list_any (is_same_node name) node.names

-- the first block that stands for a name
abbrev pub node_of : Option (List ℕ) → List Node → Option Node
node_of name [] = None
node_of name (n ∷ nodes) = if stands_for name n then Some n else node_of name nodes

-- the block of the node's name, or else that of `default`
abbrev pub node_block : Site → Option Node
node_block site = option_or (node_of (Some site.node_name) site.nodes) (node_of None site.nodes)

-- ---- gathering

abbrev pub stands_twice : ℕ → List ℕ → Refusal
stands_twice at name = refusal 24 at name

abbrev pub node_label : Option (List ℕ) → List ℕ
node_label None = codes "default"
node_label (Some name) = name

-- a class or a defined type whose name an earlier one has
abbrev pub is_taken : Site → List ℕ → Bool
is_taken site name = is_defined name site.classes || is_defined name site.defined_types

-- each name of a node block is new, in the block too
abbrev pub new_nodes : ℕ → List (Option (List ℕ)) → List (Option (List ℕ)) → Result (List (Option (List ℕ))) Refusal
new_nodes at before [] = Ok before
new_nodes at before (name ∷ names) =
    if list_any (is_same_node name) before then Err (stands_twice at (node_label name)) else new_nodes at (before ++ name ∷ []) names

abbrev pub node_names : List Node → List (Option (List ℕ))
node_names [] = []
node_names (n ∷ nodes) = n.names ++ node_names nodes

-- the value that class data give the parameter of a class
abbrev pub class_parameter : (List ℕ → Option Value) → List ℕ → Param → Parameter
class_parameter find class p = record { name = p.name; kind = p.kind; default = p.default; from_data = find (key_of class p.name) }

abbrev pub type_parameter : Param → Parameter
type_parameter p = record { name = p.name; kind = p.kind; default = p.default; from_data = None }

abbrev pub with_class : ℕ → List ℕ → List Parameter → Option (List ℕ) → List Stmt → Site → Site
with_class at name parameters parent body site =
    record site {
      classes = site.classes ++ record
          { at = at; name = plain_name name; parameters = parameters; parent = option_map plain_name parent; body = body } ∷ [];
    }

abbrev pub with_type : ℕ → List ℕ → List Param → List Stmt → Site → Site
with_type at name params body site =
    record site {
      defined_types = site.defined_types
          ++ record { at = at; name = plain_name name; parameters = map type_parameter params; parent = None; body = body } ∷ [];
    }

abbrev pub with_node : List (Option (List ℕ)) → List Stmt → Site → Site
with_node names body site = record site { nodes = site.nodes ++ record { names = names; body = body } ∷ [] }

-- one item of a manifest; statements and defaults define nothing
abbrev pub gathered_one : (List ℕ → Option Value) → Item → Site → Result Site Refusal
gathered_one find (item.Class at name params parent body) site =
    if is_taken site (plain_name name) then Err (stands_twice at (plain_name name)) else Ok
    (with_class at name (map (class_parameter find name) params) parent body site)
gathered_one find (item.Define at name params body) site =
    if is_taken site (plain_name name) || is_reserved (plain_name name) then Err (stands_twice at (plain_name name)) else Ok
    (with_type at name params body site)
gathered_one find (item.Node at names body) site = do
  _ ← new_nodes at (node_names site.nodes) names
  Ok (with_node names body site)
gathered_one find (item.Defaults at kind attrs) site = Ok site
gathered_one find (item.Plain s) site = Ok site

-- items one after the other
abbrev pub gathered : (List ℕ → Option Value) → List Item → Site → Result Site Refusal
gathered find [] site = Ok site
gathered find (x ∷ items) site = do
  more ← gathered_one find x site
  gathered find items more

-- where there are node blocks, one of them is the node's
abbrev pub with_its_node : Site → Result Site Refusal
with_its_node site = if is_none (node_block site) then no_node site site.nodes else Ok site
  where
    no_node : Site → List Node → Result Site Refusal
    no_node site [] = Ok site
    no_node site (n ∷ nodes) = Err (refusal 31 0 site.node_name)

-- what the items define, under the look-up in class data
abbrev pub defines : (List ℕ → Option Value) → List Item → List ℕ → Result Site Refusal
defines find items node_name = do
  site ← gathered find items (no_definitions node_name)
  with_its_node site

-- what a manifest defines, for a node, under class data and facts
abbrev pub site_of : Manifest → List Level → List Pair → List ℕ → Result Site Refusal
site_of manifest data_levels facts node_name = defines (lookup data_levels facts) manifest.items node_name

-- ---- inheriting

-- a class, its parent, the parent's parent and so on, as far as they are classes, and at most n of them
abbrev pub line_of : ℕ → List Definition → Option Definition → List Definition
line_of zero classes d = []
line_of (suc n) classes None = []
line_of (suc n) classes (Some d) = d ∷ line_of n classes (option_and_then (λ parent. definition_of parent classes) d.parent)

-- The chain of parents meets a class twice: it has more members than there are classes.
abbrev pub inherits_itself : List Definition → Definition → Bool
inherits_itself classes d = nat_lt (length classes) (length (line_of (length classes + 1) classes (Some d)))

-- the same as it is said of the chain: of some first members of it two have one name
abbrev pub MeetsTwice : List Definition → Definition → Type 0
MeetsTwice classes d = (n : ℕ) × (IsDistinct bytes_eq (map (λ e. e.name) (line_of n classes (Some d))) → ⊥)
