-- A class and a defined type as they are gathered, once their parameters are known.
use Rattle.std.specs.Prelude.{ℕ, ◌||◌, if◌then◌else◌, List, [], ◌∷◌, ◌++◌, Option, None, Result, Ok, Err}
use Rattle.rh_base.specs.declared.fault.Refusal.{Refusal}
use Rattle.pp_syntax.specs.declared.tree.Stmt.{Stmt}
use Rattle.pp_eval.specs.References.{plain_name}
use Rattle.pp_eval.specs.Evaluating.{◌>>=◌}
use Rattle.catalog_semantics.specs.Sites.{Parameter, Site, is_taken, is_reserved, stands_twice, with_class, with_node, new_nodes, node_names}

-- one more class, unless its name is taken
abbrev pub class_gathered : ℕ → List ℕ → List Parameter → Option (List ℕ) → List Stmt → Site → Result Site Refusal
class_gathered at name parameters parent body site =
    if is_taken site (plain_name name) then Err (stands_twice at (plain_name name)) else Ok (with_class at name parameters parent body site)

abbrev pub with_type_of : ℕ → List ℕ → List Parameter → List Stmt → Site → Site
with_type_of at name parameters body site =
    record site {
      defined_types = site.defined_types
          ++ record { at = at; name = plain_name name; parameters = parameters; parent = None; body = body } ∷ [];
    }

-- one more defined type, unless its name is taken or reserved
abbrev pub type_gathered : ℕ → List ℕ → List Parameter → List Stmt → Site → Result Site Refusal
type_gathered at name parameters body site =
    if is_taken site (plain_name name) || is_reserved (plain_name name) then Err (stands_twice at (plain_name name))
    else Ok (with_type_of at name parameters body site)

-- one more node block, whose names must be new
abbrev pub node_gathered : ℕ → List (Option (List ℕ)) → List Stmt → Site → Result Site Refusal
node_gathered at names body site = do
  _ ← new_nodes at (node_names site.nodes) names
  Ok (with_node names body site)
