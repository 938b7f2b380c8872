-- The line on the node block that runs.
use Rattle.std.specs.Prelude.{◌≡◌, ◌⊎◌, ℕ, List, [], ◌∷◌, ◌++◌, IsTrue, Option, Some, None, Ok, codes}
use Rattle.printed_names.specs.Printed.{printed}
use Rattle.pp_syntax.specs.declared.tree.Manifest.{Manifest}
use Rattle.pp_value.specs.Values.{Pair}
use Rattle.pp_value.specs.Texts.{same_text}
use Rattle.pp_data.specs.declared.data.Level.{Level}
use Rattle.catalog_semantics.specs.Sites.{Node, Site, node_of, node_block, site_of}
use Rattle.pp_compile.specs.Sources.{IsParsed}

-- the names have this one, spelled so
abbrev pub HasName : List (Option (List ℕ)) → List ℕ → Type 0
HasName [] name = ⊥
HasName (own ∷ names) name = (own ≡ Some name) ⊎ HasName names name

-- The block that runs has this name, as it is spelled there, and it is the node's, ASCII case aside.
pub record RunsAs (site : Site) (name : List ℕ) : Type 0 where
  pub block : Node
  pub runs : node_block site ≡ Some block
  pub spelled : HasName block.names name
  pub same : IsTrue (same_text site.node_name name)

-- No block has the node's name, and that of `default` runs.
pub record RunsDefault (site : Site) : Type 0 where
  pub block : Node
  pub none : node_of (Some site.node_name) site.nodes ≡ None
  pub default : node_of None site.nodes ≡ Some block
  pub runs : node_block site ≡ Some block

-- the lines of these
abbrev pub named_line : List ℕ → List ℕ
named_line name = codes "node " ++ (printed name ++ codes "\n")

abbrev pub default_line : List ℕ
default_line = codes "node default\n"

-- Where there are node blocks, the line has the name of the one that runs, as it is spelled and printed, or `default`; else there
-- is none.
abbrev pub IsNodeLine : Site → List ℕ → Type 0
IsNodeLine site line =
    ((name : List ℕ) × RunsAs site name × (line ≡ named_line name))
    ⊎ ((RunsDefault site × (line ≡ default_line)) ⊎ ((site.nodes ≡ []) × (line ≡ [])))

-- This is the line for the node of this name of the manifest that a text spells, whatever class data and facts it is run under.
pub record IsNodeLineOf (text node_name line : List ℕ) : Type 0 where
  pub manifest : Manifest
  pub parsed : IsParsed text manifest
  pub is : (data_levels : List Level) (facts : List Pair) (site : Site)
      → site_of manifest data_levels facts node_name ≡ Ok site → IsNodeLine site line
