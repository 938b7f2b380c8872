-- Words within the crate.
use Rattle.std.specs.Prelude.{ℕ, Bool, true, false, ◌||◌, if◌then◌else◌, List, [], ◌∷◌, Option, Some, None}
use Rattle.std.specs.Option.{option_or}
use Rattle.std.specs.List.{list_any}
use Rattle.pp_syntax.specs.declared.tree.Item.{Item}
use Rattle.pp_syntax.specs.declared.tree.Item.TheVariants as item
use Rattle.pp_value.specs.Texts.{same_text}
use Rattle.catalog_semantics.specs.Sites.{is_same_node}
use Rattle.node_label.specs.Labels.{named_line, default_line}

-- the names of a node block
abbrev pub names_of : Item → List (Option (List ℕ))
names_of (item.Class at name params parent body) = []
names_of (item.Define at name params body) = []
names_of (item.Node at names body) = names
names_of (item.Defaults at kind attrs) = []
names_of (item.Plain s) = []

-- the first of the names that is the node's
abbrev pub spelled_among : List ℕ → List (Option (List ℕ)) → Option (List ℕ)
spelled_among node [] = None
spelled_among node (None ∷ names) = spelled_among node names
spelled_among node (Some name ∷ names) = if same_text node name then Some name else spelled_among node names

abbrev pub spelled_in : List ℕ → List Item → Option (List ℕ)
spelled_in node [] = None
spelled_in node (x ∷ items) = option_or (spelled_among node (names_of x)) (spelled_in node items)

-- whether a block is that of `default`
abbrev pub has_default : List Item → Bool
has_default [] = false
has_default (x ∷ items) = list_any (is_same_node None) (names_of x) || has_default items

abbrev pub line_by : Option (List ℕ) → Bool → List ℕ
line_by (Some name) default = named_line name
line_by None true = default_line
line_by None false = []

abbrev pub line_of : List ℕ → List Item → List ℕ
line_of node items = line_by (spelled_in node items) (has_default items)
