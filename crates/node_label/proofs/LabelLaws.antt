-- The blocks of a manifest, and which of them runs.
use Rattle.std.proofs.Common.{◌≡◌, inl, inr, ℕ, Bool, true, false, cond, List, [], ◌∷◌, ◌++◌, Option, Some, None, Result, Ok, Err, refl, sym, ap, ◌∙◌, subst, append-nil, append_assoc}
use Rattle.std.specs.Prelude.{◌||◌, is_none}
use Rattle.std.specs.Option.{option_or}
use Rattle.std.specs.List.{list_any}
use Rattle.rh_base.specs.declared.fault.Refusal.{Refusal}
use Rattle.pp_syntax.specs.declared.tree.Item.{Item}
use Rattle.pp_syntax.specs.declared.tree.Item.TheVariants as item
use Rattle.pp_syntax.specs.declared.tree.Manifest.{Manifest}
use Rattle.pp_value.specs.declared.value.Value.{Value}
use Rattle.pp_value.specs.Values.{Pair}
use Rattle.pp_value.specs.Texts.{same_text}
use Rattle.pp_eval.specs.Evaluating.{◌>>=◌, refusal}
use Rattle.pp_data.specs.declared.data.Level.{Level}
use Rattle.pp_data.specs.Lookup.{lookup}
use Rattle.catalog_semantics.specs.Sites.{Definition, Node, Site, is_same_node, stands_for, node_of, node_block, no_definitions, node_names, new_nodes, with_node, gathered_one, gathered, with_its_node, site_of}
use Rattle.node_label.specs.Labels.{HasName, IsNodeLine}
use Rattle.node_label.specs.Spelled.{spelled_among, spelled_in, has_default, line_by, line_of}

-- ---- the blocks of a manifest

-- the node block that an item is, if it is one
abbrev blocks_of : Item → List Node
blocks_of (item.Class at name params parent body) = []
blocks_of (item.Define at name params body) = []
blocks_of (item.Node at names body) = record { names = names; body = body } ∷ []
blocks_of (item.Defaults at kind attrs) = []
blocks_of (item.Plain s) = []

-- the node blocks among items
abbrev blocks_in : List Item → List Node
blocks_in [] = []
blocks_in (x ∷ items) = blocks_of x ++ blocks_in items

-- these blocks go behind those of the site, and the node's name stays
record Adds (blocks : List Node) (s t : Site) : Type 0 where
  nodes : t.nodes ≡ s.nodes ++ blocks
  name : t.node_name ≡ s.node_name

-- where two steps give something, the first did and the second went on from it
pub bound : {A B : Type 0} (r : Result A Refusal) (f : A → Result B Refusal) (b : B) → (r >>= f) ≡ Ok b → (a : A) × (r ≡ Ok a) × (f a ≡ Ok b)
bound (Ok a) f b h = (a, refl, h)
bound (Err e) f b h = cc

-- an item that is no node block adds none, where it isn't refused
adds_none : (test : Bool) (r : Refusal) (s u t : Site) → Adds [] s u → cond test (Err r) (Ok u) ≡ Ok t → Adds [] s t
adds_none true r s u t k h = cc
adds_none false r s u t k h = let same : u ≡ t = cc in subst (Adds [] s) same k

-- an item that is gathered adds the block that it is
adds_one : (find : List ℕ → Option Value) (x : Item) (s t : Site) → gathered_one find x s ≡ Ok t → Adds (blocks_of x) s t
adds_one find (item.Class at name params parent body) s t h = adds_none _ _ s _ t (record { nodes = sym (append-nil s.nodes); name = refl }) h
adds_one find (item.Define at name params body) s t h = adds_none _ _ s _ t (record { nodes = sym (append-nil s.nodes); name = refl }) h
adds_one find (item.Node at names body) s t h =
    let b = bound (new_nodes at (node_names s.nodes) names) (λ _. Ok (with_node names body s)) t h in
    let last : ◌≡◌ {A = Result Site Refusal} (Ok (with_node names body s)) (Ok t) = b.2 in
    let same : with_node names body s ≡ t = cc in
    subst (Adds (record { names = names; body = body } ∷ []) s) same (record { nodes = refl; name = refl })
adds_one find (item.Defaults at kind attrs) s t h = let same : s ≡ t = cc in subst (Adds [] s) same (record { nodes = sym (append-nil s.nodes); name = refl })
adds_one find (item.Plain x) s t h = let same : s ≡ t = cc in subst (Adds [] s) same (record { nodes = sym (append-nil s.nodes); name = refl })

-- items that are gathered add the blocks among them
adds_all : (find : List ℕ → Option Value) (items : List Item) (s t : Site) → gathered find items s ≡ Ok t → Adds (blocks_in items) s t
adds_all find [] s t h = let same : s ≡ t = cc in subst (Adds [] s) same (record { nodes = sym (append-nil s.nodes); name = refl })
adds_all find (x ∷ items) s t h =
    let b = bound (gathered_one find x s) (gathered find items) t h in
    let first = adds_one find x s b.0 b.1 in
    let rest = adds_all find items b.0 t b.2 in
    record { nodes = rest.nodes ∙ ap (λ ns. ns ++ blocks_in items) first.nodes ∙ append_assoc s.nodes (blocks_of x) (blocks_in items); name = rest.name ∙ first.name }

-- ---- whose name is spelled

-- one of the names is the node's, and this one is; or none is
abbrev Among : List ℕ → List (Option (List ℕ)) → Option (List ℕ) → Type 0
Among node names None = list_any (is_same_node (Some node)) names ≡ false
Among node names (Some name) = HasName names name × (same_text node name ≡ true) × (list_any (is_same_node (Some node)) names ≡ true)

-- a name in front that isn't the node's changes nothing of what is found
one_more : (node : List ℕ) (own : Option (List ℕ)) (names : List (Option (List ℕ))) (found : Option (List ℕ)) → is_same_node (Some node) own ≡ false
    → Among node names found → Among node (own ∷ names) found
one_more node own names None other h = ap (λ c. c || list_any (is_same_node (Some node)) names) other ∙ h
one_more node own names (Some name) other h = (inr h.0, h.1, ap (λ c. c || list_any (is_same_node (Some node)) names) other ∙ h.2)

-- the name in front is found where it is the node's, and else what is found behind it
this_one : (node own : List ℕ) (names : List (Option (List ℕ))) (b : Bool) → same_text node own ≡ b → Among node names (spelled_among node names)
    → Among node (Some own ∷ names) (cond b (Some own) (spelled_among node names))
this_one node own names true e h = (inl refl, e, ap (λ c. c || list_any (is_same_node (Some node)) names) e)
this_one node own names false e h = one_more node (Some own) names (spelled_among node names) e h

-- what is found among names is the node's name, as it is spelled there
among : (node : List ℕ) (names : List (Option (List ℕ))) → Among node names (spelled_among node names)
among node [] = refl
among node (None ∷ names) = one_more node None names (spelled_among node names) refl (among node names)
among node (Some own ∷ names) = this_one node own names (same_text node own) refl (among node names)

-- the first block of the node's name has it spelled so; or there is none
abbrev Runs : List ℕ → List Node → Option (List ℕ) → Type 0
Runs node blocks None = node_of (Some node) blocks ≡ None
Runs node blocks (Some name) = (b : Node) × (node_of (Some node) blocks ≡ Some b) × HasName b.names name × (same_text node name ≡ true)

-- a block in front that doesn't stand for the node's name changes nothing of what runs
later : (node : List ℕ) (b : Node) (blocks : List Node) (found : Option (List ℕ)) → stands_for (Some node) b ≡ false → Runs node blocks found → Runs node (b ∷ blocks) found
later node b blocks None other h = ap (λ c. cond c (Some b) (node_of (Some node) blocks)) other ∙ h
later node b blocks (Some name) other h = (h.0, ap (λ c. cond c (Some b) (node_of (Some node) blocks)) other ∙ h.1, h.2, h.3)

-- the block in front runs where a name of it is found, and else what runs behind it
this_block : (node : List ℕ) (b : Node) (blocks : List Node) (found more : Option (List ℕ)) → Among node b.names found → Runs node blocks more → Runs node (b ∷ blocks) (option_or found more)
this_block node b blocks None more h k = later node b blocks more h k
this_block node b blocks (Some name) more h k = (b, ap (λ c. cond c (Some b) (node_of (Some node) blocks)) h.2, h.0, h.1)

-- the first block of items whose name is found runs
runs_in : (node : List ℕ) (items : List Item) → Runs node (blocks_in items) (spelled_in node items)
runs_in node [] = refl
runs_in node (item.Class at name params parent body ∷ items) = runs_in node items
runs_in node (item.Define at name params body ∷ items) = runs_in node items
runs_in node (item.Node at names body ∷ items) =
    this_block node (record { names = names; body = body }) (blocks_in items) (spelled_among node names) (spelled_in node items) (among node names) (runs_in node items)
runs_in node (item.Defaults at kind attrs ∷ items) = runs_in node items
runs_in node (item.Plain s ∷ items) = runs_in node items

-- a block stands for `default`, or none does
abbrev ByDefault : List Node → Bool → Type 0
ByDefault blocks true = (b : Node) × (node_of None blocks ≡ Some b)
ByDefault blocks false = node_of None blocks ≡ None

-- a block in front that doesn't stand for `default` changes nothing of that
later_default : (b : Node) (blocks : List Node) (d : Bool) → stands_for None b ≡ false → ByDefault blocks d → ByDefault (b ∷ blocks) d
later_default b blocks true other h = (h.0, ap (λ c. cond c (Some b) (node_of None blocks)) other ∙ h.1)
later_default b blocks false other h = ap (λ c. cond c (Some b) (node_of None blocks)) other ∙ h

-- the block in front stands for `default`, or one behind it
this_default : (b : Node) (blocks : List Node) (c d : Bool) → stands_for None b ≡ c → ByDefault blocks d → ByDefault (b ∷ blocks) (c || d)
this_default b blocks true d e h = (b, ap (λ c. cond c (Some b) (node_of None blocks)) e)
this_default b blocks false d e h = later_default b blocks d e h

-- a block of items stands for `default` where one is told to
default_in : (items : List Item) → ByDefault (blocks_in items) (has_default items)
default_in [] = refl
default_in (item.Class at name params parent body ∷ items) = default_in items
default_in (item.Define at name params body ∷ items) = default_in items
default_in (item.Node at names body ∷ items) =
    this_default (record { names = names; body = body }) (blocks_in items) (list_any (is_same_node None) names) (has_default items) refl (default_in items)
default_in (item.Defaults at kind attrs ∷ items) = default_in items
default_in (item.Plain s ∷ items) = default_in items

-- ---- the line

-- where there are blocks, one of them is the node's
has_its_node : (s site : Site) → with_its_node s ≡ Ok site → (s ≡ site) × (node_block s ≡ None → s.nodes ≡ [])
has_its_node s site h = by s.classes s.defined_types s.nodes s.node_name h
  where
    block_by : (classes types : List Definition) (n : Node) (nodes : List Node) (name : List ℕ) (o : Option Node)
        → cond (is_none o) (Err (refusal 31 0 name)) (Ok (record { classes = classes; defined_types = types; nodes = n ∷ nodes; node_name = name })) ≡ Ok site
        → (record { classes = classes; defined_types = types; nodes = n ∷ nodes; node_name = name } ≡ site) × (o ≡ None → n ∷ nodes ≡ [])
    block_by classes types n nodes name None h = cc
    block_by classes types n nodes name (Some b) h = (cc, (λ e. cc))

    by : (classes types : List Definition) (nodes : List Node) (name : List ℕ) → with_its_node (record { classes = classes; defined_types = types; nodes = nodes; node_name = name }) ≡ Ok site
        → (record { classes = classes; defined_types = types; nodes = nodes; node_name = name } ≡ site) × (node_block (record { classes = classes; defined_types = types; nodes = nodes; node_name = name }) ≡ None → nodes ≡ [])
    by classes types [] name h = (cc, (λ e. refl))
    by classes types (n ∷ nodes) name h = block_by classes types n nodes name (node_block (record { classes = classes; defined_types = types; nodes = n ∷ nodes; node_name = name })) h

-- the first of two that is there is the one
block_is : (o p : Option Node) (b : Node) → o ≡ Some b → option_or o p ≡ Some b
block_is None p b h = cc
block_is (Some x) p b h = h

-- where the first is missing, it is the second
block_else : (o p : Option Node) (q : Option Node) → o ≡ None → p ≡ q → option_or o p ≡ q
block_else None p q h k = k
block_else (Some x) p q h k = cc

-- the line is that of the block that runs
line_for : (site : Site) (found : Option (List ℕ)) (d : Bool) → (node_block site ≡ None → site.nodes ≡ []) → Runs site.node_name site.nodes found → ByDefault site.nodes d → IsNodeLine site (line_by found d)
line_for site (Some name) d none h k =
    inl (name, record { block = h.0; runs = block_is (node_of (Some site.node_name) site.nodes) (node_of None site.nodes) h.0 h.1; spelled = h.2; same = h.3 }, refl)
line_for site None true none h k =
    inr (inl (record { block = k.0; none = h; default = k.1; runs = block_else (node_of (Some site.node_name) site.nodes) (node_of None site.nodes) (Some k.0) h k.1 }, refl))
line_for site None false none h k = inr (inr (none (block_else (node_of (Some site.node_name) site.nodes) (node_of None site.nodes) None h k), refl))

-- the line of a manifest's items is that of the block that runs on its site
pub line_is : (m : Manifest) (levels : List Level) (facts : List Pair) (node : List ℕ) (site : Site) → site_of m levels facts node ≡ Ok site → IsNodeLine site (line_of node m.items)
line_is m levels facts node site h =
    let b = bound (gathered (lookup levels facts) m.items (no_definitions node)) with_its_node site h in
    let its = has_its_node b.0 site b.2 in
    let adds = subst (Adds (blocks_in m.items) (no_definitions node)) its.0 (adds_all (lookup levels facts) m.items (no_definitions node) b.0 b.1) in
    let none : node_block site ≡ None → site.nodes ≡ [] = subst (λ (s : Site). node_block s ≡ None → s.nodes ≡ []) its.0 its.1 in
    let runs : Runs site.node_name site.nodes (spelled_in node m.items) =
    subst (λ (name : List ℕ). Runs name site.nodes (spelled_in node m.items)) (sym adds.name) (subst (λ (ns : List Node). Runs node ns (spelled_in node m.items)) (sym adds.nodes) (runs_in node m.items)) in
    line_for site (spelled_in node m.items) (has_default m.items) none runs (subst (λ (ns : List Node). ByDefault ns (has_default m.items)) (sym adds.nodes) (default_in m.items))
