-- The stages from the files of a request to programs in a graph, and which refusal comes first.
use Rattle.std.specs.Prelude.{◌≡◌, ◌<◌, ℕ, List, [], length, map, Option, Some, None, Ok, Err, Result}
use Rattle.std.specs.List.{AllByRecursion}
use Rattle.rh_base.specs.declared.fault.Refusal.{Refusal}
use Rattle.orders.specs.Relation.{Comes, IsStrictOrder}
use Rattle.fs_semantics.specs.FileTree.{Path}
use Rattle.fs_semantics.specs.Programs.{Program}
use Rattle.host_limits.specs.declared.limits.Limits.{Limits}
use Rattle.given_links.specs.declared.links.GivenLink.{GivenLink}
use Rattle.given_links.specs.Reading.{program_read_as}
use Rattle.catalog_semantics.specs.Catalogs.{Catalog}
use Rattle.pp_compile.specs.Sources.{IsCatalogOf, IsCatalogRefusal}
use Rattle.graph_semantics.specs.Graphs.{IsGraphOf, IsGraphRefusal}
use Rattle.dep_graph.specs.declared.answer.Graph.{Graph}
use Rattle.model_semantics.specs.Models.{programs}
use Rattle.res_models.specs.Seen.{resources_at}
use Rattle.known_inputs.specs.declared.inputs.Inputs.{Inputs}
use Rattle.known_inputs.specs.declared.inputs.Known.{Known}
use Rattle.compiled_text.specs.Compiled.{Compiled}
use Rattle.compiled_catalog.specs.Catalogs.{catalog_of}
use Rattle.compiled_models.specs.Programs.{Setting, natives_at, programs as native_programs}
use Rattle.command_line.specs.declared.table.Role.TheVariants as role
use Rattle.known_inputs.specs.Inputs.{bytes_of, input_of, IsCompiledOf, IsKnown, FirstUnread}

-- the name of the node; it is empty where none is given
abbrev pub node_name : Option (List ℕ) → List ℕ
node_name None = []
node_name (Some name) = name

-- ---- what is asked about: a manifest, or a catalog that Puppet compiled

-- The manifest of this text has this catalog, at a node of this name and under what the files beside it say; or the compiled catalog has it.
abbrev pub HasCatalog : List ℕ → List ℕ → Limits → Known → Option Compiled → Catalog → Type 0
HasCatalog text node limits k None c = IsCatalogOf text k.facts node k.class_data limits (Ok c)
HasCatalog text node limits k (Some m) c = catalog_of m limits ≡ Ok c

-- it has none, and this is the refusal
abbrev pub HasNoCatalog : List ℕ → List ℕ → Limits → Known → Option Compiled → Refusal → Type 0
HasNoCatalog text node limits k None r = IsCatalogRefusal text k.facts node k.class_data limits r
HasNoCatalog text node limits k (Some m) r = catalog_of m limits ≡ Err r

-- ---- what each stage gives

-- The files say this, and with it the manifest or the compiled catalog has this catalog.
pub record IsCompiled (i : Inputs) (k : Known) (m : Option Compiled) (c : Catalog) : Type 0 where
  pub known : IsKnown i k
  pub source : IsCompiledOf (bytes_of role.Compiled i) m
  pub catalog : HasCatalog (input_of i) (node_name i.node) i.limits k m c

-- The catalog has this graph: its real plain resources, and which of them comes before which.
pub record IsPlanned (i : Inputs) (k : Known) (m : Option Compiled) (c : Catalog) (g : Graph) : Type 0 where
  pub compiled : IsCompiled i k m c
  pub graph : IsGraphOf c g.plain (Comes g.order)
  pub count : g.order.count ≡ length g.plain
  pub strict : IsStrictOrder g.order

-- the paths of the given links, at which no file may be managed
abbrev pub barred_in : Known → List Path
barred_in k = map (λ l. l.path) k.given.links

-- programs, each read through these links
abbrev pub read_through : List GivenLink → Result (List Program) Refusal → Result (List Program) Refusal
read_through links (Ok es) = Ok (map (program_read_as links) es)
read_through links (Err r) = Err r

-- what stands beside the resources of a compiled catalog: what is assumed of them, the listing, and the given links
abbrev pub setting_of : Known → Compiled → Setting
setting_of k m = record { resources = m.resources; assumptions = k.assumed; listing = k.listing; links = k.given.links }

-- what the real plain resources at these places do, one after another, read through the given links; or the first refusal
abbrev pub programs_in : Known → Option Compiled → Catalog → List ℕ → Result (List Program) Refusal
programs_in k None c plain = read_through k.given.links (programs (barred_in k) k.listing (resources_at c.resources plain))
programs_in k (Some m) c plain = native_programs (setting_of k m) (natives_at m.resources c.resources plain)

-- the text of a compiled catalog has a resource at each of these places
abbrev pub AreTold : Option Compiled → List ℕ → Type 0
AreTold None plain = Unit {0}
AreTold (Some m) plain = AllByRecursion (λ k. k < length m.resources) plain

-- These are the programs of the real plain resources, read through the given links.
pub record IsModelled (i : Inputs) (k : Known) (m : Option Compiled) (c : Catalog) (g : Graph) (es : List Program) : Type 0 where
  pub planned : IsPlanned i k m c g
  pub programs : programs_in k m c g.plain ≡ Ok es

-- a fact of each request whose input is this text and whose compiled catalog is this, whose node has this name, which has these limits,
-- and whose files say this
abbrev pub ForSource : Option Compiled → List ℕ → List ℕ → Limits → Known → (Inputs → Type 0) → Type 0
ForSource m text name limits k P =
    (i : Inputs) → text ≡ input_of i → IsCompiledOf (bytes_of role.Compiled i) m → name ≡ node_name i.node
    → limits ≡ i.limits → IsKnown i k → P i

-- The programs are those of the graph's resources, in their order, and these are resources of the catalog.
pub record IsInOrder (c : Catalog) (g : Graph) (es : List Program) : Type 0 where
  pub count : length es ≡ g.order.count
  pub many : g.order.count ≡ length g.plain
  pub places : AllByRecursion (λ k. k < length c.resources) g.plain

-- ---- which refusal comes first

-- that of the files but the manifest, and then that of the manifest or of the compiled catalog
pub data CatalogRefusal (i : Inputs) (r : Refusal) : Type 0 where
  unread : FirstUnread i r → CatalogRefusal i r
  uncompiled : (k : Known) (m : Option Compiled) → IsKnown i k → IsCompiledOf (bytes_of role.Compiled i) m
      → HasNoCatalog (input_of i) (node_name i.node) i.limits k m r → CatalogRefusal i r

-- then that of the graph
pub data GraphRefusal (i : Inputs) (r : Refusal) : Type 0 where
  before_graph : CatalogRefusal i r → GraphRefusal i r
  in_graph : (k : Known) (m : Option Compiled) (c : Catalog) → IsCompiled i k m c → IsGraphRefusal c r → GraphRefusal i r

-- and then that of the first resource without a program
pub data ProgramsRefusal (i : Inputs) (r : Refusal) : Type 0 where
  before_programs : GraphRefusal i r → ProgramsRefusal i r
  in_programs : (k : Known) (m : Option Compiled) (c : Catalog) (g : Graph) → IsPlanned i k m c g
      → programs_in k m c g.plain ≡ Err r → ProgramsRefusal i r
