-- What refuses a stage refuses those above it.
use Rattle.std.proofs.Common.{◌≡◌, ◌<◌, ℕ, length, List, Option, Result, Ok, Err, refl, subst, subst₂, ◌∙◌}
use Rattle.std.specs.Prelude.{IfOk, IfErr}
use Rattle.std.specs.List.{AllByRecursion}
use Rattle.rh_base.specs.declared.fault.Fault.{Fault}
use Rattle.rh_base.specs.declared.fault.Fault.TheVariants.{Refused, Memory}
use Rattle.rh_base.specs.Refused.{IfRefused}
use Rattle.pp_eval.specs.Evaluating.{Refuses}
use Rattle.fs_semantics.specs.Programs.{Program}
use Rattle.catalog_semantics.specs.Catalogs.{Catalog}
use Rattle.compiled_text.specs.Compiled.{Compiled}
use Rattle.orders.specs.Relation.{Comes, IsStrictOrder}
use Rattle.graph_semantics.specs.Graphs.{IsGraphOf, IsGraphRefusal}
use Rattle.dep_graph.specs.declared.answer.Graph.{Graph}
use Rattle.host_limits.specs.declared.limits.Limits.{Limits}
use Rattle.known_inputs.specs.declared.inputs.Inputs.{Inputs}
use Rattle.known_inputs.specs.declared.inputs.Known.{Known}
use Rattle.command_line.specs.declared.table.Role.TheVariants as role
use Rattle.known_inputs.specs.Inputs.{bytes_of, input_of, IsCompiledOf, IsKnown, FirstUnread}
use Rattle.reports.proofs.Places.{places_within}
use Rattle.reports.proofs.CompiledLaws.{are_told}
use Rattle.reports.specs.Reports.{IsGraphShown, IsGraphReport}
use Rattle.reports.specs.Stages as stages
use Rattle.reports.specs.Stages.{node_name, HasCatalog, HasNoCatalog, IsCompiled, IsPlanned, IsModelled, AreTold, programs_in, CatalogRefusal, GraphRefusal, ProgramsRefusal}

-- ---- catalogs

-- what refuses the files refuses the catalog
pub unread : (i : Inputs) (e : Fault) → IfRefused e (FirstUnread i) → IfRefused e (CatalogRefusal i)
unread i (Refused r) first = stages.unread first
unread i (Memory m) first = tt

-- of a text and a name that are those of the request, and of the compiled catalog that it names, if it names one
module _ (i : Inputs) (k : Known) (m : Option Compiled) (text name : List ℕ) (l : Limits) (is : text ≡ input_of i) (source : IsCompiledOf (bytes_of role.Compiled i) m) (named : name ≡ node_name i.node)
    (limited : l ≡ i.limits) (known : IsKnown i k) where
  -- what refuses what is asked about refuses the catalog
  pub uncompiled : (e : Fault) → IfRefused e (HasNoCatalog text name l k m) → IfRefused e (CatalogRefusal i)
  uncompiled (Refused r) none =
      stages.uncompiled k m known source
      (subst (λ n. HasNoCatalog (input_of i) (node_name i.node) n k m r) limited (subst₂ (λ t n. HasNoCatalog t n l k m r) is named none))
  uncompiled (Memory x) none = tt

  -- a catalog of what is asked about is that of the files
  pub is_compiled : (c : Catalog) → HasCatalog text name l k m c → IsCompiled i k m c
  is_compiled c has = record {
    known = known;
    source = source;
    catalog = subst (λ n. HasCatalog (input_of i) (node_name i.node) n k m c) limited (subst₂ (λ t n. HasCatalog t n l k m c) is named has);
  }

  -- and so it is of what was answered
  pub compiled_answer : (said : Result Catalog Fault) → IfOk said (HasCatalog text name l k m) → IfOk said (IsCompiled i k m)
  compiled_answer (Ok c) has = is_compiled c has
  compiled_answer (Err e) has = tt

  -- and of what was refused
  pub uncompiled_answer : (said : Result Catalog Fault) → IfErr said (λ e. IfRefused e (HasNoCatalog text name l k m)) → IfErr said (λ e. IfRefused e (CatalogRefusal i))
  uncompiled_answer (Ok c) none = tt
  uncompiled_answer (Err e) none = uncompiled e none

-- ---- graphs

-- what refuses the catalog refuses the graph
pub before_graph : (i : Inputs) (e : Fault) → IfRefused e (CatalogRefusal i) → IfRefused e (GraphRefusal i)
before_graph i (Refused r) first = stages.before_graph first
before_graph i (Memory m) first = tt

-- and so does what refuses the files
pub unread_graph : (i : Inputs) (e : Fault) → IfRefused e (FirstUnread i) → IfRefused e (GraphRefusal i)
unread_graph i e first = before_graph i e (unread i e first)

-- and what refuses a catalog for its graph
pub in_graph : (i : Inputs) (k : Known) (m : Option Compiled) (c : Catalog) (e : Fault) → IsCompiled i k m c → IfRefused e (IsGraphRefusal c) → IfRefused e (GraphRefusal i)
in_graph i k m c (Refused r) compiled none = stages.in_graph k m c compiled none
in_graph i k m c (Memory x) compiled none = tt

-- what is shown of a graph of the files' catalog is the report on them
pub graph_answer : (i : Inputs) (k : Known) (m : Option Compiled) (c : Catalog) → IsCompiled i k m c → (said : Result (List ℕ) Fault) → IfOk said (IsGraphShown c) → IfOk said (IsGraphReport i)
graph_answer i k m c compiled (Ok lines) shown = record {
  known = k;
  source = m;
  catalog = c;
  graph = shown.graph;
  planned = record { compiled = compiled; graph = shown.of; count = shown.count; strict = shown.strict };
  text = shown.text;
}
graph_answer i k m c compiled (Err e) shown = tt

-- and what is refused is their refusal
pub graph_refused : (i : Inputs) (k : Known) (m : Option Compiled) (c : Catalog) → IsCompiled i k m c → (said : Result (List ℕ) Fault) → IfErr said (λ e. IfRefused e (IsGraphRefusal c))
    → IfErr said (λ e. IfRefused e (GraphRefusal i))
graph_refused i k m c compiled (Ok lines) none = tt
graph_refused i k m c compiled (Err e) none = in_graph i k m c e compiled none

-- ---- programs

-- what refuses the graph refuses the programs
pub before_programs : (i : Inputs) (e : Fault) → IfRefused e (GraphRefusal i) → IfRefused e (ProgramsRefusal i)
before_programs i (Refused r) first = stages.before_programs first
before_programs i (Memory m) first = tt

-- and so does what refuses a resource's program
pub in_programs : (i : Inputs) (k : Known) (m : Option Compiled) (c : Catalog) (g : Graph) (e : Fault) → IsPlanned i k m c g → Refuses (programs_in k m c g.plain) e
    → IfRefused e (ProgramsRefusal i)
in_programs i k m c g (Refused r) planned none = stages.in_programs k m c g planned none
in_programs i k m c g (Memory x) planned none = tt

-- programs of a graph's resources are those of the files
pub is_modelled : (i : Inputs) (k : Known) (m : Option Compiled) (c : Catalog) (g : Graph) (es : List Program) → IsPlanned i k m c g → programs_in k m c g.plain ≡ Ok es → IsModelled i k m c g es
is_modelled i k m c g es planned made = record { planned = planned; programs = made }

-- ---- what comes before programs

-- what refuses the files refuses the programs
pub unread_programs : (i : Inputs) (e : Fault) → IfRefused e (FirstUnread i) → IfRefused e (ProgramsRefusal i)
unread_programs i e first = before_programs i e (unread_graph i e first)

-- and so does what refuses the catalog
pub catalog_programs : (i : Inputs) (e : Fault) → IfRefused e (CatalogRefusal i) → IfRefused e (ProgramsRefusal i)
catalog_programs i e first = before_programs i e (before_graph i e first)

-- and what refuses a catalog for its graph
pub graph_programs : (i : Inputs) (k : Known) (m : Option Compiled) (c : Catalog) (e : Fault) → IsCompiled i k m c → IfRefused e (IsGraphRefusal c) → IfRefused e (ProgramsRefusal i)
graph_programs i k m c e compiled none = before_programs i e (in_graph i k m c e compiled none)

-- a graph of the files' catalog is that of the files
pub planned : (i : Inputs) (k : Known) (m : Option Compiled) (c : Catalog) (g : Graph) → IsCompiled i k m c → IsGraphOf c g.plain (Comes g.order) → g.order.count ≡ length g.plain
    → IsStrictOrder g.order → IsPlanned i k m c g
planned i k m c g compiled is count strict = record { compiled = compiled; graph = is; count = count; strict = strict }

-- the places of the graph are places of the catalog
pub are_places : (c : Catalog) (g : Graph) (plain : List ℕ) → plain ≡ g.plain → IsGraphOf c g.plain (Comes g.order) → AllByRecursion (λ i. i < length c.resources) plain
are_places c g plain is graph = places_within c plain (is ∙ graph.places)

-- and a compiled catalog tells of them
pub are_told_places : (text node : List ℕ) (l : Limits) (k : Known) (m : Option Compiled) (c : Catalog) (g : Graph) → HasCatalog text node l k m c → IsGraphOf c g.plain (Comes g.order)
    → AreTold m g.plain
are_told_places text node l k m c g has graph = are_told text node l k m c g.plain has (are_places c g g.plain refl graph)
