-- What is asked about, with its catalog, its graph and its programs: a manifest, or a compiled catalog.
use Rattle.std.proofs.Common.{◌≡◌, ℕ, List, length, Option, Ok, refl, sym, ◌∙◌}
use Rattle.rh_base.specs.declared.fault.Fault.{Fault}
use Rattle.rh_base.specs.declared.fault.Fault.TheVariants.{Refused, Memory}
use Rattle.rh_base.specs.Refused.{IfRefused}
use Rattle.pp_eval.specs.Evaluating.{Refuses}
use Rattle.fs_semantics.specs.Programs.{Program}
use Rattle.catalog_semantics.specs.Catalogs.{Catalog}
use Rattle.compiled_text.specs.Compiled.{Compiled}
use Rattle.orders.specs.Relation.{Comes, IsStrictOrder}
use Rattle.graph_semantics.specs.Graphs.{IsGraphOf, IsGraphRefusal}
use Rattle.dep_graph.specs.declared.answer.Graph.{Graph}
use Rattle.host_limits.specs.declared.limits.Limits.{Limits}
use Rattle.known_inputs.specs.declared.inputs.Inputs.{Inputs}
use Rattle.known_inputs.specs.declared.inputs.Known.{Known}
use Rattle.known_inputs.specs.Inputs.{input_of}
use Rattle.reports.specs.Stages.{node_name, HasCatalog, HasNoCatalog, ForSource, IsInOrder, IsModelled, programs_in, ProgramsRefusal}
use Rattle.reports.proofs.CompiledCounts.{as_many}
use Rattle.reports.proofs.StageLaws.{uncompiled, is_compiled, catalog_programs, graph_programs, planned, in_programs, is_modelled, are_places, are_told_places}

module _ (m : Option Compiled) (k : Known) (text name : List ℕ) (l : Limits) where
  -- a refusal of the catalog of one side is one of each request with that side as its input
  pub uncompiled_for : (e : Fault) → IfRefused e (HasNoCatalog text name l k m) → IfRefused e (λ r. ForSource m text name l k (λ i. ProgramsRefusal i r))
  uncompiled_for (Refused r) none = λ i is source called limited known. catalog_programs i (Refused r) (uncompiled i k m text name l is source called limited known (Refused r) none)
  uncompiled_for (Memory x) none = tt

  module _ (c : Catalog) (has : HasCatalog text name l k m c) where
    -- and so is one of its graph
    pub unplanned_for : (e : Fault) → IfRefused e (IsGraphRefusal c) → IfRefused e (λ r. ForSource m text name l k (λ i. ProgramsRefusal i r))
    unplanned_for (Refused r) none = λ i is source called limited known. graph_programs i k m c (Refused r) (is_compiled i k m text name l is source called limited known c has) none
    unplanned_for (Memory x) none = tt

    module _ (g : Graph) (graph : IsGraphOf c g.plain (Comes g.order)) (count : g.order.count ≡ length g.plain) (strict : IsStrictOrder g.order) where
      -- and one of its programs
      pub unmodelled_for : (e : Fault) → Refuses (programs_in k m c g.plain) e → IfRefused e (λ r. ForSource m text name l k (λ i. ProgramsRefusal i r))
      unmodelled_for (Refused r) none = λ i is source called limited known.
          in_programs i k m c g (Refused r) (planned i k m c g (is_compiled i k m text name l is source called limited known c has) graph count strict) none
      unmodelled_for (Memory x) none = tt

      -- the programs of one side are those of each request with that side as its input
      pub modelled_for : (es : List Program) → programs_in k m c g.plain ≡ Ok es → ForSource m text name l k (λ i. IsModelled i k m c g es)
      modelled_for es made = λ i is source called limited known.
          is_modelled i k m c g es (planned i k m c g (is_compiled i k m text name l is source called limited known c has) graph count strict) made

-- programs of a graph's resources are in its order
pub in_order : (i : Inputs) (k : Known) (m : Option Compiled) (c : Catalog) (g : Graph) (es : List Program) → IsModelled i k m c g es → IsInOrder c g es
in_order i k m c g es is = record {
  count = as_many k m c g es is.planned.graph.places (are_told_places (input_of i) (node_name i.node) i.limits k m c g is.planned.compiled.catalog is.planned.graph) is.programs ∙ sym is.planned.count;
  many = is.planned.count;
  places = are_places c g g.plain refl is.planned.graph;
}
