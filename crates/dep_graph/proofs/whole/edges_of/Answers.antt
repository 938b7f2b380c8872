use Rattle.std.proofs.Common.{◌<◌, ◌*◌, ◌++◌, length, ℕ, sym, ap, subst, ◌∙◌}
use Rattle.std.specs.List.{All}
use Rattle.catalog_semantics.specs.States.{declared_bound}
use Rattle.graph_semantics.specs.Graphs.{plain_places}
use Rattle.dep_graph.specs.Files.{AreFiles, file_edges}
use Rattle.dep_graph.specs.Named.{named_edges}
use Rattle.dep_graph.specs.Numbered.{structure_edges, edges_of_links}
use Rattle.dep_graph.specs.Whole.{bound_of}
use Rattle.dep_graph.proofs.Refusals.{four_joined}
use Rattle.dep_graph.proofs.Bounds.{places_small, files_small}
use Rattle.dep_graph.proofs.whole.edges_of.Goals as goal

pub push_named_edges-requires : goal.push_named_edges-requires
push_named_edges-requires c = record { plain = subst (All (λ (p : ℕ). p < declared_bound)) (sym c.requires.plain) (places_small c.args.catalog.now c.requires.few) }

pub push_file_edges-requires : goal.push_file_edges-requires
push_file_edges-requires c =
    let are = subst (λ ps. AreFiles c.args.catalog.now ps c.in_ok-files.files) c.requires.plain c.in_ok-files.ensures in
    subst (All (λ f. f.place < declared_bound)) (sym c.as_slice.ensures) (files_small c.args.catalog.now c.in_ok-files.files c.requires.few are)

pub returns-clause-edges : goal.returns-clause-edges
returns-clause-edges c =
    let k = c.args.catalog.now in
    let links = c.args.links.now in
    record {
      files = c.in_ok-files.files;
      files_are = subst (λ ps. AreFiles k ps c.in_ok-files.files) c.requires.plain c.in_ok-files.ensures;
      edges_are = four_joined c.in_ok-edges.edges c.push_links.new.edges c.push_named_edges.new.edges c.push_file_edges.new.edges
          (structure_edges k (length k.resources)) (edges_of_links (bound_of k) links) (named_edges k links (plain_places k) (plain_places k)) (file_edges links c.in_ok-files.files)
          c.in_ok-edges.ensures
          (c.in_ok-count.ensures.edges ∙ ap (λ n. c.in_ok-edges.edges ++ edges_of_links (2 * n) links) c.count.ensures.count)
          (c.in_ok-push_named_edges.ensures ∙ ap (λ ps. c.push_links.new.edges ++ named_edges k links ps ps) c.requires.plain)
          (c.in_ok-push_file_edges.ensures ∙ ap (λ fs. c.push_named_edges.new.edges ++ file_edges links fs) c.as_slice.ensures);
    }
