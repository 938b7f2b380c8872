use Rattle.std.proofs.Common.{◌≡◌, [], ◌∷◌, ◌∙◌}
use Rattle.std.specs.BTreeSet.{contains}
use Rattle.fs_semantics.specs.FileTree.{path_cmp}
use Rattle.fs_interpreter.specs.Places.{Listed, with_content}
use Rattle.path_domain.proofs.found.nothing.Goals as goal

pub returns : goal.returns
returns c =
    let table : ◌≡◌ {A = Listed} c.add_content.new.self (record { paths = []; contents = [] ∷ [] }) =
    c.in_ok-add_content.ensures.ok ∙ (λ i. with_content (c.in_ok-table.ensures i) (c.new-2.ensures i)) in
    λ i. record {
      paths = λ q. contains path_cmp (record { keys = c.new-3.ensures.empty i }) q;
      watched = λ q. contains path_cmp (record { keys = c.new-4.ensures.empty i }) q;
      table = table i;
    }
