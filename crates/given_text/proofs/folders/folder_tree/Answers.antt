use Rattle.std.proofs.Common.{ap, ◌∙◌}
use Rattle.given_text.specs.Reading.{with_paths}
use Rattle.given_text.proofs.JustLaws.{just}
use Rattle.given_text.proofs.folders.folder_tree.Goals as goal

pub returns : goal.returns
returns c =
    just c.args.paths.now c.add_paths.new.tree c.is_tree.ensures (c.in_ok-add_paths.ensures.tree ∙ ap (λ t. with_paths t c.args.paths.now) c.in_ok-tree.ensures)
