use Rattle.std.proofs.Common.{◌++◌, map, sym, ap, ◌∙◌}
use Rattle.std.specs.FinMap as finite
use Rattle.given_text.specs.Reading.{with_paths}
use Rattle.given_text.proofs.JustLaws.{just, paths_behind}
use Rattle.given_text.proofs.folders.named_tree.Goals as goal

pub returns : goal.returns
returns c =
    let folders = c.args.folders.now in
    let targets = map (λ l. l.target) c.args.links.now in
    just (folders ++ targets) c.add_targets.new.tree c.is_tree.ensures
    (c.in_ok-add_targets.ensures ∙ ap (λ t. with_paths t targets) (c.in_ok-add_paths.ensures.tree ∙ ap (λ t. with_paths t folders) c.in_ok-tree.ensures)
    ∙ sym (paths_behind folders targets finite.empty))
