use Rattle.tree_text.proofs.ReadLaws.{tree_read}
use Rattle.tree_text.proofs.reading.tree_from_json.Goals as goal

pub returns-in-Ok-tree_in-clause-only : goal.returns-in-Ok-tree_in-clause-only
returns-in-Ok-tree_in-clause-only c t h =
    c.tree_texts.ensures.one c.args.bytes.now c.in-Ok-tree_in.tree t
    (tree_read c.args.bytes.now c.in-Object.members c.in-Ok.json c.in-Ok-tree_in.tree c.in-Ok.ensures.ok.0 c.in-Ok.ensures.ok.1 c.in-Object.is c.in-Ok-tree_in.ensures.members c.in-Ok-tree_in.ensures.limits c.is_tree.ensures) h
