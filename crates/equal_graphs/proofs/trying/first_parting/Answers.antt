use Rattle.std.proofs.Common.{map}
use Rattle.fs_lang.specs.Meaning.{program_of}
use Rattle.equal_graphs.proofs.TryLaws.{parts_at}
use Rattle.equal_graphs.proofs.trying.first_parting.Goals as goal

pub returns-then-apart : goal.returns-then-apart
returns-then-apart c =
    parts_at (map program_of c.args.left.now) c.args.order.now (map program_of c.args.right.now) c.args.other.now c.tree-item.result c.in_ok-found.found c.in_ok-found.ensures c.is_tree.ensures
    (c.in_ok-apart.ensures.0 c.if-apart.true)
