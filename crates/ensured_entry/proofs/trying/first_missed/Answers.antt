use Rattle.std.proofs.Common.{map}
use Rattle.fs_lang.specs.Meaning.{program_of}
use Rattle.ensured_entry.proofs.RunLaws.{missed_at}
use Rattle.ensured_entry.proofs.trying.first_missed.Goals as goal

pub returns-then-told : goal.returns-then-told
returns-then-told c =
    missed_at (map program_of c.args.programs.now) c.args.order.now c.args.wanted.now c.tree-item.result c.in_ok-found.found c.in_ok-found.ensures c.is_tree.ensures
    (c.in_ok-told.ensures.0 c.if-told.true)
