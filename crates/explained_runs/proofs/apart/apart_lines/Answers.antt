use Rattle.std.proofs.Common.{map}
use Rattle.std.proofs.lemmas.Result.{IfOk-weaker}
use Rattle.fs_lang.specs.Meaning.{program_of}
use Rattle.orders.specs.Relation.{comes}
use Rattle.explained_runs.proofs.RunLaws.{tells_apart, apart_from}
use Rattle.explained_runs.proofs.apart.apart_lines.Goals as goal

pub returns : goal.returns
returns c =
    let es = map program_of c.args.programs.now in
    let given = c.args.given.now in
    let smaller = c.in_ok-smaller in
    IfOk-weaker c.both_lines.result _ _
    (λ lines told order shown e. tells_apart given c.args.names.now es order smaller.smaller c.args.left.now c.args.right.now lines
    (apart_from given es order c.args.tree.now smaller.smaller c.args.left.now c.args.right.now smaller.ensures.stand (smaller.ensures.shows (comes order)) shown) e told)
    c.both_lines.ensures
