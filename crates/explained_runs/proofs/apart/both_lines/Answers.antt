use Rattle.std.proofs.Common.{map}
use Rattle.std.proofs.lemmas.Result.{IfOk-weaker}
use Rattle.fs_lang.specs.Meaning.{program_of}
use Rattle.explained_runs.specs.Steps.{TellsBoth}
use Rattle.explained_runs.proofs.RunLaws.{tells_both}
use Rattle.explained_runs.proofs.apart.both_lines.Goals as goal

pub returns : goal.returns
returns c =
    let names = c.args.names.now in
    let es = map program_of c.args.programs.now in
    let t = c.args.tree.now in
    let left = c.args.left.now in
    let right = c.args.right.now in
    IfOk-weaker c.put_together.result _ (TellsBoth names es t left right)
    (λ lines is. tells_both names es t left right c.first_apart-a.result c.name_at-first.result.now c.name_at-second.result.now c.in_ok-how.how c.in_ok-other.other c.in_ok-list.list lines
    c.first_apart-a.ensures c.name_at-first.ensures c.name_at-second.ensures c.in_ok-how.ensures c.in_ok-other.ensures c.in_ok-list.ensures is)
    c.put_together.ensures
