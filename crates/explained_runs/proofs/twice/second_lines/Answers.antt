use Rattle.std.proofs.Common.{map}
use Rattle.std.proofs.lemmas.Result.{IfOk-weaker}
use Rattle.fs_lang.specs.Meaning.{program_of}
use Rattle.explained_runs.specs.Steps.{TellsSecond}
use Rattle.explained_runs.proofs.twice.second_lines.Goals as goal

pub returns : goal.returns
returns c =
    IfOk-weaker c.put_together.result _ (TellsSecond c.args.names.now (map program_of c.args.programs.now) c.args.tree.now c.args.order.now c.args.after)
    (λ lines is. record { how = c.in_ok-how.how; second = c.in_ok-how.ensures; list = c.in_ok-list.list; differences = c.in_ok-list.ensures; are = is })
    c.put_together.ensures
