use Rattle.std.proofs.Common.{map, ◌∙◌}
use Rattle.std.proofs.lemmas.List.{length-map}
use Rattle.std.proofs.lemmas.Result.{IfOk-weaker}
use Rattle.fs_lang.specs.Meaning.{program_of}
use Rattle.explained_runs.proofs.RunLaws.{tells_from_nothing}
use Rattle.explained_runs.proofs.fails.nothing_line.Goals as goal

pub returns : goal.returns
returns c =
    let programs = c.args.programs.now in
    IfOk-weaker c.line_from.result _ _
    (λ line is never. tells_from_nothing c.args.given.now c.args.names.now (map program_of programs) c.args.order.now c.in_ok-first.first c.as_slice.result.now c.in_ok-how.how line c.in_ok-tree.tree
    c.in_ok-tree.ensures c.as_slice.ensures (length-map programs program_of ∙ c.requires) c.in_ok-first.ensures.allowed c.in_ok-first.ensures.least c.in_ok-how.ensures is never)
    c.line_from.ensures
