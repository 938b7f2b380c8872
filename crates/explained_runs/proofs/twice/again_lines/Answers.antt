use Rattle.std.proofs.Common.{map, sym, ap, ◌∙◌}
use Rattle.std.proofs.lemmas.Result.{IfOk-weaker}
use Rattle.fs_lang.specs.Meaning.{program_of}
use Rattle.fs_lang.specs.Outcomes.{outcome_of}
use Rattle.orders.specs.Relation.{comes}
use Rattle.explained_runs.proofs.RunLaws.{tells_again, never_again, again_from}
use Rattle.explained_runs.proofs.twice.again_lines.Goals as goal

pub returns-in-Ended : goal.returns-in-Ended
returns-in-Ended c =
    let es = map program_of c.args.programs.now in
    let given = c.args.given.now in
    let smaller = c.in_ok-smaller in
    IfOk-weaker c.second_lines.result _ _
    (λ lines told o shown. tells_again given c.args.names.now es o smaller.smaller c.in-Ended.after c.args.order.now lines
    (sym c.in_ok-after.ensures ∙ ap outcome_of c.in-Ended.is) told
    (again_from given es o c.args.tree.now smaller.smaller c.args.order.now smaller.ensures.stand (smaller.ensures.shows (comes o)) shown))
    c.second_lines.ensures

pub returns : goal.returns
returns c = λ o shown.
    let es = map program_of c.args.programs.now in
    let given = c.args.given.now in
    let smaller = c.in_ok-smaller in
    never_again given c.args.names.now es o smaller.smaller c.args.order.now c.new.result (sym c.in_ok-after.ensures ∙ ap outcome_of c.in-Error.is)
    (again_from given es o c.args.tree.now smaller.smaller c.args.order.now smaller.ensures.stand (smaller.ensures.shows (comes o)) shown)
