use Rattle.std.proofs.Common.{inl, inr, map, subst}
use Rattle.std.proofs.lemmas.Result.{IfOk-weaker}
use Rattle.fs_lang.specs.Meaning.{program_of}
use Rattle.failure_search.specs.Found.{IsFound}
use Rattle.explained_runs.specs.Told.{TellsHow}
use Rattle.explained_runs.proofs.RunLaws.{says_fails}
use Rattle.explained_runs.proofs.runs.how_it_ends.Goals as goal

pub returns-in-Some : goal.returns-in-Some
returns-in-Some c =
    let names = c.args.names.now in
    let es = map program_of c.args.programs.now in
    let order = c.args.order.now in
    let t = c.args.tree.now in
    let found = subst (IsFound es order t) c.in-Some.is c.in_ok-failed.ensures in
    IfOk-weaker c.fails_words.result _ (TellsHow names es order t)
    (λ words is. inr (says_fails names es order t c.in-Some.failed found.0 words (c.failing_orders.ensures.last es order t) (λ e u. c.failures.ensures.explained e u found.0) found.1 found.2 is))
    c.fails_words.ensures

pub returns-in-None : goal.returns-in-None
returns-in-None c =
    let es = map program_of c.args.programs.now in
    let found = subst (IsFound es c.args.order.now c.args.tree.now) c.in-None.is c.in_ok-failed.ensures in
    IfOk-weaker c.ends_words.result _ (TellsHow c.args.names.now es c.args.order.now c.args.tree.now) (λ words is. inl (record { after = found.0; ends = found.1; is = is })) c.ends_words.ensures
