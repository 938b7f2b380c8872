use Rattle.std.proofs.Common.{map, sym, subst, ◌∙◌}
use Rattle.std.proofs.lemmas.Result.{IfOk-weaker}
use Rattle.fs_semantics.specs.Orders.{Told}
use Rattle.fs_lang.specs.Meaning.{program_of}
use Rattle.given_hosts.specs.Given.{IsDeterministicFrom}
use Rattle.orders.specs.Relation.{comes}
use Rattle.given_verdict.specs.Ends.{AnswersEndFrom}
use Rattle.given_verdict.proofs.NoneLaws.{none_there, ended}
use Rattle.given_verdict.proofs.ends.ask_end_from.Goals as goal

pub ask_end-requires-clause-deterministic : goal.ask_end-requires-clause-deterministic
ask_end-requires-clause-deterministic c =
    let es = map program_of c.args.asked.now.plan.now.programs.now in
    let order = c.args.asked.now.plan.now.order.now in
    let sure = subst (λ g. IsDeterministicFrom g es (Told (comes order))) (none_there c.args.asked.now.given.now (sym c.is_empty.ensures ∙ c.if-is_empty.true)) c.requires.deterministic in
    (c.none_given.ensures.deterministic es (comes order)).0 sure

pub returns-then-is_empty : goal.returns-then-is_empty
returns-then-is_empty c = IfOk-weaker c.ask_end.result _ _ (λ answered is.
    let es = map program_of c.args.asked.now.plan.now.programs.now in
    let order = c.args.asked.now.plan.now.order.now in
    subst (λ g. AnswersEndFrom g es order c.args.asked.now.budget answered) (sym (none_there c.args.asked.now.given.now (sym c.is_empty.ensures ∙ c.if-is_empty.true))) (ended es order c.args.asked.now.budget answered is)) c.ask_end.ensures
