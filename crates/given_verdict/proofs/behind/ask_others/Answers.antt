use Rattle.std.proofs.Common.{inr, map, subst, ◌∙◌}
use Rattle.std.proofs.lemmas.List.{length-map}
use Rattle.fs_semantics.specs.Orders.{Told, IsDeterministic}
use Rattle.fs_lang.specs.Meaning.{program_of}
use Rattle.given_hosts.specs.Guard.{after_first}
use Rattle.determinism.specs.First.{IsSpent}
use Rattle.given_verdict.specs.Behind.{IsJudgedBehind}
use Rattle.given_verdict.proofs.BehindLaws.{idempotent, stated_by_any}
use Rattle.given_verdict.proofs.behind.ask_others.Goals as goal

pub returns-in_ok-proof_of-in-Sure : goal.returns-in_ok-proof_of-in-Sure
returns-in_ok-proof_of-in-Sure c =
    let es = map program_of c.args.asked.now.plan.now.programs.now in
    let order = c.args.asked.now.plan.now.order.now in
    let given = c.args.asked.now.given.now in
    let j = subst (IsJudgedBehind given es order c.args.asked.now.budget) c.in-Sure.is c.in_ok-sure.ensures in
    let long = length-map c.args.asked.now.plan.now.programs.now program_of ∙ c.args.asked.now.plan.now.count in
    let alike = subst (λ b. IsDeterministic (after_first given es j.first) (Told b)) j.before j.judged.deterministic in
    let same = idempotent given es order long c.requires.deterministic j.first j.is_first alike c.requires.never in
    (same, stated_by_any given es order c.in_ok-proof_of-in-Sure.field-0.formula same c.in_ok-proof_of-in-Sure.ensures)

pub returns-in-Spent : goal.returns-in-Spent
returns-in-Spent c =
    let es = map program_of c.args.asked.now.plan.now.programs.now in
    let order = c.args.asked.now.plan.now.order.now in
    let given = c.args.asked.now.given.now in
    let j = subst (IsJudgedBehind given es order c.args.asked.now.budget) c.in-Spent.is c.in_ok-sure.ensures in
    inr (record { first = j.first; is_first = j.is_first; spent = subst (λ b. IsSpent (after_first given es j.first) (Told b) c.args.asked.now.budget c.in-Spent.cnf c.in-Spent.log.steps) j.before j.judged.spent })
