use Rattle.std.proofs.Common.{map, sym, subst, ◌∙◌}
use Rattle.fs_lang.specs.Meaning.{program_of}
use Rattle.given_verdict.proofs.NoneLaws.{none_there}
use Rattle.given_repair.specs.Repairs.{IsRepairedFrom}
use Rattle.given_repair.proofs.RepairLaws.{repaired_of_none}
use Rattle.given_repair.proofs.repairing.repaired_from.Goals as goal

pub returns-then-is_empty : goal.returns-then-is_empty
returns-then-is_empty c =
    let es = map program_of c.args.plan.now.programs.now in
    let order = c.args.plan.now.order.now in
    subst (λ g. IsRepairedFrom g es order c.args.budget c.in_ok-repaired.repaired) (sym (none_there c.args.given.now (sym c.is_empty.ensures ∙ c.if-is_empty.true))) (repaired_of_none es order c.args.budget c.in_ok-repaired.repaired c.in_ok-repaired.ensures)
