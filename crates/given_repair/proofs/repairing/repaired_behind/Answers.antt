use Rattle.std.proofs.Common.{List, map, ap, subst, ◌∙◌}
use Rattle.std.proofs.lemmas.List.{length-map}
use Rattle.fs_semantics.specs.Programs.{Program}
use Rattle.fs_lang.specs.Meaning.{program_of}
use Rattle.repair.specs.Answers.{IsRepaired}
use Rattle.given_repair.proofs.RepairLaws.{repaired_of_guarded}
use Rattle.given_repair.proofs.repairing.repaired_behind.Goals as goal

pub returns : goal.returns
returns c =
    let es = map program_of c.args.plan.now.programs.now in
    let order = c.args.plan.now.order.now in
    let more = c.in_ok-graph.graph.order in
    let are = ap (map program_of) c.as_slice.ensures ∙ c.in_ok-graph.ensures.programs in
    repaired_of_guarded c.args.given.now es order more (length-map c.args.plan.now.programs.now program_of ∙ c.args.plan.now.count) c.count.ensures.ordered c.count-2.ensures.ordered c.in_ok-graph.ensures.more
    c.in_ok-graph.ensures.order c.arrows.ensures.followed c.requires.given c.args.budget c.in_ok-repaired.repaired
    (subst (λ (gs : List Program). IsRepaired gs more c.args.budget c.in_ok-repaired.repaired) are c.in_ok-repaired.ensures)
