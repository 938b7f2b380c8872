use Rattle.std.proofs.Common.{map, subst, ◌∙◌}
use Rattle.std.proofs.lemmas.List.{length-map}
use Rattle.std.specs.Prelude.{IfSome}
use Rattle.fs_lang.specs.Meaning.{program_of}
use Rattle.success.specs.Questions.{IsEnd}
use Rattle.ensured_entry.proofs.EnsuredLaws.{succeeds}
use Rattle.ensured_entry.proofs.ensuring.ensure_held.Goals as goal

pub returns-in-Some : goal.returns-in-Some
returns-in-Some c =
    let es = map program_of c.args.plan.now.programs.now in
    let order = c.args.plan.now.order.now in
    let end = subst (λ o. IfSome o (IsEnd es order)) c.in-Some.is c.requires.end in
    (c.requires.settled, c.requires.holds, c.requires.proof, (succeeds es order (length-map c.args.plan.now.programs.now program_of ∙ c.args.plan.now.count) c.in-Some.witness end, end))
