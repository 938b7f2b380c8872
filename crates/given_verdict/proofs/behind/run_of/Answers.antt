use Rattle.std.proofs.Common.{◌∷◌, ◌++◌, [], map, ap, ◌∙◌}
use Rattle.fs_lang.specs.Meaning.{program_of, program_of_steps}
use Rattle.sure_folders.specs.Pruning.{chosen}
use Rattle.given_verdict.proofs.BehindLaws.{run_is}
use Rattle.given_verdict.proofs.behind.run_of.Goals as goal

pub returns : goal.returns
returns c =
    let es = map program_of c.args.programs.now in
    let rest = chosen es c.args.order.now in
    let old = c.in_ok-push.ensures.ok ∙ ap (λ l. l ++ c.in_ok-guard_of.field-0 ∷ []) c.new-steps.ensures in
    program_of_steps c.push_programs.new.steps
    ∙ run_is c.args.given.now es c.args.order.now c.push_programs.new.steps
    (c.in_ok-push_programs.ensures ∙ ap (λ l. map program_of l ++ rest) old ∙ ap (λ g. g ∷ rest) c.in_ok-guard_of.ensures)
