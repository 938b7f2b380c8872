use Rattle.std.proofs.Common.{length, map, sym, subst, ◌∙◌, ◌<◌}
use Rattle.std.proofs.lemmas.List.{length-map}
use Rattle.std.specs.Prelude.{IfSome}
use Rattle.std.specs.List.{AllByRecursion}
use Rattle.fs_lang.specs.Meaning.{program_of}
use Rattle.ensured_entry.specs.Tried.{MissesFrom}
use Rattle.ensured_entry.proofs.RunLaws.{below, missed_from}
use Rattle.ensured_entry.proofs.trying.try_runs.Goals as goal

pub returns-in-Some : goal.returns-in-Some
returns-in-Some c =
    let es = map program_of c.args.plan.now.programs.now in
    let w = c.args.wanted.now in
    let found = subst (λ o. IfSome o (MissesFrom es c.as_slice.result.now w)) c.in-Some.is c.in_ok-missed.ensures in
    let missed = subst (λ o. MissesFrom es o w c.in-Some.tree) c.as_slice.ensures found in
    missed_from es c.args.plan.now.order.now (length-map c.args.plan.now.programs.now program_of ∙ c.args.plan.now.count) c.in_ok-first.first (record { allowed = c.in_ok-first.ensures.allowed; least = c.in_ok-first.ensures.least }) w c.in-Some.tree missed

pub first_end-requires : goal.first_end-requires
first_end-requires c =
    let low = below (length c.args.plan.now.programs.now) c.args.plan.now.order.now.count c.in_ok-first.first c.args.plan.now.count c.in_ok-first.ensures.allowed.below in
    subst (λ o. AllByRecursion (λ k. k < length c.args.plan.now.programs.now) o) (sym c.as_slice-3.ensures) low
