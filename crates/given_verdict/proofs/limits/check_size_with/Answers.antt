use Rattle.std.proofs.Common.{map, arith}
use Rattle.fs_lang.specs.Meaning.{program_of}
use Rattle.given_verdict.specs.Graphs.{asked_programs}
use Rattle.given_verdict.proofs.LimitLaws.{too_many, not_few, too_heavy, not_light}
use Rattle.given_verdict.proofs.limits.check_size_with.Goals as goal

pub returns-then-branch-domain_paths-clause-refused :
    goal.returns-then-branch-domain_paths-clause-refused
returns-then-branch-domain_paths-clause-refused c =
    too_many c.args.limits c.args.given.now (map program_of c.args.programs.now) c.in_ok-path_count_with.field-0 c.in_ok-path_count_with.ensures c.refused.result (omega arith) c.refused.ensures

pub returns-then-branch-domain_paths-clause-only :
    goal.returns-then-branch-domain_paths-clause-only
returns-then-branch-domain_paths-clause-only c = λ few light.
    let given = c.args.given.now in
    let es = map program_of c.args.programs.now in
    absurd (not_few c.args.limits given es c.in_ok-path_count_with.field-0 c.in_ok-path_count_with.ensures
    (λ m h. c.path_counts.ensures (asked_programs given es) c.in_ok-path_count_with.field-0 m c.in_ok-path_count_with.ensures h) (omega arith) few)

pub returns-then-is_over-clause-refused : goal.returns-then-is_over-clause-refused
returns-then-is_over-clause-refused c =
    too_heavy c.args.limits c.args.given.now (map program_of c.args.programs.now) c.in_ok-path_count_with.field-0 c.in_ok-path_count_with.ensures c.in_ok-weighs.weighs c.in_ok-weighs.ensures
    c.refused-then-is_over.result (omega arith) (c.is_over.ensures.over c.if-is_over.true) c.refused-then-is_over.ensures

pub returns-then-is_over-clause-only : goal.returns-then-is_over-clause-only
returns-then-is_over-clause-only c = λ few light.
    let es = map program_of c.args.programs.now in
    absurd (not_light c.args.limits c.args.given.now es c.in_ok-path_count_with.field-0 c.in_ok-path_count_with.ensures c.in_ok-weighs.weighs c.in_ok-weighs.ensures
    (λ v h. c.weights.ensures es c.in_ok-weighs.weighs v c.in_ok-weighs.ensures h) (c.is_over.ensures.over c.if-is_over.true) light)
