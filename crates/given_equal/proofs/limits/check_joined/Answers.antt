use Rattle.std.proofs.Common.{map, arith}
use Rattle.fs_lang.specs.Meaning.{program_of}
use Rattle.given_equal.specs.Sizes.{joined}
use Rattle.given_equal.proofs.LimitLaws.{too_many, not_few}
use Rattle.given_equal.proofs.limits.check_joined.Goals as goal

pub returns-then-branch-domain_paths-clause-refused : goal.returns-then-branch-domain_paths-clause-refused
returns-then-branch-domain_paths-clause-refused c =
    too_many c.args.limits c.args.given.now (map program_of c.args.left.now) (map program_of c.args.right.now) c.in_ok-path_count_joined.field-0 c.in_ok-path_count_joined.ensures c.refused.result (omega arith) c.refused.ensures

pub returns-then-branch-domain_paths-clause-only : goal.returns-then-branch-domain_paths-clause-only
returns-then-branch-domain_paths-clause-only c = λ few.
    let es = map program_of c.args.left.now in
    let fs = map program_of c.args.right.now in
    let n = c.in_ok-path_count_joined.field-0 in
    absurd (not_few c.args.limits c.args.given.now es fs n (λ m h. c.path_counts.ensures (joined c.args.given.now es fs) n m c.in_ok-path_count_joined.ensures h) (omega arith) few)
