use Rattle.std.proofs.Common.{map, arith}
use Rattle.fs_lang.specs.Meaning.{program_of}
use Rattle.given_entry.specs.Sizes.{probed}
use Rattle.given_entry.proofs.LimitLaws.{too_many, not_few}
use Rattle.given_entry.proofs.limits.check_probed.Goals as goal

pub returns-then-branch-domain_paths-clause-refused : goal.returns-then-branch-domain_paths-clause-refused
returns-then-branch-domain_paths-clause-refused c =
    too_many c.args.limits c.args.given.now (map program_of c.args.programs.now) c.args.wanted.now c.in_ok-path_count_probed.field-0 c.in_ok-path_count_probed.ensures c.refused.result (omega arith) c.refused.ensures

pub returns-then-branch-domain_paths-clause-only : goal.returns-then-branch-domain_paths-clause-only
returns-then-branch-domain_paths-clause-only c = λ few.
    let es = map program_of c.args.programs.now in
    let n = c.in_ok-path_count_probed.field-0 in
    absurd (not_few c.args.limits c.args.given.now es c.args.wanted.now n (λ m h. c.path_counts.ensures (probed c.args.given.now es c.args.wanted.now) n m c.in_ok-path_count_probed.ensures h) (omega arith) few)
