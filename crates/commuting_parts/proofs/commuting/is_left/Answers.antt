use Rattle.std.proofs.Common.{subst}
use Rattle.fs_lang.specs.Meaning.{test_of, program_of}
use Rattle.effect_sets.specs.Footprints.{nowhere, test_footprint, IsClearOf}
use Rattle.commuting_parts.proofs.commuting.is_left.Goals as goal

pub returns : goal.returns
returns c h =
    c.prints.ensures.test c.args.folders.now (test_of c.args.test.now) (program_of c.args.f.now) c.in_ok-print.ensures.proper
    (subst (λ x. IsClearOf x (test_footprint (test_of c.args.test.now) nowhere)) c.in_ok-print.ensures.sets (c.leaves_test.ensures h))
