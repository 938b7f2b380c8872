use Rattle.std.proofs.Common.{◌+◌, ◌++◌, false, map, drop, ap, ◌∙◌}
use Rattle.reports.proofs.LineLaws.{one_unmarked}
use Rattle.reports.proofs.programs.none_is_assumed.Goals as goal

pub loop-place-preserved : goal.loop-place-preserved
loop-place-preserved c =
    ap (λ marks. marks ++ map (λ place. false) (drop (c.loop-place._place-index + 1) c.args.plain.now)) c.in_ok-push.ensures.ok
    ∙ one_unmarked c.args.plain.now c.loop-place._place-index c.loop-place.marks c.loop-place-test.true ∙ c.loop-place.invariant
