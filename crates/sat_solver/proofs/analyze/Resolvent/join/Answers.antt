use Rattle.std.proofs.Common.{get_or, refl, ◌∙◌, arith}
use Rattle.unit_propagation.proofs.Marks.{has_at}
use Rattle.sat_solver.proofs.Covering.{joined_more}
use Rattle.sat_solver.proofs.analyze.Resolvent.join.Goals as goal

pub mark-requires-clause-below : goal.mark-requires-clause-below
mark-requires-clause-below c = c.requires.below (get_or c.args.lits.now c.loop-literal.literal-index 0) (has_at c.args.lits.now c.loop-literal.literal-index (omega arith))

pub loop-literal-preserved : goal.loop-literal-preserved
loop-literal-preserved c =
    let e = c.in_ok-mark.ensures in
    let i = c.loop-literal.invariant in
    let g = e.grows in
    let j = i.grows in
    record {
      counted = e.counted;
      grows = omega arith;
      seen = λ x q. joined_more c.args.graph.now.trail.now.literals c.args.self.now.seen.items c.loop-literal.self.seen.items c.mark.new.self.seen.items c.args.lits.now c.loop-literal.literal-index c.args.skip (get_or c.args.lits.now c.loop-literal.literal-index 0)
          (omega arith) refl c.if-literal-skip.false x (i.seen x q) (e.seen x q);
      covered = λ h. e.covered (i.covered h);
      resolutions = e.resolutions ∙ i.resolutions;
    }
