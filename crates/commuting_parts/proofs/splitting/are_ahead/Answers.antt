use Rattle.std.proofs.Common.{◌≡◌, [], ◌∷◌, ◌++◌, false, get_or, subst}
use Rattle.fs_lang.specs.Meaning.{program_of}
use Rattle.effect_sets.specs.Footprints.{footprint}
use Rattle.commuting_parts.specs.Parts.{part, IsApartFrom}
use Rattle.commuting_parts.specs.Splits.{WhereMarked}
use Rattle.commuting_parts.proofs.SplitLaws.{one_ahead}
use Rattle.commuting_parts.proofs.splitting.are_ahead.Goals as goal

pub loop-i-preserved : goal.loop-i-preserved
loop-i-preserved c more =
    let folders = c.args.folders.now in
    let e = c.index-steps-i.result in
    let front = c.loop-i.front in
    let new = c.take_step.new.front in
    c.loop-i.invariant (one_ahead folders (λ n. get_or c.args.marks.now n false) c.loop-i.i c.args.steps.now e front new c.loop-i-test.true c.index-steps-i.is
    (subst (λ b. WhereMarked b (new ≡ front ++ e ∷ []) ((new ≡ front) × IsApartFrom folders (footprint (part front)) (program_of e))) c.is_marked.ensures
    (c.in_ok-take_step.ensures c.if-not-branch.false)) more)
