use Rattle.std.proofs.Common.{map, refl, arith}
use Rattle.fs_lang.specs.Meaning.{program_of}
use Rattle.fs_interpreter.proofs.Frames.{cells_stay}
use Rattle.order_encode.proofs.PairLaws.{behind_step}
use Rattle.order_encode.proofs.GrowthLaws.{◌>>◌, still_stands}
use Rattle.order_encode.proofs.pairs.or_row_apart.Goals as goal

pub loop-k-preserved : goal.loop-k-preserved
loop-k-preserved c =
    let before = c.loop-k.invariant in
    let es = map program_of c.args.plan.now.programs in
    let pair = c.in_ok-or_apart.ensures in
    record {
      wire = pair.wire;
      less = let less = before.less in omega (arith, less);
      cells = cells_stay _ _ _ c.or_apart.ensures.grows before.cells;
      grows = before.grows >> c.or_apart.ensures.grows;
      exact = λ v o h.
          let h1 = still_stands c.args.plan.now.domain.table o before.grows c.requires.cells v h in
          behind_step es c.args.plan.now.order o c.args.i c.loop-k.k _ refl before.less (before.exact v o h) (pair.exact v o h1);
    }

pub returns-in_err-or_apart-clause-grows : goal.returns-in_err-or_apart-clause-grows
returns-in_err-or_apart-clause-grows c = c.loop-k.invariant.grows >> c.or_apart.ensures.grows
