use Rattle.std.proofs.Common.{map, refl}
use Rattle.fs_lang.specs.Meaning.{program_of}
use Rattle.fs_interpreter.proofs.Frames.{cells_stay}
use Rattle.order_encode.proofs.PairLaws.{none_below, below_step}
use Rattle.order_encode.proofs.GrowthLaws.{◌>>◌, still_stands}
use Rattle.order_encode.proofs.pairs.some_apart.Goals as goal

pub loop-i-init : goal.loop-i-init
loop-i-init c =
    let g = c.constant.ensures.grows in
    record {
      wire = c.in_ok-wire.ensures.gives.owned;
      cells = cells_stay _ _ _ g c.requires.cells;
      exact = λ v o h. none_below (map program_of c.args.plan.now.programs) c.args.plan.now.order o 0 refl (λ e. let is = c.in_ok-wire.ensures.gives.means v in cc);
      grows = g;
    }

pub loop-i-preserved : goal.loop-i-preserved
loop-i-preserved c =
    let before = c.loop-i.invariant in
    let es = map program_of c.args.plan.now.programs in
    let row = c.in_ok-or_row_apart.ensures in
    record {
      wire = row.wire;
      cells = cells_stay _ _ _ c.or_row_apart.ensures.grows before.cells;
      grows = before.grows >> c.or_row_apart.ensures.grows;
      exact = λ v o h.
          let h1 = still_stands c.args.plan.now.domain.table o before.grows c.requires.cells v h in
          below_step es c.args.plan.now.order o c.loop-i.i _ refl (before.exact v o h) (row.exact v o h1);
    }

pub returns-in_err-or_row_apart-clause-grows : goal.returns-in_err-or_row_apart-clause-grows
returns-in_err-or_row_apart-clause-grows c = c.loop-i.invariant.grows >> c.or_row_apart.ensures.grows
