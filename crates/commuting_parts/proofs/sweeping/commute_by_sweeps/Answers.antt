use Rattle.std.proofs.Common.{subst}
use Rattle.std.specs.Prelude.{IsTrue, IfSome}
use Rattle.std.proofs.lemmas.Result.{IfOk-weaker}
use Rattle.commuting_parts.specs.Runs.{SwapFrom}
use Rattle.commuting_parts.specs.Prints.{TreeWith}
use Rattle.commuting_parts.specs.Parts.{runs}
use Rattle.commuting_parts.specs.Splits.{IsSplit, AreSplitsApart}
use Rattle.commuting_parts.proofs.SplitLaws.{splits_swap}
use Rattle.commuting_parts.proofs.sweeping.commute_by_sweeps.Goals as goal

pub returns : goal.returns
returns c =
    let folders = c.args.folders.now in
    let es = c.args.es.now in
    let fs = c.args.fs.now in
    let l = c.in-Some.left in
    let r = c.in-Some-2.right in
    let left = subst (λ o. IfSome o (IsSplit folders es)) c.in-Some.is c.in_ok-left.ensures in
    let right = subst (λ o. IfSome o (IsSplit folders fs)) c.in-Some-2.is c.in_ok-right.ensures in
    IfOk-weaker c.splits_are_apart.result (λ told. IsTrue told → AreSplitsApart folders l r) (λ told. IsTrue told → SwapFrom (TreeWith folders) (runs es) (runs fs))
    (λ told are h. splits_swap c.prints.ensures.commute c.prints.ensures.keeps folders es fs l r left right (are h)) c.splits_are_apart.ensures
