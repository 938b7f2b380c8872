use Rattle.std.proofs.Common.{false, get_or}
use Rattle.std.specs.Prelude.{IsTrue}
use Rattle.std.proofs.lemmas.Result.{IfOk-weaker}
use Rattle.commuting_parts.specs.Runs.{SwapFrom}
use Rattle.commuting_parts.specs.Prints.{TreeWith}
use Rattle.commuting_parts.specs.Parts.{runs, AreParts}
use Rattle.commuting_parts.proofs.PartLaws.{parts_swap, parts_as}
use Rattle.commuting_parts.proofs.parts.commute_by_shared.Goals as goal

pub returns : goal.returns
returns c =
    let folders = c.args.folders.now in
    let left = c.in_ok-left.left in
    let right = c.in_ok-right.right in
    IfOk-weaker c.parts_are_apart.result (λ told. IsTrue told → AreParts folders left.own left.shared right.own right.shared)
    (λ told. IsTrue told → SwapFrom (TreeWith folders) (runs c.args.es.now) (runs c.args.fs.now))
    (λ told are h. parts_swap c.prints.ensures.commute c.prints.ensures.keeps folders
    (λ i. get_or c.deref.result.now i false) (λ i. get_or c.deref-2.result.now i false) c.args.es.now c.args.fs.now
    (parts_as folders left.own left.shared right.own right.shared _ _ _ _ c.in_ok-left.ensures.own c.in_ok-left.ensures.shared c.in_ok-right.ensures.own c.in_ok-right.ensures.shared (are h)))
    c.parts_are_apart.ensures
