use Rattle.std.proofs.Common.{subst}
use Rattle.std.proofs.lemmas.Result.{err_from_is_err_and}
use Rattle.rh_base.specs.Refused.{IfRefused}
use Rattle.known_inputs.specs.Inputs.{LacksGiven}
use Rattle.known_inputs.proofs.ReadingLaws.{lack_refused}
use Rattle.known_inputs.proofs.reading.known_inputs.Goals as goal

pub returns-in_err-given-clause-refused : goal.returns-in_err-given-clause-refused
returns-in_err-given-clause-refused c =
    let p = err_from_is_err_and c.from_residual-in_err-given.result c.from_residual-in_err-given.ensures.1 in
    rw (p.1, p.2) c.in_err-given.ensures.refused

-- the tree that is told lacks one of the folders that are given
pub returns-in_err-tree-clause-refused : goal.returns-in_err-tree-clause-refused
returns-in_err-tree-clause-refused c =
    let p = err_from_is_err_and c.from_residual-in_err-tree.result c.from_residual-in_err-tree.ensures.1 in
    let t = c.in_ok-named.named.tree in
    let e = c.in_err-tree.field-0.0 in
    let lacking = subst (λ folders. IfRefused e (LacksGiven t folders)) c.as_slice.ensures c.in_err-tree.ensures.refused in
    rw (p.1, p.2)
    (lack_refused c.args.inputs.now _ _ _ t _ _ c.in_ok-given.given e c.in_ok-told.ensures.told c.in_ok-named.ensures.named c.in_ok-given.ensures.given lacking)
