use Rattle.std.proofs.Common.{map, sym, subst, ◌∙◌}
use Rattle.std.proofs.lemmas.Result.{IfOk-weaker}
use Rattle.fs_lang.specs.Meaning.{program_of}
use Rattle.given_verdict.proofs.NoneLaws.{none_there}
use Rattle.given_equal.specs.Answers.{IsComparedFrom}
use Rattle.given_equal.proofs.NoneLaws.{compared_from}
use Rattle.given_equal.proofs.comparing.compared_from.Goals as goal

pub returns-then-is_empty : goal.returns-then-is_empty
returns-then-is_empty c = IfOk-weaker c.compare.result _ _ (λ compared is.
    let es = map program_of c.args.left.now.programs.now in
    let fs = map program_of c.args.right.now.programs.now in
    let order = c.args.left.now.order.now in
    let other = c.args.right.now.order.now in
    let none = none_there c.args.given.now (sym c.is_empty.ensures ∙ c.if-is_empty.true) in
    subst (λ g. IsComparedFrom g es order fs other c.args.budget compared) (sym none) (compared_from es order fs other c.args.budget compared is)) c.compare.ensures
