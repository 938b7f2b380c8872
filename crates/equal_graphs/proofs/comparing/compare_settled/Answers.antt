use Rattle.std.proofs.Common.{map, subst}
use Rattle.std.specs.Prelude.{IfSome}
use Rattle.fs_lang.specs.Meaning.{program_of}
use Rattle.equal_graphs.specs.Equal.{FirstsPart}
use Rattle.equal_graphs.proofs.comparing.compare_settled.Goals as goal

pub returns-in-Some : goal.returns-in-Some
returns-in-Some c =
    let es = map program_of c.args.left.now.programs.now in
    let fs = map program_of c.args.right.now.programs.now in
    let part = subst (λ found. IfSome found (FirstsPart es c.args.left.now.order.now fs c.args.right.now.order.now)) c.in-Some.is c.in_ok-found.ensures in
    (c.requires.left_settled, c.requires.right_settled, part)
