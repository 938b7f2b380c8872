use Rattle.determinism.proofs.QuestionLaws.{not_two}
use Rattle.determinism.proofs.whole.two_orders.Goals as goal

pub unreachable-requires : goal.unreachable-requires
unreachable-requires c = not_two c.args.witness c.requires c.in-Twice.is
