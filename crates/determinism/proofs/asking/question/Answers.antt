use Rattle.std.proofs.lemmas.Result.{IfOk-weaker}
use Rattle.determinism.proofs.asking.question.Goals as goal

pub returns-clause-laid : goal.returns-clause-laid
returns-clause-laid c = IfOk-weaker c.question_over.result _ _ (λ q states. (c.in_ok-d.d, c.in_ok-d.ensures.layout)) c.question_over.ensures.states
