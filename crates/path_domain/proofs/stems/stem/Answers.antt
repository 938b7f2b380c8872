use Rattle.std.proofs.Common.{◌∷◌, [], ◌++◌, ap, ◌∙◌}
use Rattle.finite_domain.specs.Layouts.{stem}
use Rattle.path_domain.proofs.TextLaws.{next_number}
use Rattle.path_domain.proofs.StemLaws.{stem_more}
use Rattle.path_domain.proofs.stems.stem.Goals as goal

pub loop-turn-preserved : goal.loop-turn-preserved
loop-turn-preserved c = c.in_ok-push-2.ensures.ok ∙ ap (λ t. t ++ 120 ∷ []) c.loop-turn.invariant ∙ stem_more c.loop-turn._turn ∙ ap stem (next_number c.loop-turn._turn)
