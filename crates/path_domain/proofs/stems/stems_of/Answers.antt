use Rattle.std.proofs.Common.{◌∷◌, ap, ◌∙◌}
use Rattle.path_domain.proofs.StemLaws.{stems_are}
use Rattle.path_domain.proofs.stems.stems_of.Goals as goal

pub returns : goal.returns
returns c =
    stems_are c.args.c.now c.in-Some-behind-3.rest.now c.leading.result
    (c.in-Some.ensures ∙ ap (λ r. 116 ∷ r) (c.in-Some-behind.ensures ∙ ap (λ r. 101 ∷ r) (c.in-Some-behind-2.ensures ∙ ap (λ r. 120 ∷ r) c.in-Some-behind-3.ensures)))
    c.leading.ensures.counts
