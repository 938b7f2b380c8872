use Rattle.std.proofs.Common.{map, ap, subst, ◌∙◌}
use Rattle.std.proofs.lemmas.Result.{IfOk-weaker}
use Rattle.std.proofs.lemmas.List.{map-append}
use Rattle.finite_domain.specs.Layouts.{IsLayout}
use Rattle.path_domain.specs.Laid.{layout_of}
use Rattle.fs_lang.specs.Meaning.{program_of, programs_in}
use Rattle.fs_interpreter.specs.Places.{CoversSteps}
use Rattle.equal_graphs.proofs.JoinLaws.{covers_front, covers_back}
use Rattle.equal_graphs.proofs.joining.domain_of_both.Goals as goal

pub returns-clause-layout : goal.returns-clause-layout
returns-clause-layout c = IfOk-weaker c.domain.result _ _ (λ d is.
    let same = ap (map program_of) (c.as_slice.ensures ∙ c.in_ok-all.ensures) ∙ map-append program_of c.args.left.now c.args.right.now in
    subst (λ es. IsLayout es (layout_of d)) same is) c.domain.ensures.layout

pub returns-clause-left : goal.returns-clause-left
returns-clause-left c = IfOk-weaker c.domain.result _ _ (λ d is.
    covers_front d.table c.args.left.now c.args.right.now
    (subst (λ es. CoversSteps d.table (programs_in es)) (c.as_slice.ensures ∙ c.in_ok-all.ensures) is)) c.domain.ensures.covers

pub returns-clause-right : goal.returns-clause-right
returns-clause-right c = IfOk-weaker c.domain.result _ _ (λ d is.
    covers_back d.table c.args.left.now c.args.right.now
    (subst (λ es. CoversSteps d.table (programs_in es)) (c.as_slice.ensures ∙ c.in_ok-all.ensures) is)) c.domain.ensures.covers
