use Rattle.std.proofs.Common.{[], ◌∷◌, map, ap, subst, ◌∙◌}
use Rattle.std.proofs.lemmas.Result.{IfOk-weaker}
use Rattle.finite_domain.specs.Layouts.{IsLayout}
use Rattle.path_domain.specs.Laid.{layout_of}
use Rattle.fs_lang.specs.Meaning.{program_of, programs_in}
use Rattle.fs_interpreter.specs.Places.{CoversSteps}
use Rattle.ensured_entry.proofs.ProbingLaws.{probed, covers_front}
use Rattle.ensured_entry.proofs.probing.domain_with_probe.Goals as goal

pub returns-clause-layout : goal.returns-clause-layout
returns-clause-layout c = IfOk-weaker c.domain.result _ _ (λ d is.
    let same = ap (map program_of) c.as_slice.ensures ∙ probed c.args.programs.now c.args.wanted.now c.in_ok-all.all c.in_ok-all.ensures in
    subst (λ es. IsLayout es (layout_of d)) same is) c.domain.ensures.layout

pub returns-clause-covers : goal.returns-clause-covers
returns-clause-covers c = IfOk-weaker c.domain.result _ _ (λ d over.
    let is = c.in_ok-all.ensures in
    covers_front d.table c.args.programs.now (is.last ∷ [])
    (subst (λ es. CoversSteps d.table (programs_in es)) (c.as_slice.ensures ∙ is.are) over)) c.domain.ensures.covers
