use Rattle.std.proofs.Common.{◌∷◌, [], ◌++◌, suc, sym, ap, ◌∙◌, length, arith}
use Rattle.std.proofs.lemmas.List.{length_push}
use Rattle.path_domain.specs.Segments.{texts_in}
use Rattle.path_domain.proofs.TextLaws.{other_more, tried_more, not_longer}
use Rattle.path_domain.proofs.segments.fresh_segment.Goals as goal

pub loop-name-preserved : goal.loop-name-preserved
loop-name-preserved c =
    let n = c.loop-name.invariant.0 in
    let is = c.loop-name.invariant.1 in (
      suc n,
      c.in_ok-push-2.ensures.ok ∙ ap (λ t. t ++ 120 ∷ []) is ∙ other_more n,
      tried_more (texts_in c.args.segments.now) c.loop-name.name n is (ap (texts_in c.args.segments.now) (sym c.as_str.ensures) ∙ sym c.contains.ensures ∙ c.loop-name-test.true) c.loop-name.invariant.2,
    )

pub loop-name-smaller : goal.loop-name-smaller
loop-name-smaller c =
    let longer = ap length c.in_ok-push-2.ensures.ok ∙ length_push c.loop-name.name 120 in
    let within = not_longer c.loop-name.name c.args.segments.now (ap (texts_in c.args.segments.now) (sym c.as_str.ensures) ∙ sym c.contains.ensures ∙ c.loop-name-test.true) in
    omega (arith, longer, within)
