use Rattle.std.proofs.Common.{ap, ◌∙◌}
use Rattle.std.proofs.lemmas.Result.{IfOk-weaker}
use Rattle.std.specs.Prelude.{not, ◌&&◌}
use Rattle.order_encode.proofs.GrowthLaws.{◌>>◌}
use Rattle.order_encode.proofs.missing.lack.Goals as goal

pub returns-clause-gives : goal.returns-clause-gives
returns-clause-gives c = IfOk-weaker c.and.result _ _ (λ w is. record {
  owned = is.owned;
  means = λ v.
      let g01 = c.has_wanted.ensures.grows in
      let g12 = c.not.ensures.grows in
      let g23 = c.not-2.ensures.grows in
      let missing = g23.bit c.in_ok-missing.missing c.in_ok-missing.ensures.gives.owned v ∙ c.in_ok-missing.ensures.gives.means v ∙ ap not (c.in_ok-has.ensures.gives.means v) in
      let ended = c.in_ok-ended.ensures.gives.means v ∙ ap not ((g01 >> g12).bit c.args.cells.now.error c.requires.cells.error v) in
      is.means v ∙ (λ i. ended i && missing i);
}) c.and.ensures.gives

pub returns-in_err-missing-clause-grows : goal.returns-in_err-missing-clause-grows
returns-in_err-missing-clause-grows c = c.has_wanted.ensures.grows >> c.not.ensures.grows

pub returns-in_err-ended-clause-grows : goal.returns-in_err-ended-clause-grows
returns-in_err-ended-clause-grows c = c.has_wanted.ensures.grows >> c.not.ensures.grows >> c.not-2.ensures.grows

pub returns-clause-grows : goal.returns-clause-grows
returns-clause-grows c = c.has_wanted.ensures.grows >> c.not.ensures.grows >> c.not-2.ensures.grows >> c.and.ensures.grows
