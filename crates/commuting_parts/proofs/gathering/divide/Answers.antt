use Rattle.std.proofs.Common.{◌++◌, ap₂, sym, subst, ◌∙◌}
use Rattle.commuting_parts.specs.Parts.{IsDivided}
use Rattle.commuting_parts.proofs.PartLaws.{whole_is, split_at}
use Rattle.commuting_parts.proofs.gathering.divide.Goals as goal

pub returns : goal.returns
returns c =
    let es = c.args.steps.now in
    let front = c.split_at.result.0.now in
    let back = c.split_at.result.1.now in
    subst (IsDivided es) (sym c.in_ok-boxed.ensures) (record {
      whole = whole_is es front back c.in_ok-made.made c.in_ok-rest.rest
          (ap₂ (λ xs ys. xs ++ ys) c.split_at.ensures.front c.split_at.ensures.back ∙ split_at es c.folders_first-count.result) c.in_ok-made.ensures c.in_ok-rest.ensures;
      made = c.in_ok-made_print.ensures;
      rest = c.in_ok-rest_print.ensures;
    })
