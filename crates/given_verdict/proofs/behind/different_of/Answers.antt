use Rattle.std.proofs.Common.{inr, map, refl, sym, subst}
use Rattle.std.proofs.lemmas.Bool.{both_ways}
use Rattle.fs_lang.specs.Meaning.{program_of}
use Rattle.given_verdict.specs.Behind.{EndsDifferently}
use Rattle.given_verdict.proofs.behind.different_of.Goals as goal

pub returns : goal.returns
returns c =
    let told = c.in_ok-ends_differently in
    inr (
      (λ d. both_ways told.field-0 c.if-branch.false (told.ensures.1 (subst (EndsDifferently (map program_of c.args.programs.now) c.args.tree) (sym c.as_slice.ensures) d))),
      refl,
    )
