use Rattle.std.proofs.Common.{sym, ◌∙◌}
use Rattle.fs_lang.proofs.FrontLaws.{are_disjoint_found, are_disjoint_again}
use Rattle.fs_lang.proofs.fronts.are_disjoint.Goals as goal

pub returns : goal.returns
returns c = (λ h. are_disjoint_found c.args.paths.now (sym c.test_all.ensures ∙ h), λ a. c.test_all.ensures ∙ are_disjoint_again c.args.paths.now a)
