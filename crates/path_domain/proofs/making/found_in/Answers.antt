use Rattle.std.proofs.Common.{ap, ◌∙◌}
use Rattle.fs_lang.specs.Meaning.{programs_in}
use Rattle.finite_domain.specs.Matters.{matters_of_steps}
use Rattle.path_domain.specs.Gathered.{gather, nothing}
use Rattle.path_domain.proofs.UseLaws.{same_matters}
use Rattle.path_domain.proofs.making.found_in.Goals as goal

pub returns : goal.returns
returns c = c.in_ok-walk_all.ensures ∙ ap (gather (matters_of_steps (programs_in c.args.programs.now))) c.in_ok-found.ensures ∙ ap (λ xs. gather xs nothing) (same_matters c.args.programs.now)
