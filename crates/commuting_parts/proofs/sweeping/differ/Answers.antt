use Rattle.std.proofs.Common.{ap, sym, ◌∙◌}
use Rattle.std.proofs.lemmas.Bool.{both_ways, not-true}
use Rattle.fs_semantics.specs.FileTree.{path_eq}
use Rattle.fs_semantics.proofs.Trees.{path_eq_refl}
use Rattle.commuting_parts.proofs.sweeping.differ.Goals as goal

pub returns : goal.returns
returns c h same = both_ways _ (not-true _ (sym c.ne.ensures ∙ h)) (ap (λ r. path_eq r c.args.q.now) same ∙ path_eq_refl c.args.q.now)
