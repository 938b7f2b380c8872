use Rattle.path_domain.specs.Laid.{layout_of}
use Rattle.size_limits.proofs.paths.paths_of.Goals as goal

pub returns : goal.returns
returns c = λ es is. record { layout = layout_of c.args.domain.now; is_layout = is; count = c.path_count.ensures }
