use Rattle.pkg_listing.proofs.SetLaws.{once_where}
use Rattle.pkg_listing.proofs.laws.package_paths.Goals as goal

pub returns : goal.returns
returns c = once_where c.paths.ensures.same
