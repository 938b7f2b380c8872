use Rattle.pkg_listing.proofs.FitLaws.{found_fits}
use Rattle.pkg_listing.proofs.listing.Listing.find.Goals as goal

pub returns-clause-fit : goal.returns-clause-fit
returns-clause-fit c = found_fits c.args.name.now c.self.inside.packages c.find.result c.self.invariant c.find.ensures
