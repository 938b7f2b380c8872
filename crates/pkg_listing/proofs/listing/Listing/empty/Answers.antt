use Rattle.pkg_listing.proofs.FitLaws.{none_fit}
use Rattle.pkg_listing.proofs.listing.Listing.empty.Goals as goal

pub invariant_of-result : goal.invariant_of-result
invariant_of-result c = none_fit c.new.result c.new.ensures
