use Rattle.pkg_listing.proofs.FormLaws.{one_listing}
use Rattle.pkg_listing.proofs.laws.listing_texts.Goals as goal

pub returns : goal.returns
returns c = one_listing
