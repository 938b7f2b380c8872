use Rattle.serde_json.specs.View.{members_view}
use Rattle.pkg_listing.specs.Reading.{packages_of}
use Rattle.pkg_listing.proofs.ReadLaws.{AreRead}
use Rattle.pkg_listing.proofs.reading.packages_of.Given as goal

abbrev pub invariant-loop-name : goal.invariant-loop-name
invariant-loop-name l = AreRead l.version l.packages l.name-iterator (packages_of l.version (members_view l.members.entries))
