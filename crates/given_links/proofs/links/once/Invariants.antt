use Rattle.std.proofs.Common.{◌≡◌, drop}
use Rattle.given_links.specs.Reading.{once}
use Rattle.given_links.proofs.links.once.Given as goal

abbrev pub invariant-loop-link : goal.invariant-loop-link
invariant-loop-link l = once (drop l.link-index l.links) l.path ≡ once l.links l.path
