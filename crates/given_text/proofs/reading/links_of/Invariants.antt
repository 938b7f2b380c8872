use Rattle.std.proofs.Common.{◌≡◌, ◌++◌, option_map}
use Rattle.std.specs.List.{AllByRecursion}
use Rattle.serde_json.specs.View.{members_view}
use Rattle.given_text.specs.Reading.{links_of, IsProperLink}
use Rattle.given_text.proofs.reading.links_of.Given as goal

-- what was read, with what is still to be read
abbrev pub invariant-loop-key : goal.invariant-loop-key
invariant-loop-key l = (option_map (λ more. l.links ++ more) (links_of (members_view l.key-iterator)) ≡ links_of (members_view l.members.entries)) × AllByRecursion IsProperLink l.links
