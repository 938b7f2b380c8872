use Rattle.std.proofs.Common.{◌≡◌, map, take}
use Rattle.trimmed_proofs.specs.Marks.{new_number, renamed_link}
use Rattle.trimmed_proofs.proofs.steps.renamed_links.Given as goal

-- the links so far
abbrev pub invariant-loop-link : goal.invariant-loop-link
invariant-loop-link l = l.renamed ≡ map (renamed_link (new_number l.count l.numbers)) (take l.link-index l.links)
