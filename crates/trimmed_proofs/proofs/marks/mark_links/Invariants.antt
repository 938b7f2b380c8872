use Rattle.std.proofs.Common.{take}
use Rattle.std.specs.Prelude.{◌==◌}
use Rattle.std.specs.List.{list_any}
use Rattle.trimmed_proofs.specs.Marks.{MarksMore}
use Rattle.trimmed_proofs.proofs.marks.mark_links.Given as goal

-- the links so far have marked what they name
abbrev pub invariant-loop-link : goal.invariant-loop-link
invariant-loop-link l = MarksMore l.count l.initial.marks l.marks (λ k. list_any (λ link. link.number == k) (take l.link-index l.links))
