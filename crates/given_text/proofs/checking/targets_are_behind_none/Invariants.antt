use Rattle.std.proofs.Common.{◌↔◌, drop}
use Rattle.std.specs.List.{AllByRecursion}
use Rattle.given_links.specs.Links.{IsBehindNone}
use Rattle.given_text.proofs.checking.targets_are_behind_none.Given as goal

-- the targets of those that are left do just where all do
abbrev pub invariant-loop-link : goal.invariant-loop-link
invariant-loop-link l = AllByRecursion (λ m. IsBehindNone m.target l.links) (drop l.link-index l.of) ↔ AllByRecursion (λ m. IsBehindNone m.target l.links) l.of
