use Rattle.std.proofs.Common.{◌↔◌, drop}
use Rattle.std.specs.List.{AllByRecursion}
use Rattle.given_links.specs.Links.{IsBehindNone}
use Rattle.given_text.proofs.checking.are_behind_none.Given as goal

-- those that are left do just where all do
abbrev pub invariant-loop-path : goal.invariant-loop-path
invariant-loop-path l = AllByRecursion (λ p. IsBehindNone p l.links) (drop l.path-index l.paths) ↔ AllByRecursion (λ p. IsBehindNone p l.links) l.paths
