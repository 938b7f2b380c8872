use Rattle.std.proofs.Common.{◌≡◌, ◌++◌, drop, map}
use Rattle.given_text.proofs.checking.link_paths.Given as goal

-- the paths so far, with those of the links that are left
abbrev pub invariant-loop-link : goal.invariant-loop-link
invariant-loop-link l = l.paths ++ map (λ m. m.path) (drop l.link-index l.links) ≡ map (λ m. m.path) l.links
