use Rattle.std.proofs.Common.{◌≡◌, drop, map}
use Rattle.fs_semantics.specs.FileTree.{is_among}
use Rattle.compiled_models.proofs.programs.is_barred.Given as goal

-- it stands among those that are left as it does among all
abbrev pub invariant-loop-link : goal.invariant-loop-link
invariant-loop-link l = is_among l.p (map (λ k. k.path) (drop l.link-index l.links)) ≡ is_among l.p (map (λ k. k.path) l.links)
