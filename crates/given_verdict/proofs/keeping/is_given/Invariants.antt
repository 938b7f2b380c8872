use Rattle.std.proofs.Common.{◌≡◌, drop}
use Rattle.fs_semantics.specs.FileTree.{is_among}
use Rattle.given_verdict.proofs.keeping.is_given.Given as goal

-- where it is one of the others, it is one of all
abbrev pub invariant-loop-q : goal.invariant-loop-q
invariant-loop-q l = is_among l.p (drop l.q-index l.given) ≡ is_among l.p l.given
