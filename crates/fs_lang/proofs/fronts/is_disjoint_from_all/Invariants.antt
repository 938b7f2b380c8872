use Rattle.std.proofs.Common.{◌≡◌, drop}
use Rattle.fs_lang.specs.Fronts.{is_disjoint_from_all}
use Rattle.fs_lang.proofs.fronts.is_disjoint_from_all.Given as goal

abbrev pub invariant-loop-q : goal.invariant-loop-q
invariant-loop-q l = is_disjoint_from_all l.p (drop l.q-index l.paths) ≡ is_disjoint_from_all l.p l.paths
