use Rattle.std.proofs.Common.{◌≡◌, drop}
use Rattle.fs_semantics.specs.FileTree.{is_among}
use Rattle.res_models.proofs.programs.is_barred.Given as goal

-- it stands among those that are left as it does among all
abbrev pub invariant-loop-q : goal.invariant-loop-q
invariant-loop-q l = is_among l.p (drop l.q-index l.barred) ≡ is_among l.p l.barred
