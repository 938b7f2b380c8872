use Rattle.std.proofs.Common.{◌≡◌, ◌++◌, drop, map}
use Rattle.compiled_models.specs.Programs.{edit_at}
use Rattle.compiled_models.specs.Hosts.{native_of}
use Rattle.compiled_models.proofs.edits.push_edits.Given as goal

-- the edits so far, with those of the paths that are left
abbrev pub invariant-loop-p : goal.invariant-loop-p
invariant-loop-p l = l.edits ++ map (edit_at l.links (native_of l.n)) (drop l.p-index l.paths) ≡ l.initial.edits ++ map (edit_at l.links (native_of l.n)) l.paths
