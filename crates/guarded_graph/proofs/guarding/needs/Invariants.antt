use Rattle.std.proofs.Common.{◌≡◌, map, take}
use Rattle.fs_lang.specs.Meaning.{program_of}
use Rattle.given_hosts.specs.Guard.{need}
use Rattle.guarded_graph.proofs.guarding.needs.Given as goal

-- those so far
abbrev pub invariant-loop-p : goal.invariant-loop-p
invariant-loop-p l = map program_of l.all ≡ map need (take l.p-index l.given)
