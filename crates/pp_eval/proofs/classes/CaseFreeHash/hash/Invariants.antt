use Rattle.std.proofs.Common.{◌≡◌, drop, flat_map, fold}
use Rattle.std.specs.Hash as fed
use Rattle.pp_value.specs.Texts.{lowered}
use Rattle.pp_eval.proofs.classes.CaseFreeHash.hash.Given as goal

abbrev pub invariant-loop-b : goal.invariant-loop-b
invariant-loop-b g l = fold g.H.Hasher.write l.state (flat_map fed.u8 (lowered (drop l.b-index l.self.name.now))) ≡ fold g.H.Hasher.write l.initial.state (flat_map fed.u8 (lowered l.self.name.now))
