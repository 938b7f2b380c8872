use Rattle.std.specs.List.{AllByRecursion}
use Rattle.fs_lang.specs.Meaning.{program_of}
use Rattle.smaller_witness.specs.Smaller.{OnlyRemoves}
use Rattle.smaller_witness.proofs.removal.removals.Given as goal

-- each only removes
abbrev pub invariant-loop-q : goal.invariant-loop-q
invariant-loop-q l = AllByRecursion (λ e. OnlyRemoves (program_of e)) l.steps
