use Rattle.std.proofs.Common.{map}
use Rattle.fs_lang.specs.Meaning.{program_of}
use Rattle.given_hosts.specs.Given.{Stand}
use Rattle.smaller_witness.specs.Smaller.{Shows, IsWithin}
use Rattle.smaller_witness.proofs.shrinking.shrunk.Given as goal

-- what is left shows the same, the given folders stand in it, and it is of the tree
abbrev pub invariant-loop-p : goal.invariant-loop-p
invariant-loop-p l = record { shows : Shows (map program_of l.programs) l.question l.tree → Shows (map program_of l.programs) l.question l.smaller; stand : Stand l.given l.tree → Stand l.given l.smaller; within : IsWithin l.smaller l.tree }
