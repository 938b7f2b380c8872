use Rattle.std.proofs.Common.{◌≡◌, map, length}
use Rattle.fs_lang.specs.Meaning.{program_of}
use Rattle.commute_prune.specs.Numbers.{IsNumbering}
use Rattle.commute_prune.specs.Numbered.{AreOf}
use Rattle.commute_prune.proofs.matrix.number_programs.Given as goal

-- the sets of the programs so far
abbrev pub invariant-loop-program : goal.invariant-loop-program
invariant-loop-program l = record {
  numbering : IsNumbering l.numbers;
  long : length l.all.items ≡ l.program-index;
  stand : AreOf l.numbers (map program_of l.programs) l.all.items;
}
