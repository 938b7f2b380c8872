use Rattle.std.proofs.Common.{◌≡◌, drop, ◌++◌}
use Rattle.fs_lang.specs.Meaning.{programs_in}
use Rattle.fs_interpreter.specs.Steps.{all_written}
use Rattle.fs_interpreter.proofs.written.+written.Given as goal

-- what was added so far, with what is left to be, is all of it
abbrev pub invariant-add_all_written-loop-program : goal.invariant-add_all_written-loop-program
invariant-add_all_written-loop-program l =
    l.into.items ++ all_written l.table.paths (programs_in (drop l.program-index l.programs)) ≡ l.fn.into.items ++ all_written l.table.paths (programs_in l.programs)
