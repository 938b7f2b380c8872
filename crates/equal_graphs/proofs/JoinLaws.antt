-- Two lists of programs, one behind the other.
use Rattle.std.proofs.Common.{List, [], ◌∷◌, ◌++◌}
use Rattle.fs_lang.specs.Meaning.{programs_in}
use Rattle.fs_lang.specs.declared.program.Program as code
use Rattle.fs_interpreter.specs.Places.{Listed, CoversSteps}

-- a table that has what two lists name has what the first names
pub covers_front : (table : Listed) (es fs : List code.Program) → CoversSteps table (programs_in (es ++ fs)) → CoversSteps table (programs_in es)
covers_front table [] fs h = tt
covers_front table (e ∷ es) fs h = (h.0, covers_front table es fs h.1)

-- and what the second names
pub covers_back : (table : Listed) (es fs : List code.Program) → CoversSteps table (programs_in (es ++ fs)) → CoversSteps table (programs_in fs)
covers_back table [] fs h = h
covers_back table (e ∷ es) fs h = covers_back table es fs h.1
