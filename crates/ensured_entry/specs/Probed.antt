-- The programs with the probe behind them.
use Rattle.std.specs.Prelude.{◌≡◌, List, [], ◌∷◌, ◌++◌}
use Rattle.fs_lang.specs.Meaning.{program_of}
use Rattle.fs_lang.specs.declared.program.Program as code
use Rattle.wanted_entry.specs.declared.wanted.Wanted.{Wanted}
use Rattle.wanted_entry.specs.Entries.{probe_of}

-- the programs, and behind them the one that the probe is
pub record IsProbed (es : List code.Program) (w : Wanted) (all : List code.Program) : Type 0 where
  pub last : code.Program
  pub are : all ≡ es ++ last ∷ []
  pub probe : program_of last ≡ probe_of w
