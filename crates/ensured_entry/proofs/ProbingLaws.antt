-- The programs, and behind them the probe.
use Rattle.std.proofs.Common.{◌≡◌, List, [], ◌∷◌, ◌++◌, map, ap, ◌∙◌}
use Rattle.std.proofs.lemmas.List.{map-append}
use Rattle.fs_lang.specs.Meaning.{program_of, programs_in}
use Rattle.fs_lang.specs.declared.program.Program as code
use Rattle.fs_interpreter.specs.Places.{Listed, CoversSteps}
use Rattle.wanted_entry.specs.declared.wanted.Wanted.{Wanted}
use Rattle.wanted_entry.specs.Entries.{probe_of}
use Rattle.ensured_entry.specs.Probed.{IsProbed}

-- the programs with the probe behind them mean the programs and the probe
pub probed : (es : List code.Program) (w : Wanted) (all : List code.Program) → IsProbed es w all → map program_of all ≡ map program_of es ++ probe_of w ∷ []
probed es w all is = ap (map program_of) is.are ∙ map-append program_of es (is.last ∷ []) ∙ ap (λ e. map program_of es ++ e ∷ []) is.probe

-- a table that has what all programs name has what the first ones do
pub covers_front : (table : Listed) (es more : List code.Program) → CoversSteps table (programs_in (es ++ more)) → CoversSteps table (programs_in es)
covers_front table [] more h = tt
covers_front table (e ∷ es) more h = (h.0, covers_front table es more h.1)
