use Rattle.std.proofs.Common.{◌≡◌, ◌++◌, drop, map}
use Rattle.fs_lang.specs.Meaning.{program_of}
use Rattle.model_semantics.specs.Rows.{installed_file}
use Rattle.model_packages.proofs.packages.push_files.Given as goal

-- the steps so far, with those that are still to be added
abbrev pub invariant-loop-file : goal.invariant-loop-file
invariant-loop-file l = map program_of l.steps ++ map (installed_file l.name) (drop l.file-index l.files) ≡ map program_of l.initial.steps ++ map (installed_file l.name) l.files
