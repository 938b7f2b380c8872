use Rattle.std.proofs.Common.{◌≡◌, drop}
use Rattle.clap.specs.Words.{found_of, rows_of}
use Rattle.command_line.specs.Words.{names_in}
use Rattle.command_line.proofs.RoleLaws.{behind}
use Rattle.command_line.proofs.words.names_of.Given as goal

-- the names so far, with those of the rest, are those of all
abbrev pub invariant-loop-role : goal.invariant-loop-role
invariant-loop-role l = behind l.names (names_in l.tasks (rows_of (found_of l.matches)) (drop l.role-index l.roles)) ≡ names_in l.tasks (rows_of (found_of l.matches)) l.roles
