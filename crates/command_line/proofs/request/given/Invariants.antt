use Rattle.std.proofs.Common.{◌≡◌, drop}
use Rattle.command_line.specs.Table.{load_of}
use Rattle.command_line.proofs.request.given.Given as goal

-- what the rest of the files has of the role is what all have
abbrev pub invariant-loop-file : goal.invariant-loop-file
invariant-loop-file g l = load_of l.role (drop l.file-index l.files) ≡ load_of l.role l.files
