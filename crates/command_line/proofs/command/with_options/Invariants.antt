use Rattle.std.proofs.Common.{◌≡◌, drop, map}
use Rattle.clap.specs.Simple.{app_of}
use Rattle.command_line.specs.Words.{with_options}
use Rattle.command_line.proofs.command.with_options.Given as goal

-- with the rest of the options it is the command with all
abbrev pub invariant-loop-name : goal.invariant-loop-name
invariant-loop-name l = with_options (app_of l.command) (map (λ n. n.now) (drop l.name-index l.names)) ≡ with_options (app_of l.fn.command) (map (λ n. n.now) l.names)
