use Rattle.std.proofs.Common.{◌↔◌, drop}
use Rattle.given_hosts.specs.Given.{Stand}
use Rattle.known_inputs.proofs.reading.stand.Given as goal

-- those that are left stand just where all do
abbrev pub invariant-loop-folder : goal.invariant-loop-folder
invariant-loop-folder l = Stand (drop l.folder-index l.folders) l.tree ↔ Stand l.folders l.tree
