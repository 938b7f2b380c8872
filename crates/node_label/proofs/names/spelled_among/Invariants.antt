use Rattle.std.proofs.Common.{◌≡◌, drop}
use Rattle.node_label.specs.Spelled.{spelled_among}
use Rattle.node_label.proofs.names.spelled_among.Given as goal

abbrev pub invariant-loop-own : goal.invariant-loop-own
invariant-loop-own l = spelled_among l.node (drop l.own-index l.names) ≡ spelled_among l.node l.names
