use Rattle.std.proofs.Common.{◌-◌, ◌≤◌, length, take, drop}
use Rattle.unit_propagation.specs.Watching.{Scanning, Continues}
use Rattle.unit_propagation.proofs.propagate.Propagator.propagate_literal.Given as goal

abbrev pub decreases-scan : goal.decreases-scan
decreases-scan l = length l.scan.list.items - l.scan.next

abbrev pub invariant-scan : goal.invariant-scan
invariant-scan l = record {
  order : l.scan.kept ≤ l.scan.next;
  long : l.scan.next ≤ length l.scan.list.items;
  goes : Continues l.initial.self.store l.initial.self.trail l.self.store l.self.trail;
  scanning : Scanning l.self.store l.self.trail l.self.watches (take l.scan.kept l.scan.list.items) (drop l.scan.next l.scan.list.items) l.falsified l.scan.conflict;
}
