use Rattle.std.proofs.Common.{◌≡◌, length}
use Rattle.decision_order.proofs.activity.Activity.rise.Given as goal

abbrev pub decreases-rise : goal.decreases-rise
decreases-rise l = l.place

abbrev pub invariant-rise : goal.invariant-rise
invariant-rise l = record {
  long : length l.self.heap.items ≡ length l.initial.self.heap.items;
  firsts : l.self.firsts ≡ l.initial.self.firsts;
}
