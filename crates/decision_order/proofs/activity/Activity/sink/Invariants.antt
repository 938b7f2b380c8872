use Rattle.std.proofs.Common.{◌≡◌, ◌-◌, ◌<◌, length}
use Rattle.decision_order.proofs.activity.Activity.sink.Given as goal

abbrev pub decreases-sink : goal.decreases-sink
decreases-sink l = length l.initial.self.heap.items - l.place

abbrev pub invariant-sink : goal.invariant-sink
invariant-sink l = record {
  long : length l.self.heap.items ≡ length l.initial.self.heap.items;
  within : l.place < length l.initial.self.heap.items;
}
