use Rattle.std.proofs.Common.{◌-◌, ◌^◌}
use Rattle.unit_propagation.specs.Watching.{IsReady, Extends}
use Rattle.unit_propagation.proofs.propagate.Propagator.propagate.Given as goal

abbrev pub decreases-literals : goal.decreases-literals
decreases-literals l = 2 ^ 32 - l.self.trail.done

abbrev pub invariant-literals : goal.invariant-literals
invariant-literals l = record {
  goes : Extends l.initial.self.store l.initial.self.trail l.self.store l.self.trail;
  ready : IsReady l.self.store l.self.trail l.self.watches;
}
