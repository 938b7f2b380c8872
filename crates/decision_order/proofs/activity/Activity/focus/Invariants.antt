use Rattle.std.proofs.Common.{◌≡◌}
use Rattle.decision_order.proofs.activity.Activity.focus.Given as goal

abbrev pub invariant-focus : goal.invariant-focus
invariant-focus l = l.self.firsts ≡ l.initial.self.firsts
