use Rattle.std.proofs.Common.{◌≡◌, length, reverse}
use Rattle.pp_syntax.specs.Opened.{ending}
use Rattle.pp_syntax.proofs.lexer.opening.Stack.unclosed.Given as goal

abbrev pub invariant-loop-opening : goal.invariant-loop-opening
invariant-loop-opening l = ending (reverse l.self-inside.items.items) ≡ ending l.fn.self

abbrev pub decreases-loop-opening : goal.decreases-loop-opening
decreases-loop-opening l = length l.self-inside.items.items
