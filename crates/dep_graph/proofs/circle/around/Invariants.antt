use Rattle.std.proofs.Common.{◌≡◌, ◌++◌, drop}
use Rattle.dep_graph.specs.Circles.{arrows_text, first_text, around_text}
use Rattle.dep_graph.proofs.circle.around.Given as goal

abbrev pub invariant-loop-number : goal.invariant-loop-number
invariant-loop-number l = l.text ++ (arrows_text l.catalog l.bound (drop l.number-index l.numbers) ++ first_text l.catalog l.numbers) ≡ around_text l.catalog l.bound l.numbers
