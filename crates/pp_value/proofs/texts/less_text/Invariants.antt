use Rattle.std.proofs.Common.{◌≡◌, length}
use Rattle.pp_value.specs.Texts.{less_text}
use Rattle.pp_value.proofs.texts.less_text.Given as goal

abbrev pub invariant-loop-x : goal.invariant-loop-x
invariant-loop-x l = less_text l.front l.rest ≡ less_text l.a l.b

abbrev pub decreases-loop-x : goal.decreases-loop-x
decreases-loop-x l = length l.front
