use Rattle.std.proofs.Common.{◌≡◌, drop}
use Rattle.pp_syntax.specs.Statements.{function_among}
use Rattle.pp_syntax.proofs.tree.function_among.Given as goal

-- What is found from here on is what is found in all.
abbrev pub invariant-loop-function : goal.invariant-loop-function
invariant-loop-function l = function_among (drop l.function-index l.functions) l.word ≡ function_among l.functions l.word
