use Rattle.std.proofs.Common.{◌≡◌, ◌++◌, take, map}
use Rattle.std.specs.List.{flat_map}
use Rattle.cnf.specs.ProofText.{clause_words, line_text}
use Rattle.cnf.proofs.text.push_formula.Given as goal

abbrev pub invariant-loop-i : goal.invariant-loop-i
invariant-loop-i l = l.out.items ≡ l.initial.out.items ++ flat_map line_text (map clause_words (take l.i l.cnf.clauses))
