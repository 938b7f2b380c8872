use Rattle.std.proofs.Common.{List, ℕ, ◌++◌, map, sym, ap, ◌∙◌, ◌+◌, append_assoc, arith, take}
use Rattle.std.specs.List.{flat_map}
use Rattle.cnf.specs.Formulas.{clause_at}
use Rattle.cnf.specs.ProofText.{clause_words, line_text}
use Rattle.cnf.proofs.TextLaws.{lines_more}
use Rattle.cnf.proofs.text.push_formula.Goals as goal

pub loop-i-preserved : goal.loop-i-preserved
loop-i-preserved c =
    let cs = c.args.cnf.now.clauses in
    let line = line_text (clause_words (clause_at c.args.cnf.now (c.loop-i.i + 1))) in
    c.in_ok-push_clause.ensures
    ∙ ap (λ (t : List ℕ). t ++ line) c.loop-i.invariant
    ∙ append_assoc c.push-2.new.self.items (flat_map line_text (map clause_words (take c.loop-i.i cs))) line
    ∙ ap (λ (t : List ℕ). c.push-2.new.self.items ++ t) (sym (lines_more cs c.loop-i.i (omega arith)))
