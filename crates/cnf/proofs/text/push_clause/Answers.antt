use Rattle.std.proofs.Common.{List, ℕ, ◌++◌, sym, ap, ◌∙◌, append_assoc, arith, take}
use Rattle.std.specs.Prelude.{codes}
use Rattle.std.specs.List.{flat_map}
use Rattle.std.proofs.lemmas.List.{take_all}
use Rattle.cnf.specs.Formulas.{clause_at}
use Rattle.cnf.proofs.TextLaws.{lit_piece, flat_map-take_more, clause_line}
use Rattle.cnf.proofs.text.push_clause.Goals as goal

pub loop-k-preserved : goal.loop-k-preserved
loop-k-preserved c =
    let clause = clause_at c.args.cnf.now c.args.i in
    c.in_ok-push_lit.ensures
    ∙ ap (λ (t : List ℕ). t ++ lit_piece c.lit.result) c.loop-k.invariant
    ∙ append_assoc c.args.out.now.items (flat_map lit_piece (take c.loop-k.k clause)) (lit_piece c.lit.result)
    ∙ ap (λ (t : List ℕ). c.args.out.now.items ++ t) (sym (flat_map-take_more lit_piece clause c.loop-k.k c.lit.result c.lit.ensures))

pub returns : goal.returns
returns c =
    let clause = clause_at c.args.cnf.now c.args.i in
    c.in_ok-extend_from_slice.ensures.items
    ∙ ap (λ (t : List ℕ). t ++ codes "0\n") (c.loop-k.invariant ∙ ap (λ (t : _). c.args.out.now.items ++ flat_map lit_piece t) (take_all c.loop-k.k clause (omega arith)))
    ∙ append_assoc c.args.out.now.items (flat_map lit_piece clause) (codes "0\n")
    ∙ ap (λ (t : List ℕ). c.args.out.now.items ++ t) (sym (clause_line clause))
