use Rattle.std.proofs.Common.{◌∙◌}
use Rattle.trimmed_proofs.proofs.CopyLaws.{at_variables, copied_clause}
use Rattle.trimmed_proofs.proofs.formula.add_copy.Goals as goal

pub add-requires : goal.add-requires
add-requires c =
    at_variables c.args.cnf.now c.requires.formula c.args.i c.requires.low c.requires.high c.args.into.now.vars c.requires.variables c.deref.result.now (c.deref.ensures.value ∙ c.in_ok-lits.ensures)

pub returns : goal.returns
returns c =
    copied_clause c.args.cnf.now c.args.into.now c.add.new.self c.args.i c.deref.result.now c.requires.formula c.requires.low c.requires.high (c.deref.ensures.value ∙ c.in_ok-lits.ensures)
    c.requires.variables c.in_ok-add.ensures.ok
