use Rattle.std.proofs.Common.{◌&&◌}
use Rattle.cnf.specs.Literals.{lit_true}
use Rattle.cnf.specs.Defining.{and_clauses}
use Rattle.cnf.proofs.Gates.{defined, and_defines}
use Rattle.cnf.proofs.encode.define_and.Goals as goal

pub returns : goal.returns
returns c =
    defined c.args.cnf.now c.add_variable.new.self c.write_and.new.cnf c.in_ok-x.x (λ x. and_clauses x c.args.a c.args.b) (λ v. lit_true v c.args.a && lit_true v c.args.b)
    (and_defines c.args.cnf.now c.args.a c.args.b c.in_ok-x.ensures.formula c.requires.a c.requires.b)
    c.in_ok-x.ensures.number c.in_ok-x.ensures.ok c.in_ok-write_and.ensures
