use Rattle.cnf.specs.Defining.{constant_clauses}
use Rattle.cnf.proofs.Gates.{defined, constant_defines}
use Rattle.cnf.proofs.encode.define_constant.Goals as goal

pub returns : goal.returns
returns c =
    defined c.args.cnf.now c.add_variable.new.self c.add.new.self c.in_ok-x.x (λ x. constant_clauses x c.args.b) (λ v. c.args.b)
    (constant_defines c.args.cnf.now c.args.b c.in_ok-x.ensures.formula)
    c.in_ok-x.ensures.number c.in_ok-x.ensures.ok c.in_ok-add.ensures.ok
