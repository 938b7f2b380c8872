use Rattle.std.proofs.Common.{if◌then◌else◌}
use Rattle.cnf.specs.Literals.{lit_true}
use Rattle.cnf.specs.Defining.{mux_clauses}
use Rattle.cnf.proofs.Gates.{defined, mux_defines}
use Rattle.cnf.proofs.encode.define_mux.Goals as goal

pub returns : goal.returns
returns c =
    defined c.args.cnf.now c.add_variable.new.self c.write_mux.new.cnf c.in_ok-x.x (λ x. mux_clauses x c.args.c c.args.a c.args.b) (λ v. if lit_true v c.args.c then lit_true v c.args.a else lit_true v c.args.b)
    (mux_defines c.args.cnf.now c.args.c c.args.a c.args.b c.in_ok-x.ensures.formula c.requires.c c.requires.a c.requires.b)
    c.in_ok-x.ensures.number c.in_ok-x.ensures.ok c.in_ok-write_mux.ensures
