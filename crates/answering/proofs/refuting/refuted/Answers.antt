use Rattle.std.proofs.Common.{inl, inr, subst}
use Rattle.cnf.specs.Formulas.{valuation_of}
use Rattle.sat_solver.specs.Turning.{Finds}
use Rattle.answering.proofs.refuting.refuted.Goals as goal

pub returns-in-Model : goal.returns-in-Model
returns-in-Model c =
    let found = subst (Finds c.args.cnf c.args.budget) c.in-Model.is c.in_ok-found.ensures in
    record { formula = tt; no_model = tt; none = inl (valuation_of c.in-Model.field-0, found.1) }

pub returns-in-Spent : goal.returns-in-Spent
returns-in-Spent c =
    let found = subst (Finds c.args.cnf c.args.budget) c.in-Spent.is c.in_ok-found.ensures in
    record { formula = tt; no_model = tt; none = inr found.2 }
