use Rattle.std.proofs.Common.{ℕ, List, ◌++◌, ◌∷◌, [], sym, ap, ◌∙◌, subst}
use Rattle.sat_solver.specs.Meaning.{IsLearnable}
use Rattle.sat_solver.specs.Solving.{known, IsLogged}
use Rattle.sat_solver.proofs.Logging.{logged_more}
use Rattle.sat_solver.proofs.solver.Solver.learn.Goals as goal

pub assert_learned-requires-clause-learnable : goal.assert_learned-requires-clause-learnable
assert_learned-requires-clause-learnable c last end = subst (IsLearnable c.args.self.now.propagator.trail last) (sym c.deref.ensures.value) (c.in_ok-literals.ensures.learnable last end)

pub returns-clause-state : goal.returns-clause-state
returns-clause-state c =
    let s = c.args.self.now in
    let f = s.formula.now in
    let o = c.requires.conflict.ongoing in
    let d = c.in_ok-literals.ensures in
    let e = known f.clauses s.steps in
    record {
      ready = c.in_ok-assert_learned.ensures.ready;
      ongoing = record {
        logged = subst (IsLogged f c.assert_learned.new.store) (sym c.in_ok-push.ensures.ok)
            (logged_more f s.propagator.store c.assert_learned.new.store s.steps c.in_ok-literals.literals.items c.in_ok-literals.step o.logged (d.derived e o.logged.stored) (d.fresh e o.logged.stored)
            (c.in_ok-assert_learned.ensures.store ∙ ap (λ (x : List ℕ). s.propagator.store ++ x ∷ []) c.deref.ensures.value));
        vars = c.in_ok-assert_learned.ensures.vars ∙ o.vars;
        blank = record { long = d.blank.long ∙ o.vars; none = d.blank.none };
      };
    }
