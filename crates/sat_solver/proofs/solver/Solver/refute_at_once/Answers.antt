use Rattle.std.proofs.Common.{◌≡◌, List, [], ◌∷◌, ◌++◌, length, take, sym, ap, ◌∙◌, subst}
use Rattle.cnf.specs.declared.log.Step.{Step}
use Rattle.cnf.specs.Proofs.{IsAccepted}
use Rattle.sat_solver.proofs.Logging.{accepted_first}
use Rattle.sat_solver.proofs.solver.Solver.refute_at_once.Goals as goal

pub returns-clause-accepted : goal.returns-clause-accepted
returns-clause-accepted c =
    let f = c.args.self.now.formula.now in
    let b = c.requires.unsatisfied.broken in
    let step = c.in_ok-step.step in
    let es : c.push.new.self ≡ step ∷ [] = c.in_ok-push.ensures.ok ∙ ap (λ (x : List Step). x ++ step ∷ []) c.requires.steps in
    subst (IsAccepted f) (sym es) (accepted_first f b.count step (c.in_ok-step.ensures.right (take b.count f.clauses) b.stored) c.in_ok-step.ensures.empty)

pub returns-clause-one : goal.returns-clause-one
returns-clause-one c =
    let step = c.in_ok-step.step in
    let es : c.push.new.self ≡ step ∷ [] = c.in_ok-push.ensures.ok ∙ ap (λ (x : List Step). x ++ step ∷ []) c.requires.steps in
    ap (λ (x : List Step). length x) es
