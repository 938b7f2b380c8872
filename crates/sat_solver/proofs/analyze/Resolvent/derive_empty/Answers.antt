use Rattle.std.proofs.Common.{◌≡◌, ℕ, List, [], sym, ap, ◌∙◌, subst}
use Rattle.cnf.specs.Proofs.{IsRight}
use Rattle.sat_solver.specs.declared.analyze.Resolution.{Resolution}
use Rattle.sat_solver.specs.Resolving.{in_clause}
use Rattle.sat_solver.proofs.Steps.{step_of, derived}
use Rattle.sat_solver.proofs.Logging.{given_zero, none_left}
use Rattle.sat_solver.proofs.analyze.Resolvent.derive_empty.Goals as goal

pub refute-requires-clause-graph : goal.refute-requires-clause-graph
refute-requires-clause-graph c =
    let p = c.args.propagator.now in
    record { apart = c.len-limit.ensures.apart; short = c.len-limit.ensures.few; reasons = given_zero p.store p.trail p.watches c.requires.level c.requires.sound }

pub returns-clause-right : goal.returns-clause-right
returns-clause-right c earlier store =
    let t = c.args.propagator.now.trail in
    let f = c.args.propagator.now.store in
    let m = c.args.conflict in
    let seen = c.refute.new.self.seen.items in
    let resolutions = c.refute.new.self.resolutions.items in
    let none : c.deref-2.result.now ≡ [] = c.deref-2.ensures.value ∙ c.new-none.ensures.items in
    let es : c.in_ok-step.step ≡ step_of m resolutions [] =
    c.in_ok-step.ensures ∙ ap (λ (h : List Resolution). step_of m h c.deref-2.result.now) c.deref.ensures.value ∙ ap (λ (x : List ℕ). step_of m resolutions x) none in
    let d = derived f earlier (in_clause t.literals seen) m resolutions [] store c.requires.is_false.there c.in_ok-refute.ensures.leads (λ x. sym (none_left t.literals t.vars c.refute.new.self.pending seen c.in_ok-refute.ensures.counted x)) in
    subst (IsRight earlier) (sym es) d.right
