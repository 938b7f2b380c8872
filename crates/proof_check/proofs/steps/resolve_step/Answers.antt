use Rattle.std.proofs.Common.{List, ℕ, [], ◌≡◌, Some, inr, sym, ap, ◌∙◌, subst}
use Rattle.std.proofs.lemmas.Bool.Decides.{when_true}
use Rattle.cnf.specs.declared.lit.Lit.{Lit}
use Rattle.cnf.specs.declared.log.Link.{Link}
use Rattle.cnf.specs.Clauses.{HasVariables}
use Rattle.cnf.specs.Proofs.{numbered, Leads}
use Rattle.proof_check.specs.declared.fault.Cause.{Cause}
use Rattle.proof_check.specs.LitSets.{Gathered}
use Rattle.proof_check.specs.Joining.{earlier_of, joined, AreClean}
use Rattle.proof_check.specs.Faults.{ChainFails, StepFails}
use Rattle.proof_check.proofs.Numbers.{joined_none}
use Rattle.proof_check.proofs.Chains.{if_cause}
use Rattle.proof_check.proofs.steps.resolve_step.Goals as goal
use Rattle.proof_check.proofs.steps.resolve_step.Goals.{After-follow_chain}

-- the clause that was loaded is the one with which the step's chain begins
found_at : (c : After-follow_chain) → numbered (earlier_of c.args.cnf.now c.args.steps.now) c.args.step.now.start ≡ Some c.load.new.into.items
found_at c = when_true _ _ c.if-not-found.false c.in_ok-found.ensures

-- the set was filled with it
filled : (c : After-follow_chain) → c.fill.new.set.lits ≡ c.load.new.into.items
filled c =
    let clean = c.requires.clean c.args.step.now.start c.load.new.into.items (found_at c) in
    ap (λ (m : Gathered). m.lits) c.in_ok-fill.ensures
    ∙ ap (λ (x : List Lit). joined x c.deref.result.now) c.requires.empty
    ∙ ap (λ (x : List Lit). joined [] x) c.deref.ensures.value
    ∙ joined_none c.load.new.into.items clean.0

pub fill-requires : goal.fill-requires
fill-requires c =
    let named = c.load.new.into.items in
    let found : numbered (earlier_of c.args.cnf.now c.args.steps.now) c.args.step.now.start ≡ Some named = when_true _ _ c.if-not-found.false c.in_ok-found.ensures in
    subst (HasVariables c.args.set.now.vars) (sym c.deref.ensures.value) (c.requires.clean c.args.step.now.start named found).1

pub follow_chain-requires : goal.follow_chain-requires
follow_chain-requires c =
    record { clean = subst (λ (n : ℕ). AreClean n (earlier_of c.args.cnf.now c.args.steps.now)) (ap (λ (m : Gathered). m.vars) (sym c.in_ok-fill.ensures)) c.requires.clean }

pub returns-in-Ok-clause-ok : goal.returns-in-Ok-clause-ok
returns-in-Ok-clause-ok c =
    let earlier = earlier_of c.args.cnf.now c.args.steps.now in
    let f = (goal.at.returns-in-Ok-clause-ok c).After-follow_chain in (
      c.load.new.into.items,
      found_at f,
      subst (λ (x : List Lit). Leads earlier x c.args.step.now.chain c.follow_chain.new.set.lits) (filled f)
          (subst (λ (x : List Link). Leads earlier c.fill.new.set.lits x c.follow_chain.new.set.lits) c.as_slice.ensures c.in-Ok.ensures.ok),
    )

pub returns-in-Err-clause-fails : goal.returns-in-Err-clause-fails
returns-in-Err-clause-fails c =
    let earlier = earlier_of c.args.cnf.now c.args.steps.now in
    let f = (goal.at.returns-in-Err-clause-fails c).After-follow_chain in
    if_cause c.in-Err.fault _ (StepFails earlier c.args.step.now)
    (λ (cause : Cause) h.
    inr (
      c.load.new.into.items,
      found_at f,
      subst (λ (x : List Lit). ChainFails earlier c.args.step.now.clause x c.args.step.now.chain 1 cause) (filled f)
          (subst (λ (x : List Link). ChainFails earlier c.args.step.now.clause c.fill.new.set.lits x 1 cause) c.as_slice.ensures (h c.args.step.now.clause)),
    ))
    c.in-Err.ensures.fails
