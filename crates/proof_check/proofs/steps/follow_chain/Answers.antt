use Rattle.std.proofs.Common.{ℕ, ◌+◌, false, refl, sym, ◌∙◌, subst, arith}
use Rattle.cnf.specs.declared.log.Link.{Link}
use Rattle.proof_check.specs.Joining.{earlier_of, AreClean}
use Rattle.proof_check.proofs.Chains.{leads_more, fails_more}
use Rattle.proof_check.proofs.steps.follow_chain.Goals as goal

pub follow-requires : goal.follow-requires
follow-requires c = record { clean = subst (λ (n : ℕ). AreClean n (earlier_of c.args.cnf.now c.args.steps.now)) (sym c.loop-i.invariant.vars) c.requires.clean }

pub loop-i-preserved : goal.loop-i-preserved
loop-i-preserved c =
    let earlier = earlier_of c.args.cnf.now c.args.steps.now in
    let chain = c.args.chain.now in
    let i = c.loop-i.i in
    let inv = c.loop-i.invariant in
    let lits = c.loop-i.set.lits in
    let next = c.follow.new.set.lits in
    let e : Link = record { number = 0; pivot = record { var = 0; positive = false } } in
    record {
      vars = c.in_ok-follow.ensures.vars ∙ inv.vars;
      leads = λ d rest. inv.leads d (leads_more earlier chain i (omega arith) e lits next d c.in_ok-follow.ensures.ok rest);
      fails = λ wanted cause rest. inv.fails wanted cause (fails_more earlier chain i (omega arith) e wanted lits next (i + 1) (i + 1 + 1) cause refl c.in_ok-follow.ensures.ok rest);
    }
