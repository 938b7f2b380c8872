use Rattle.std.proofs.Common.{List, ◌++◌, Some, ◌-◌, length, sym, ap, ◌∙◌, refl, arith}
use Rattle.std.proofs.lemmas.Option.{slice_get_read}
use Rattle.cnf.specs.declared.lit.Lit.{Lit}
use Rattle.cnf.specs.declared.log.Step.{Step}
use Rattle.proof_check.proofs.Numbers.{in_steps}
use Rattle.proof_check.proofs.steps.load.Goals as goal

pub returns : goal.returns
returns c =
    let s = c.index-steps-index.result in
    let i = c.args.n - c.count-count.result - 1 in
    let n = c.count-count.ensures.count in
    in_steps c.args.cnf.now c.args.steps.now c.args.n i s (omega arith) (slice_get_read c.args.steps.now (length c.args.steps.now) i s refl (omega arith) c.index-steps-index.is)
    ∙ ap (λ (x : Step). Some x.clause) c.index-steps-index.is
    ∙ ap (λ (x : List Lit). Some x) (sym (c.in_ok-extend_from_slice.ensures.items ∙ ap (λ (x : List Lit). x ++ c.lits.result.now) c.clear.ensures.items ∙ c.lits.ensures.lits))
