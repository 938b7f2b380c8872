use Rattle.std.proofs.Common.{List, ◌++◌, ◌∷◌, [], take, sym, ap, ◌∙◌, subst, arith}
use Rattle.std.proofs.lemmas.List.{take_more}
use Rattle.proof_check.specs.Refuted.{Refutation}
use Rattle.verdict_report.specs.Told.{AreTrimmedOf}
use Rattle.verdict_report.proofs.TrimmedLaws.{trimmed_more}
use Rattle.verdict_report.proofs.proofs.all_trimmed.Goals as goal

pub loop-verified-preserved : goal.loop-verified-preserved
loop-verified-preserved c =
    let ps = c.args.refuted.now in
    let i = c.loop-verified.verified-index in
    let p = c.verified-item.result in
    let front = take_more ps i p (omega arith) ∙ ap (λ (x : Refutation). take i ps ++ x ∷ []) (sym c.verified-item.is) in
    subst (λ (xs : List Refutation). AreTrimmedOf xs c.push.new.self) (sym front)
    (subst (AreTrimmedOf (take i ps ++ p ∷ [])) (sym c.in_ok-push.ensures.ok)
    (trimmed_more (take i ps) c.loop-verified.left p c.in_ok-trimmed.field-0 c.loop-verified.invariant c.in_ok-trimmed.ensures.trimmed))
