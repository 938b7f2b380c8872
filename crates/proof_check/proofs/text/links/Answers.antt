use Rattle.std.proofs.Common.{sym, ap, ◌∙◌}
use Rattle.proof_check.specs.WordReading.{with_front, links_in, pivot_in}
use Rattle.proof_check.proofs.Turns.{links_goes, links_no_pivot, first_more, nothing_more, gives_err}
use Rattle.proof_check.proofs.text.links.Goals as goal

pub returns-in_err-pivot : goal.returns-in_err-pivot
returns-in_err-pivot c =
    gives_err (λ links. (links, c.pivot.new.words)) c.from_residual-in_err-pivot.result c.in_err-pivot.field-0.0 (pivot_in c.args.vars c.count.new.words) (links_in c.args.vars c.args.words.now)
    c.from_residual-in_err-pivot.ensures.1 c.in_err-pivot.ensures.takes
    (λ none. sym c.loop-chain.invariant ∙ nothing_more c.loop-chain.chain (links_in c.args.vars c.loop-chain.words)
    (links_no_pivot c.args.vars c.in_ok-number.number c.loop-chain.words c.count.new.words c.if-number-eq0.false c.in_ok-number.ensures.takes none))

pub loop-chain-preserved : goal.loop-chain-preserved
loop-chain-preserved c =
    ap (λ xs. with_front xs (links_in c.args.vars c.pivot.new.words)) c.in_ok-push.ensures.ok
    ∙ sym (ap (with_front c.loop-chain.chain) (links_goes c.args.vars c.in_ok-number.number c.loop-chain.words c.count.new.words c.pivot.new.words c.in_ok-pivot.pivot c.if-number-eq0.false c.in_ok-number.ensures.takes c.in_ok-pivot.ensures.takes)
    ∙ first_more c.loop-chain.chain _ (links_in c.args.vars c.pivot.new.words))
    ∙ c.loop-chain.invariant
