use Rattle.std.proofs.Common.{sym, ◌∙◌}
use Rattle.fs_lang.proofs.FrontLaws.{ancestor}
use Rattle.fs_lang.proofs.fronts.is_proper_front.Goals as goal

pub returns-then-p-q : goal.returns-then-p-q
returns-then-p-q c =
    let both = ancestor c.args.p.now c.args.q.now in
    ((λ h. both.0 (c.if-p-q.true, sym c.is_front.ensures ∙ h)), (λ a. c.is_front.ensures ∙ (both.1 a).1))
