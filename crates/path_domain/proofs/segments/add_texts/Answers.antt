use Rattle.std.proofs.Common.{◌+◌, ◌∷◌, drop, sym, ap, ◌∙◌}
use Rattle.std.proofs.lemmas.List.{drop_more}
use Rattle.path_domain.specs.Segments.{texts_in}
use Rattle.path_domain.proofs.TextLaws.{one_text}
use Rattle.path_domain.proofs.segments.add_texts.Goals as goal

pub loop-text-preserved : goal.loop-text-preserved
loop-text-preserved c t =
    let ts = c.args.texts.now in
    let i = c.loop-text.text-index in
    one_text (drop i ts) (drop (i + 1) ts) c.text-item.result (texts_in c.loop-text.set) (texts_in c.add_text.new.set) t
    (drop_more ts i c.text-item.result c.loop-text-test.true ∙ ap (λ x. x ∷ drop (i + 1) ts) (sym c.text-item.is)) c.in_ok-add_text.ensures ∙ c.loop-text.invariant t
