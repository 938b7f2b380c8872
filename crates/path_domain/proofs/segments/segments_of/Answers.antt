use Rattle.std.proofs.Common.{◌||◌, ◌∙◌, ap}
use Rattle.finite_domain.specs.Domains.{is_text_among}
use Rattle.std.specs.Map.Iter.{deref}
use Rattle.std.proofs.lemmas.Map.Iter.{rest_more}
use Rattle.path_domain.specs.Segments.{texts_in}
use Rattle.path_domain.proofs.TextLaws.{one_path}
use Rattle.path_domain.proofs.segments.segments_of.Goals as goal

pub loop-p-preserved : goal.loop-p-preserved
loop-p-preserved c t =
    let next = rest_more deref c.loop-p.p-iterator c.next.new.self c.next.result c.in-Some.p c.in-Some.is c.next.ensures.steps in
    one_path c.loop-p.p-iterator c.next.new.self c.in-Some.p.now (texts_in c.loop-p.set) (texts_in c.add_texts.new.set) t next (c.in_ok-add_texts.ensures t ∙ ap (λ p. is_text_among t p || texts_in c.loop-p.set t) c.segments.ensures.value)
    ∙ c.loop-p.invariant t
