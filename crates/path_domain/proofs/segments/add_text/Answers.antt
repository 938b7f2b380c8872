use Rattle.std.proofs.Common.{sym, ap, ◌∙◌}
use Rattle.path_domain.specs.Segments.{texts_in}
use Rattle.path_domain.proofs.TextLaws.{already, put_in}
use Rattle.path_domain.proofs.segments.add_text.Goals as goal

pub returns-then-contains : goal.returns-then-contains
returns-then-contains c = already c.args.set.now c.args.c.now (ap (texts_in c.args.set.now) (sym c.as_str.ensures) ∙ sym c.contains.ensures ∙ c.if-contains.true)

pub returns : goal.returns
returns c = put_in c.args.set.now c.insert.new.self c.in_ok-copy.copy c.args.c.now (c.in_ok-copy.ensures.ok ∙ c.as_str-2.ensures) c.in_ok-insert.ensures.updates
