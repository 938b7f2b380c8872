use Rattle.std.proofs.Common.{ap, ◌∙◌}
use Rattle.allowed_order.specs.Names.{position_of}
use Rattle.allowed_order.proofs.Entries.{found}
use Rattle.allowed_order.proofs.names.Names.find.Goals as goal

pub returns : goal.returns
returns c = c.copied.ensures ∙ (c.get.ensures.value ∙ (found c.args.text.now c.self.inside.positions.entries ∙ ap (position_of c.args.text.now) c.self.view_is))
