use Rattle.std.proofs.Common.{[], ◌∷◌, ◌++◌, ap, ◌∙◌}
use Rattle.allowed_order.specs.Names.{position_of}
use Rattle.allowed_order.proofs.Entries.{added}
use Rattle.allowed_order.proofs.names.Names.add.Goals as goal

pub returns : goal.returns
returns c =
    c.in_ok-insert.ensures.entries
    ∙ (added c.self.inside.positions.entries c.args.text c.args.position (ap (position_of c.args.text) c.self.view_is ∙ c.requires)
    ∙ ap (λ names. names ++ (c.args.text, c.args.position) ∷ []) c.self.view_is)
