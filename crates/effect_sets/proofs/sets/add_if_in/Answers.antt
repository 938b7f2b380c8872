use Rattle.std.proofs.Common.{sym, ◌∙◌}
use Rattle.effect_sets.specs.Members.{members}
use Rattle.effect_sets.proofs.SetLaws.{kept_in, kept_out}
use Rattle.effect_sets.proofs.sets.add_if_in.Goals as goal

pub returns-in_ok-add : goal.returns-in_ok-add
returns-in_ok-add c =
    c.in_ok-add.ensures ∙ kept_in c.args.set.now (members c.args.into.now) c.args.p.now (sym c.contains.ensures ∙ c.if-contains.true)

pub returns-else-contains : goal.returns-else-contains
returns-else-contains c = kept_out c.args.set.now (members c.args.into.now) c.args.p.now (sym c.contains.ensures ∙ c.if-contains.false)
