use Rattle.pp_declared_values.proofs.Naming.{stand_after, goes_after}
use Rattle.pp_declared_values.proofs.attributes.add_attribute.Goals as goal

pub returns-clause-stand : goal.returns-clause-stand
returns-clause-stand c =
    stand_after c.args.given.now c.give.new.given c.args.names.now c.note_name.new.names c.args.a.now c.in_ok-x.x c.give.result c.requires c.in_ok-note_name.ensures.ok c.give.ensures

pub returns-clause-goes_on : goal.returns-clause-goes_on
returns-clause-goes_on c =
    goes_after c.args.scopes.now c.args.given.now c.give.new.given c.args.names.now c.note_name.new.names c.args.a.now c.in_ok-x.x c.give.result c.in_ok-x.ensures
    c.in_ok-note_name.ensures.new c.in_ok-note_name.ensures.ok c.give.ensures
