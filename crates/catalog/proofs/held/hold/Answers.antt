use Rattle.catalog.proofs.RowLaws.{held_after_push}
use Rattle.catalog.proofs.held.hold.Goals as goal

pub returns-in-Ok-clause-rows : goal.returns-in-Ok-clause-rows
returns-in-Ok-clause-rows c =
    held_after_push c.args.h c.grow.new.rows.items c.put_into.new.rows.items c.args.holdings.now.items c.push.new.self.items (c.grow.ensures.stays c.args.holdings.now.items c.requires) c.in_ok-grow.ensures.grown
    c.in-Ok.ensures.ok c.in_ok-push.ensures.items
