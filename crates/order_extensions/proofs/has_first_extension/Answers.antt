use Rattle.order_extensions.proofs.has_first_extension.Goals as goal

pub returns : goal.returns
returns c = c.first_extensions.ensures.exist c.args.order.now c.count-nodes.ensures.ordered
