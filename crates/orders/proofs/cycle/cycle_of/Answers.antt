use Rattle.std.proofs.lemmas.List.{take_rest}
use Rattle.orders.proofs.Cycles.{cycle_is}
use Rattle.orders.proofs.cycle.cycle_of.Goals as goal

pub returns : goal.returns
returns c = λ edges linked closes.
    let within = rw take_rest at c.index_of_least-least.ensures.within in
    let least = rw take_rest at c.index_of_least-least.ensures.least in
    let h = cycle_is c.args.list.now c.index_of.result c.index_of_least-least.result c.args.node c.index_of.ensures.within c.index_of.ensures.found c.requires.once within least edges linked closes in
    let front = simp take_rest at c.in_ok-extend_from_slice.ensures.items in
    let back = simp take_rest at c.in_ok-extend_from_slice-2.ensures.items in
    rw (c.from_vec.ensures, back, front, c.new-nodes.ensures.items) h
